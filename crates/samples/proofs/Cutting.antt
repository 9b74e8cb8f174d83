-- The pieces of a spelling cut its text.
use Rattle.std.proofs.Common.{◌≡◌, ℕ, ◌+◌, List, [], ◌∷◌, ◌++◌, length, refl, sym, subst, arith, length-append, append_assoc}
use Rattle.std.specs.Str.{IsAscii}
use Rattle.lexing.specs.declared.piece.Piece.{Piece}
use Rattle.lexing.specs.declared.piece.PieceKind.TheVariants.{Space, Token, Open, Close}
use Rattle.lexing.specs.Pieces.{opening, closing, Cuts}
use Rattle.samples.specs.Spelling.{Spelled, Spelling, blank, token, group, end, ◌▹◌, spelled_text, text_of, IsCutThere, AreCutThere}
use Rattle.samples.proofs.Pieces.{piece_from, pieces_before, pieces_at, ascii_front, ascii_rest, opening_found, closing_found, found_before}

mutual
  -- before pieces that cut what follows, those of what is spelled cut its text and what follows
  pub spelled_cuts : (s : Spelled) (behind : List ℕ) (offset stop : ℕ) (rest : List Piece) → IsAscii (spelled_text s) → IsCutThere s behind
      → stop ≡ offset + length (spelled_text s) → Cuts rest stop behind → Cuts (pieces_before offset s rest) offset (spelled_text s ++ behind)
  spelled_cuts (blank cs) behind offset stop rest h there e cuts =
      found_before Space cs behind offset rest h there (subst (λ v. Cuts rest v behind) e cuts)
  spelled_cuts (token kind cs) behind offset stop rest h there e cuts =
      found_before (Token kind) cs behind offset rest h there (subst (λ v. Cuts rest v behind) e cuts)
  spelled_cuts (group b inner) behind offset stop rest h there e cuts =
      let within = text_of inner in
      let start = opening b ∷ [] in
      let close = closing b ∷ [] in
      let inner_ascii = ascii_rest start (within ++ close) h in
      let place = offset + 1 + length within in
      let closed = piece_from (Close b) place 1 ∷ rest in
      let inside = pieces_at (offset + 1) inner closed in
      let all_closed : Cuts rest (place + 1) behind = subst (λ v. Cuts rest v behind) (omega (arith, e, length-append within close)) cuts in
      let from_close = found_before (Close b) close behind place rest (ascii_rest within close inner_ascii) (closing_found b behind) all_closed in
      let from_inside = spelling_cuts inner (close ++ behind) (offset + 1) place closed (ascii_front within close inner_ascii) there refl from_close in
      found_before (Open b) start ((within ++ close) ++ behind) offset inside (ascii_front start (within ++ close) h) (opening_found b ((within ++ close) ++ behind))
      (subst (λ v. Cuts inside (offset + 1) v) (sym (append_assoc within close behind)) from_inside)

  pub spelling_cuts : (spelling : Spelling) (behind : List ℕ) (offset stop : ℕ) (rest : List Piece) → IsAscii (text_of spelling) → AreCutThere spelling behind
      → stop ≡ offset + length (text_of spelling) → Cuts rest stop behind → Cuts (pieces_at offset spelling rest) offset (text_of spelling ++ behind)
  spelling_cuts end behind offset stop rest h there e cuts = subst (λ v. Cuts rest v behind) (omega (arith, e)) cuts
  spelling_cuts (s ▹ more) behind offset stop rest h there e cuts =
      let front = spelled_text s in
      let lengths = length-append front (text_of more) in
      let next = offset + length front in
      let after = spelling_cuts more behind next stop rest (ascii_rest front (text_of more) h) there.1 (omega (arith, e, lengths)) cuts in
      subst (λ v. Cuts (pieces_at offset (s ▹ more) rest) offset v) (sym (append_assoc front (text_of more) behind))
      (spelled_cuts s (text_of more ++ behind) offset next (pieces_at next more rest) (ascii_front front (text_of more) h) there.0 refl after)
