-- The pieces of a spelling nest as its trees.
use Rattle.std.proofs.Common.{◌≡◌, ℕ, ◌+◌, ◌-◌, inl, List, [], ◌∷◌, ◌++◌, length, take, drop, refl, ap, sym, subst, ◌∙◌, arith, length-append, append_assoc}
use Rattle.std.proofs.lemmas.List.{take_at, drop_at}
use Rattle.std.specs.List.{slice_range}
use Rattle.tokens.specs.declared.token.Token as tokens
use Rattle.tokens.specs.Trees as trees
use Rattle.tokens.specs.Trees.{Trees, ◌▸◌}
use Rattle.lexing.specs.declared.piece.Piece.{Piece}
use Rattle.lexing.specs.declared.piece.PieceKind.TheVariants.{Token, Open, Close}
use Rattle.lexing.specs.Nesting.{IsTrees, none, blank, lone, grouped}
use Rattle.lexing.specs.Pieces.{opening, closing}
use Rattle.samples.specs.Spelling as spelling
use Rattle.samples.specs.Spelling.{Spelled, Spelling, end, ◌▹◌, spelled_text, text_of, span_from, tree_before, trees_at}
use Rattle.samples.proofs.Pieces.{piece_from, pieces_before, pieces_at}

-- the slice of a text between what stands before and behind it
slice_between : (source before text behind : List ℕ) (offset : ℕ) → offset ≡ length before → source ≡ before ++ (text ++ behind)
    → slice_range source offset (offset + length text) ≡ text
slice_between source before text behind offset at split =
    let many = offset + length text - offset in
    ap (take many) (ap (drop offset) split ∙ drop_at before (text ++ behind) offset (sym at)) ∙ take_at text behind many (omega arith)

mutual
  -- before pieces that nest as trees, those of what is spelled nest as its tree and those
  pub spelled_nests : (s : Spelled) (source before behind : List ℕ) (offset : ℕ) (ps rest : List Piece) (more : Trees) → offset ≡ length before
      → source ≡ before ++ (spelled_text s ++ behind) → IsTrees source ps more rest → IsTrees source (pieces_before offset s ps) (tree_before offset s more) rest
  spelled_nests (spelling.blank cs) source before behind offset ps rest more at split nests = blank (inl refl) nests
  spelled_nests (spelling.token kind cs) source before behind offset ps rest more at split nests =
      let make : List ℕ → tokens.Token = λ text. record { kind = kind; text = text; span = span_from offset (length cs) } in
      subst (λ v. IsTrees source (pieces_before offset (spelling.token kind cs) ps) (trees.token (make v) ▸ more) rest)
      (slice_between source before cs behind offset at split) (lone {p = piece_from (Token kind) offset (length cs)} refl nests)
  spelled_nests (spelling.group b inner) source before behind offset ps rest more at split nests =
      let within = text_of inner in
      let start = opening b ∷ [] in
      let close = closing b ∷ [] in
      let place = offset + 1 + length within in
      let closed = piece_from (Close b) place 1 in
      let split_inside : source ≡ before ++ (start ++ (within ++ (close ++ behind))) = split ∙ ap (λ v. before ++ (start ++ v)) (append_assoc within close behind) in
      let split_open = split_inside ∙ sym (append_assoc before start (within ++ (close ++ behind))) in
      let starts : offset + 1 ≡ length (before ++ start) = omega (arith, at, length-append before start) in
      let inside = spelling_nests inner source (before ++ start) (close ++ behind) (offset + 1) (closed ∷ ps) starts split_open in
      grouped {p = piece_from (Open b) offset 1} {q = closed} refl inside refl refl (omega (arith, length-append within close)) nests

  pub spelling_nests : (s : Spelling) (source before behind : List ℕ) (offset : ℕ) (rest : List Piece) → offset ≡ length before
      → source ≡ before ++ (text_of s ++ behind) → IsTrees source (pieces_at offset s rest) (trees_at offset s) rest
  spelling_nests end source before behind offset rest at split = none
  spelling_nests (s ▹ more) source before behind offset rest at split =
      let front = spelled_text s in
      let next = offset + length front in
      let here : source ≡ before ++ (front ++ (text_of more ++ behind)) = split ∙ ap (λ v. before ++ v) (append_assoc front (text_of more) behind) in
      let there : source ≡ (before ++ front) ++ (text_of more ++ behind) = here ∙ sym (append_assoc before front (text_of more ++ behind)) in
      let after = spelling_nests more source (before ++ front) behind next rest (omega (arith, at, length-append before front)) there in
      spelled_nests s source before (text_of more ++ behind) offset (pieces_at next more rest) rest (trees_at next more) at here after
