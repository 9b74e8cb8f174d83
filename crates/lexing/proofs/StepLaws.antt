-- One step of reading a source, some trees at a time.
use Rattle.std.proofs.Common.{◌≡◌, ℕ, ◌-◌, ◌≤◌, arith, ◌⊎◌, inl, inr, List, [], ◌∷◌, ◌++◌, length, ap, sym, subst, ◌∙◌, append_assoc}
use Rattle.std.proofs.lemmas.List.{append-nil}
use Rattle.std.proofs.lemmas.Str.{chars-nil}
use Rattle.std.specs.Borrow.{Bor}
use Rattle.std.specs.Str.{chars, IsUtf8}
use Rattle.diag.specs.Refusal.{IsErrorFor}
use Rattle.diag.specs.declared.error.DeriveError.{DeriveError}
use Rattle.tokens.specs.Trees.{Trees, end, depth}
use Rattle.lexing.specs.declared.chunks.Chunks.{Chunks}
use Rattle.lexing.specs.declared.piece.LexError.{LexError}
use Rattle.lexing.specs.declared.piece.LexError.TheVariants.{Memory, TooDeep, Stopped}
use Rattle.lexing.specs.declared.piece.Piece.{Piece}
use Rattle.lexing.specs.declared.scan.Front.{Front}
use Rattle.lexing.specs.Pieces.{Cuts}
use Rattle.lexing.specs.Scanning.{IsUncutFrom}
use Rattle.lexing.specs.Nesting.{joined, IsTrees, none, later}
use Rattle.lexing.specs.Reading.{LieIn, Stops, IsUnnested}
use Rattle.lexing.specs.Cut.{most_open, IsCut, StopsAt, IsUnread, IsToldOf, IsSyntaxError}
use Rattle.lexing.specs.Fronts.{count_open, IsFront}
use Rattle.lexing.specs.Chunks.{IsReadTo, place_of}
use Rattle.lexing.proofs.CutLaws.{same_pieces, pieces_lie}
use Rattle.lexing.proofs.NestLaws.{after, cancel, too_many, lie_after}
use Rattle.lexing.proofs.LexLaws.{trees_of_pieces}
use Rattle.lexing.proofs.RawLaws.{none_known}
use Rattle.lexing.proofs.ChunkLaws.{joined_depth, trees_before, opens_before, stops_before, front_lies, back_lies, front_nests}

-- where nothing is left, the trees are all
pub all_read : (c : Chunks) (trees : Trees) → IsReadTo c trees → c.rest.now ≡ [] → IsCut c.source.now trees
all_read c trees r e =
    let none_left : r.left ≡ [] = same_pieces r.left [] (place_of c) (chars c.rest.now) r.ahead (ap chars e ∙ chars-nil) in
    let all : r.read ++ r.left ≡ r.read = ap (λ v. r.read ++ v) none_left ∙ append-nil r.read in
    (r.read, subst (λ v. Cuts v 0 (chars c.source.now)) all r.whole, r.nests)

-- what is left can be cut
pub can_be_cut : (c : Chunks) (trees : Trees) → IsReadTo c trees → (e : LexError) → IsUncutFrom c.source.now c.rest.now e → IsUnread c.source.now e
can_be_cut c trees r Memory h = tt
can_be_cut c trees r (TooDeep span) h = absurd h
can_be_cut c trees r (Stopped span) h = absurd (h.1 r.left r.ahead)

-- nothing is read of a source that is cut
pub not_begun : (source : List ℕ) (text : Bor (List ℕ)) (all : List Piece) → text.now ≡ source → IsUtf8 source → Cuts all 0 (chars source) → IsReadTo (record { source = text; rest = text; unclosed = 256 }) end
not_begun source text all e u cut =
    let none_read : length text.now - length text.now ≡ 0 = omega arith in
    let here : Cuts all 0 (chars text.now) = subst (λ v. Cuts all 0 (chars v)) (sym e) cut in record {
      read = [];
      left = all;
      whole = here;
      ahead = subst (λ v. Cuts all v (chars text.now)) (sym none_read) here;
      nests = none;
      shallow = omega arith;
      known = none_known (chars text.now);
      is_text = subst IsUtf8 (sym e) u;
      within = omega arith;
    }

-- where what is left cannot be cut, the source is refused
pub told_uncut : (source rest : List ℕ) (e : LexError) (told : DeriveError)
    → ((whole : List Piece) → Cuts whole 0 (chars source) → (ps : List Piece) × Cuts ps (length source - length rest) (chars rest)) → IsUncutFrom source rest e → IsToldOf e told
    → IsErrorFor (IsSyntaxError source) told
told_uncut source rest Memory told leaves u h = inl h
told_uncut source rest (TooDeep span) told leaves u h = absurd u
told_uncut source rest (Stopped span) told leaves u (inl memory) = inl memory
told_uncut source rest (Stopped span) told leaves u (inr refuses) = inr (span, refuses, (u.0, λ ts cut. let left = leaves cut.0 cut.1 in u.1 left.0 left.1))

module _ (c : Chunks) (trees : Trees) (r : IsReadTo c trees) (front : Front) (f : IsFront c.source.now c.rest.now front) where
  abbrev source : List ℕ
  source = c.source.now

  -- the pieces behind those at the front
  abbrev behind : List Piece
  behind = (f.leaves r.left r.ahead).0

  abbrev cuts_behind : Cuts behind (length source - length front.rest.now) (chars front.rest.now)
  cuts_behind = (f.leaves r.left r.ahead).1

  abbrev all : List Piece
  all = r.read ++ (front.pieces ++ behind)

  whole : Cuts all 0 (chars source)
  whole =
      let same : r.left ≡ front.pieces ++ behind = same_pieces r.left (front.pieces ++ behind) (place_of c) (chars c.rest.now) r.ahead (f.joins behind cuts_behind) in
      subst (λ v. Cuts (r.read ++ v) 0 (chars source)) same r.whole

  pub front_is_in : LieIn source front.pieces
  front_is_in = front_lies source front.pieces behind (back_lies source r.read (front.pieces ++ behind) (pieces_lie source all r.is_text whole))

  is_closed : (behind ≡ []) ⊎ (count_open 0 front.pieces ≡ 0)
  is_closed =
      elim f.closed [
        | inl e ↦ inl (same_pieces behind [] (length source - length front.rest.now) (chars front.rest.now) cuts_behind (ap chars e ∙ chars-nil))
        | inr e ↦ inr e
      ]

  reading : IsTrees source all trees (front.pieces ++ behind)
  reading = trees_before source (front.pieces ++ behind) r.nests

  -- why the pieces do not nest is why the source is not read
  pub unread : (e : LexError) → IsUnnested source most_open front.pieces e → IsUnread source e
  unread Memory h = tt
  unread (TooDeep span) h = (all, whole, later reading r.shallow (opens_before source behind h))
  unread (Stopped span) h = (
    h.0,
    λ us cut.
        let left = cancel source reading (trees_of_pieces source all us whole cut) tt in
        let nested = front_nests source front.pieces behind left.0 left.2 is_closed in
        h.1 nested.0 [] nested.1 tt,
  )

  -- no trees go on at a closing bracket
  pub stops_here : (ts : Trees) (closing more : List Piece) (p : Piece) → IsTrees source front.pieces ts closing → Stops closing → closing ≡ p ∷ more → StopsAt source p.span
  stops_here ts closing more p t stops e =
      let here : LieIn source (p ∷ more) = subst (LieIn source) e (lie_after source t front_is_in) in
      let read = after source reading (trees_before source behind t) in
      let stop : Stops (closing ++ behind) = stops_before source closing behind p more stops e in (
        here.1.0,
        λ us cut. too_many source all (closing ++ behind) (more ++ behind) (joined trees ts) us p read stop (ap (λ v. v ++ behind) e) (trees_of_pieces source all us whole cut),
      )

  pub goes_on : (ts : Trees) (closing : List Piece) → IsTrees source front.pieces ts closing → closing ≡ [] → depth ts ≤ most_open
      → IsReadTo (record { source = c.source; rest = front.rest; unclosed = front.unclosed }) (joined trees ts)
  goes_on ts closing t e low = record {
    read = r.read ++ front.pieces;
    left = behind;
    whole = subst (λ v. Cuts v 0 (chars source)) (sym (append_assoc r.read front.pieces behind)) whole;
    ahead = cuts_behind;
    nests = after source (trees_before source front.pieces r.nests) (subst (λ v. IsTrees source front.pieces ts v) e t);
    shallow = joined_depth trees ts most_open r.shallow low;
    known = f.known;
    is_text = r.is_text;
    within = omega (arith, f.shorter, r.within);
  }
