-- A text cut piece by piece.
use Rattle.std.proofs.Common.{◌≡◌, ℕ, ◌+◌, ◌<◌, ◌≤◌, List, [], ◌∷◌, ◌++◌, length, refl, ap, sym, subst, ◌∙◌, arith, Option, Some, None, true, length-append, append_assoc}
use Rattle.std.proofs.lemmas.Bool.{and_parts}
use Rattle.std.proofs.lemmas.Str.{encodes-chars, encodes-append, scalars-chars, IsCharBoundary-at_seam}
use Rattle.std.specs.Str.{chars, IsUtf8, IsCharBoundary, encode_utf8_all, all_scalars}
use Rattle.std.specs.Coded.{le_prop}
use Rattle.texts.specs.declared.span.Span.{Span}
use Rattle.lexing.specs.declared.piece.Piece.{Piece}
use Rattle.lexing.specs.declared.piece.PieceKind.{PieceKind}
use Rattle.lexing.specs.Pieces.{Cuts}
use Rattle.lexing.specs.Scanning.{piece_at}
use Rattle.lexing.specs.Reading.{EndFrom, LieIn}
use Rattle.lexing.proofs.PieceLaws.{finds_longest, longest_found, none_begins}
use Rattle.lexing.proofs.TextLaws.{same_parts}

-- spans with the same ends are the same
span_from : (t : Span) (a b : ℕ) (h : a ≤ b) → a ≡ t.start → b ≡ t.end → (let s : Span = record { start = a; end = b; ordered = h } in s) ≡ t
span_from t a b h e f =
    let make : (x y : ℕ) → x ≤ y → Span = λ x y l. record { start = x; end = y; ordered = l } in
    let at_ends : (l : t.start ≤ t.end) → make t.start t.end l ≡ t = λ l. ap (make t.start t.end) (le_prop l t.ordered) in
    let at_start : (y : ℕ) (l : t.start ≤ y) → t.end ≡ y → make t.start y l ≡ t = λ y l g. subst (λ v. (m : t.start ≤ v) → make t.start v m ≡ t) g at_ends l in
    subst (λ v. (l : v ≤ b) → make v b l ≡ t) (sym e) (λ l. at_start b l (sym f)) h

pub span_same : (s t : Span) → s.start ≡ t.start → s.end ≡ t.end → s ≡ t
span_same s t e f = span_from t s.start s.end s.ordered e f

-- one more piece at the front
pub cuts_more : (p : Piece) (ps : List Piece) (at stop : ℕ) (text rest : List ℕ) → piece_at text ≡ Some (p.kind, rest) → p.span.start ≡ at → p.span.end ≡ stop
    → ((front : List ℕ) → text ≡ front ++ rest → stop ≡ at + length (encode_utf8_all front)) → Cuts ps stop rest → Cuts (p ∷ ps) at text
cuts_more p ps at stop text rest e s f h c =
    let found = finds_longest text p.kind rest e in
    (found.0, rest, found.1, found.2, s, f ∙ h found.0 found.1, subst (λ v. Cuts ps v rest) (sym f) c)

-- one more piece at the end of those found
pub cuts_pushed : (p : Piece) (found new : List Piece) (begin at stop : ℕ) (whole text rest : List ℕ) → new ≡ found ++ p ∷ [] → piece_at text ≡ Some (p.kind, rest) → p.span.start ≡ at → p.span.end ≡ stop
    → ((front : List ℕ) → text ≡ front ++ rest → stop ≡ at + length (encode_utf8_all front)) → ((ps : List Piece) → Cuts ps at text → Cuts (found ++ ps) begin whole)
    → (ps : List Piece) → Cuts ps stop rest → Cuts (new ++ ps) begin whole
cuts_pushed p found new begin at stop whole text rest e f s t h kept ps c = rw e (rw append_assoc (kept (p ∷ ps) (cuts_more p ps at stop text rest f s t h c)))

-- what is left, where the front is a piece
pub cuts_left : (all : List Piece) (at stop : ℕ) (text rest : List ℕ) (k : PieceKind) → piece_at text ≡ Some (k, rest)
    → ((front : List ℕ) → text ≡ front ++ rest → stop ≡ at + length (encode_utf8_all front)) → Cuts all at text → (ps : List Piece) × Cuts ps stop rest
cuts_left [] at stop text rest k e h c = absurd (none_begins text k rest c e)
cuts_left (p ∷ ps) at stop text rest k e h c =
    let here : ◌≡◌ {A = Option (PieceKind × List ℕ)} (Some (p.kind, c.1)) (Some (k, rest)) = sym (longest_found p.kind c.0 c.1 c.3) ∙ ap piece_at (sym c.2) ∙ e in
    let pairs : ◌≡◌ {A = PieceKind × List ℕ} (p.kind, c.1) (k, rest) = cc in
    let rests : c.1 ≡ rest = ap (λ v. v.1) pairs in
    let stops : p.span.end ≡ stop = c.5 ∙ sym (h c.0 (c.2 ∙ ap (λ v. c.0 ++ v) rests)) in
    (ps, subst (λ v. Cuts ps v rest) stops (subst (λ v. Cuts ps p.span.end v) rests c.6))

-- where no piece begins, there is no cut
pub no_cuts : (all : List Piece) (at : ℕ) (text : List ℕ) → 0 < length text → piece_at text ≡ None → Cuts all at text → ⊥
no_cuts [] at text l e c = absurd (omega (arith, ap length c))
no_cuts (p ∷ ps) at text l e c = let here = longest_found p.kind c.0 c.1 c.3 in let there : piece_at text ≡ Some (p.kind, c.1) = ap piece_at c.2 ∙ here in cc

-- how many bytes a front takes
pub front_bytes : (text rest front : List ℕ) → IsUtf8 text → IsUtf8 rest → chars text ≡ front ++ chars rest → length text ≡ length (encode_utf8_all front) + length rest
front_bytes text rest front u v e =
    let whole : text ≡ encode_utf8_all front ++ rest =
    sym (encodes-chars text u) ∙ ap encode_utf8_all e ∙ encodes-append front (chars rest) ∙ ap (λ w. encode_utf8_all front ++ w) (encodes-chars rest v) in
    omega (arith, ap length whole, length-append (encode_utf8_all front) rest)

nonempty : (text cs : List ℕ) → encode_utf8_all cs ≡ text → (length text ≡ 0 → ⊥) → 0 < length cs
nonempty text [] e h = absurd (h (sym (ap length e)))
nonempty text (c ∷ cs) e h = omega arith

pub chars_nonempty : (text : List ℕ) → IsUtf8 text → (length text ≡ 0 → ⊥) → 0 < length (chars text)
chars_nonempty text u h = nonempty text (chars text) (encodes-chars text u) h

-- a text has one cut
pub same_pieces : (ps qs : List Piece) (at : ℕ) (text : List ℕ) → Cuts ps at text → Cuts qs at text → ps ≡ qs
same_pieces [] [] at text c d = refl
same_pieces [] (q ∷ qs) at text c d = absurd (none_begins text q.kind d.1 c (ap piece_at d.2 ∙ longest_found q.kind d.0 d.1 d.3))
same_pieces (p ∷ ps) [] at text c d = absurd (none_begins text p.kind c.1 d (ap piece_at c.2 ∙ longest_found p.kind c.0 c.1 c.3))
same_pieces (p ∷ ps) (q ∷ qs) at text c d =
    let here : ◌≡◌ {A = Option (PieceKind × List ℕ)} (Some (p.kind, c.1)) (Some (q.kind, d.1)) = sym (ap piece_at c.2 ∙ longest_found p.kind c.0 c.1 c.3) ∙ ap piece_at d.2 ∙ longest_found q.kind d.0 d.1 d.3 in
    let pairs : ◌≡◌ {A = PieceKind × List ℕ} (p.kind, c.1) (q.kind, d.1) = cc in
    let kinds : p.kind ≡ q.kind = ap (λ v. v.0) pairs in
    let rests : c.1 ≡ d.1 = ap (λ v. v.1) pairs in
    let whole : c.0 ++ c.1 ≡ d.0 ++ d.1 = sym c.2 ∙ d.2 in
    let lengths : length c.0 ≡ length d.0 = omega (arith, ap length whole, ap length rests, length-append c.0 c.1, length-append d.0 d.1) in
    let fronts : c.0 ≡ d.0 = (same_parts c.0 d.0 c.1 d.1 whole lengths).0 in
    let stops : p.span.end ≡ q.span.end = c.5 ∙ ap (λ v. at + length (encode_utf8_all v)) fronts ∙ sym d.5 in
    let spans : p.span ≡ q.span = span_same p.span q.span (c.4 ∙ sym d.4) stops in
    let tails : ps ≡ qs = same_pieces ps qs q.span.end d.1 (subst (λ v. Cuts ps v d.1) stops (subst (λ v. Cuts ps p.span.end v) rests c.6)) d.6 in
    let make : PieceKind → Span → Piece = λ k s. record { kind = k; span = s } in
    let heads : p ≡ q = ap (λ v. make v p.span) kinds ∙ ap (λ v. make q.kind v) spans in
    ap (λ v. v ∷ ps) heads ∙ ap (λ v. q ∷ v) tails

-- ---- the pieces of a source lie in it
pub ends_later : (ps : List Piece) (n at : ℕ) (text : List ℕ) → n ≤ at → Cuts ps at text → EndFrom n ps
ends_later [] n at text l c = tt
ends_later (p ∷ ps) n at text l c = let here : n ≤ p.span.end = omega (arith, c.5) in (here, ends_later ps n p.span.end c.1 here c.6)

scalars_rest : (front rest : List ℕ) → all_scalars (front ++ rest) ≡ true → all_scalars rest ≡ true
scalars_rest [] rest e = e
scalars_rest (c ∷ cs) rest e = scalars_rest cs rest (and_parts _ (all_scalars (cs ++ rest)) e).1

lie_after : (source : List ℕ) (ps : List Piece) (at : ℕ) (before text : List ℕ) → all_scalars text ≡ true → source ≡ before ++ encode_utf8_all text → at ≡ length before → Cuts ps at text → LieIn source ps
lie_after source [] at before text u e l c = tt
lie_after source (p ∷ ps) at before text u e l c =
    let front = c.0 in
    let rest = c.1 in
    let starts : p.span.start ≡ length before = c.4 ∙ l in
    let further : source ≡ (before ++ encode_utf8_all front) ++ encode_utf8_all rest =
    e ∙ ap (λ v. before ++ encode_utf8_all v) c.2 ∙ ap (λ v. before ++ v) (encodes-append front rest) ∙ sym (append_assoc before (encode_utf8_all front) (encode_utf8_all rest)) in
    let stops : p.span.end ≡ length (before ++ encode_utf8_all front) = omega (arith, c.5, l, length-append before (encode_utf8_all front)) in
    let left : all_scalars rest ≡ true = scalars_rest front rest (sym (ap all_scalars c.2) ∙ u) in (
      subst (IsCharBoundary source) (sym starts) (IsCharBoundary-at_seam source before (encode_utf8_all text) e (text, (u, refl))),
      subst (IsCharBoundary source) (sym stops) (IsCharBoundary-at_seam source (before ++ encode_utf8_all front) (encode_utf8_all rest) further (rest, (left, refl))),
      ends_later ps p.span.start p.span.end rest p.span.ordered c.6,
      lie_after source ps p.span.end (before ++ encode_utf8_all front) rest left further stops c.6,
    )

pub pieces_lie : (source : List ℕ) (ps : List Piece) → IsUtf8 source → Cuts ps 0 (chars source) → LieIn source ps
pieces_lie source ps u c = lie_after source ps 0 [] (chars source) (scalars-chars source u) (sym (encodes-chars source u)) refl c
