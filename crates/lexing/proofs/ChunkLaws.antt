-- Pieces at the front of others: how both nest, and where both lie.
use Rattle.std.proofs.Common.{◌≡◌, ℕ, ◌+◌, ◌-◌, ◌<◌, ◌≤◌, arith, ◌⊎◌, inl, inr, List, [], ◌∷◌, ◌++◌, refl, ap, sym, subst, ◌∙◌}
use Rattle.std.proofs.lemmas.List.{append-nil}
use Rattle.texts.specs.declared.span.Span.{Span}
use Rattle.tokens.specs.declared.token.Bracket.{Bracket}
use Rattle.tokens.specs.declared.token.TokenKind.{TokenKind}
use Rattle.lexing.specs.declared.piece.Piece.{Piece}
use Rattle.lexing.specs.declared.piece.PieceKind.{PieceKind}
use Rattle.lexing.specs.declared.piece.PieceKind.TheVariants.{Space, Comment, Token, Open, Close}
use Rattle.tokens.specs.Trees.{Trees, token, group, end, ◌▸◌, depth}
use Rattle.lexing.specs.Fronts.{open_after_piece, count_open}
use Rattle.lexing.specs.Nesting.{joined, token_of, IsTrees, none, blank, lone, grouped, Opens, here, inside, later}
use Rattle.lexing.specs.Reading.{EndFrom, LieIn, Stops}

pub joined_depth : (ts us : Trees) (n : ℕ) → depth ts ≤ n → depth us ≤ n → depth (joined ts us) ≤ n
joined_depth end us n a b = b
joined_depth (t ▸ ts) us n a b = let h : depth (joined ts us) ≤ n = joined_depth ts us n (omega (arith, a)) b in omega (arith, a, h)

module _ (source : List ℕ) where
  -- ---- where others follow
  pub trees_before : {ps rest : List Piece} {ts : Trees} (more : List Piece) → IsTrees source ps ts rest → IsTrees source (ps ++ more) ts (rest ++ more)
  trees_before more none = none
  trees_before more (blank k r) = blank k (trees_before more r)
  trees_before more (lone k r) = lone k (trees_before more r)
  trees_before more (grouped k r l a z s) = grouped k (trees_before more r) l a z (trees_before more s)

  pub opens_before : {n : ℕ} {ps : List Piece} {span : Span} (more : List Piece) → Opens source n ps span → Opens source n (ps ++ more) span
  opens_before more (here k) = here k
  opens_before more (inside k o) = inside k (opens_before more o)
  opens_before more (later r low o) = later (trees_before more r) low (opens_before more o)

  pub stops_before : (rest more : List Piece) (p : Piece) (ps : List Piece) → Stops rest → rest ≡ p ∷ ps → Stops (rest ++ more)
  stops_before [] more p ps s e = cc
  stops_before (q ∷ qs) more p ps s e = s

  -- ---- where they lie
  ends_of_front : (n : ℕ) (ps more : List Piece) → EndFrom n (ps ++ more) → EndFrom n ps
  ends_of_front n [] more h = tt
  ends_of_front n (p ∷ ps) more h = (h.0, ends_of_front n ps more h.1)

  pub front_lies : (ps more : List Piece) → LieIn source (ps ++ more) → LieIn source ps
  front_lies [] more h = tt
  front_lies (p ∷ ps) more h = (h.0, h.1, ends_of_front p.span.start ps more h.2, front_lies ps more h.3)

  pub back_lies : (ps more : List Piece) → LieIn source (ps ++ more) → LieIn source more
  back_lies [] more h = h
  back_lies (p ∷ ps) more h = back_lies ps more h.3

  -- ---- pieces of a whole that nest, where as many brackets are closed as were opened
  -- the trees end in the front
  abbrev Covers : List Piece → List Piece → Trees → List Piece → ℕ → Type 0
  Covers front back us rest n = (mid : List Piece) × (rest ≡ mid ++ back) × IsTrees source front us mid × (count_open n front ≡ count_open n mid)

  -- the front ends behind a tree
  abbrev Parts : List Piece → ℕ → Type 0
  Parts front n = (ts : Trees) × IsTrees source front ts [] × (count_open n front ≡ n)

  -- or in a group
  abbrev Split : List Piece → List Piece → Trees → List Piece → ℕ → Type 0
  Split front back us rest n = Covers front back us rest n ⊎ (Parts front n ⊎ (n < count_open n front))

  counted : (p c : Piece) (cs : List Piece) (k : PieceKind) (n : ℕ) → p ≡ c → p.kind ≡ k → count_open n (c ∷ cs) ≡ count_open (open_after_piece k n) cs
  counted p c cs k n e f = ap (λ v. count_open (open_after_piece v n) cs) (ap (λ v. v.kind) (sym e) ∙ f)

  split_blank : (p c : Piece) (cs back rest : List Piece) (us : Trees) (n : ℕ) → p ≡ c → (p.kind ≡ Space) ⊎ (p.kind ≡ Comment) → count_open n (c ∷ cs) ≡ count_open n cs
      → Split cs back us rest n → Split (c ∷ cs) back us rest n
  split_blank p c cs back rest us n e k same s =
      let kinds : (c.kind ≡ Space) ⊎ (c.kind ≡ Comment) = subst (λ v. (v.kind ≡ Space) ⊎ (v.kind ≡ Comment)) e k in
      elim s [
        | inl h ↦ inl (h.0, h.1, blank kinds h.2, same ∙ h.3)
        | inr (inl h) ↦ inr (inl (h.0, blank kinds h.1, same ∙ h.2))
        | inr (inr h) ↦ inr (inr (omega (arith, same, h)))
      ]

  split_lone : (p c : Piece) (cs back rest : List Piece) (us : Trees) (j : TokenKind) (n : ℕ) → p ≡ c → p.kind ≡ Token j
      → Split cs back us rest n → Split (c ∷ cs) back (token (token_of source j p.span) ▸ us) rest n
  split_lone p c cs back rest us j n e k s =
      let kind : c.kind ≡ Token j = ap (λ v. v.kind) (sym e) ∙ k in
      let same : count_open n (c ∷ cs) ≡ count_open n cs = counted p c cs (Token j) n e k in
      elim s [
        | inl h ↦ inl (h.0, h.1, subst (λ v. IsTrees source (c ∷ cs) (token (token_of source j v.span) ▸ us) h.0) (sym e) (lone kind h.2), same ∙ h.3)
        | inr (inl h) ↦ inr (inl (token (token_of source j c.span) ▸ h.0, lone kind h.1, same ∙ h.2))
        | inr (inr h) ↦ inr (inr (omega (arith, same, h)))
      ]

  -- behind the trees of a group
  split_group : (p c q : Piece) (cs back mid rest : List Piece) (b : Bracket) (inner us : Trees) (span : Span) (n : ℕ) (found : List Piece)
      → p ≡ c → p.kind ≡ Open b → q.kind ≡ Close b → span.start ≡ p.span.start → span.end ≡ q.span.end
      → q ∷ mid ≡ found ++ back → IsTrees source cs inner found → count_open (n + 1) cs ≡ count_open (n + 1) found
      → ((front : List Piece) → mid ≡ front ++ back → Split front back us rest n)
      → Split (c ∷ cs) back (group b inner span ▸ us) rest n
  split_group p c q cs back mid rest b inner us span n [] e k l a z f r same more =
      let counts : count_open n (c ∷ cs) ≡ count_open (n + 1) cs = counted p c cs (Open b) n e k in inr (inr (omega (arith, counts, same)))
  split_group p c q cs back mid rest b inner us span n (m ∷ ms) e k l a z f r same more =
      let closing : q ≡ m = cc in
      let tails : mid ≡ ms ++ back = cc in
      let counts : count_open n (c ∷ cs) ≡ count_open (n + 1) cs = counted p c cs (Open b) n e k in
      let closed : count_open (n + 1) (m ∷ ms) ≡ count_open (n + 1 - 1) ms = counted q m ms (Close b) (n + 1) closing l in
      let level : n + 1 - 1 ≡ n = omega arith in
      let all : count_open n (c ∷ cs) ≡ count_open n ms = counts ∙ same ∙ closed ∙ ap (λ v. count_open v ms) level in
      let kind : c.kind ≡ Open b = ap (λ v. v.kind) (sym e) ∙ k in
      let ends : m.kind ≡ Close b = ap (λ v. v.kind) (sym closing) ∙ l in
      let from : span.start ≡ c.span.start = a ∙ ap (λ v. v.span.start) e in
      let to : span.end ≡ m.span.end = z ∙ ap (λ v. v.span.end) closing in
      elim (more ms tails) [
        | inl h ↦ inl (h.0, h.1, grouped kind r ends from to h.2, all ∙ h.3)
        | inr (inl h) ↦ inr (inl (group b inner span ▸ h.0, grouped kind r ends from to h.1, all ∙ h.2))
        | inr (inr h) ↦ inr (inr (omega (arith, all, h)))
      ]

  split : {ps rest : List Piece} {us : Trees} → IsTrees source ps us rest → (front back : List Piece) (n : ℕ) → ps ≡ front ++ back → Split front back us rest n
  split none front back n e = inl (front, e, none, refl)
  split (blank k r) [] back n e = inr (inl (end, none, refl))
  split {rest = rest} {us = us} (blank {p = p} {ps = ps} (inl k) r) (c ∷ cs) back n e =
      let heads : p ≡ c = cc in
      let tails : ps ≡ cs ++ back = cc in
      split_blank p c cs back rest us n heads (inl k) (counted p c cs Space n heads k) (split r cs back n tails)
  split {rest = rest} {us = us} (blank {p = p} {ps = ps} (inr k) r) (c ∷ cs) back n e =
      let heads : p ≡ c = cc in
      let tails : ps ≡ cs ++ back = cc in
      split_blank p c cs back rest us n heads (inr k) (counted p c cs Comment n heads k) (split r cs back n tails)
  split (lone k r) [] back n e = inr (inl (end, none, refl))
  split {rest = rest} (lone {p = p} {k = j} {ps = ps} {ts = us} k r) (c ∷ cs) back n e =
      let heads : p ≡ c = cc in
      let tails : ps ≡ cs ++ back = cc in
      split_lone p c cs back rest us j n heads k (split r cs back n tails)
  split (grouped k r l a z s) [] back n e = inr (inl (end, none, refl))
  split {rest = rest} (grouped {p = p} {q = q} {b = b} {span = span} {ps = ps} {mid = mid} {inner = inner} {ts = us} k r l a z s) (c ∷ cs) back n e =
      let heads : p ≡ c = cc in
      let tails : ps ≡ cs ++ back = cc in
      let counts : count_open n (c ∷ cs) ≡ count_open (n + 1) cs = counted p c cs (Open b) n heads k in
      elim (split r cs back (n + 1) tails) [
        | inl h ↦ split_group p c q cs back mid rest b inner us span n h.0 heads k l a z h.1 h.2 h.3 (λ front f. split s front back n f)
        | inr (inl h) ↦ inr (inr (omega (arith, counts, h.2)))
        | inr (inr h) ↦ inr (inr (omega (arith, counts, h)))
      ]

  no_more : (ps qs : List Piece) → [] ≡ ps ++ qs → ps ≡ []
  no_more [] qs e = refl
  no_more (p ∷ ps) qs e = cc

  -- the front nests where the whole does
  pub front_nests : (front back : List Piece) (us : Trees) → IsTrees source (front ++ back) us [] → (back ≡ []) ⊎ (count_open 0 front ≡ 0) → (ts : Trees) × IsTrees source front ts []
  front_nests front back us r (inl none_left) =
      let whole : front ++ back ≡ front = ap (λ v. front ++ v) none_left ∙ append-nil front in (us, subst (λ v. IsTrees source v us []) whole r)
  front_nests front back us r (inr closed) =
      elim (split r front back 0 refl) [
        | inl h ↦ (us, subst (λ v. IsTrees source front us v) (no_more h.0 back h.1) h.2)
        | inr (inl h) ↦ (h.0, h.1)
        | inr (inr h) ↦ absurd (omega (arith, closed, h))
      ]
