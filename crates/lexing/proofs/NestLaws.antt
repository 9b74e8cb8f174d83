-- Trees, read from the left, are one reading.
use Rattle.std.proofs.Common.{◌≡◌, ℕ, suc, ◌-◌, ◌<◌, ◌≤◌, arith, ◌⊎◌, inl, inr, List, [], ◌∷◌, ◌++◌, length, refl, ap, sym, subst, ◌∙◌, rules}
use Rattle.texts.specs.declared.span.Span.{Span}
use Rattle.tokens.specs.declared.token.Bracket.{Bracket}
use Rattle.tokens.specs.declared.token.TokenKind.{TokenKind}
use Rattle.tokens.specs.declared.token.Group.{Group}
use Rattle.tokens.specs.declared.token.TokenTree.{TokenTree, the_lemmas}
use Rattle.tokens.specs.declared.token.TokenTree.TheVariants as tree
use Rattle.lexing.specs.declared.piece.LexError.{LexError}
use Rattle.lexing.specs.declared.piece.LexError.TheVariants.{Memory, TooDeep, Stopped}
use Rattle.lexing.specs.declared.piece.Piece.{Piece}
use Rattle.lexing.specs.declared.piece.PieceKind.{PieceKind}
use Rattle.lexing.specs.declared.piece.PieceKind.TheVariants.{Space, Comment, Token, Open, Close}
use Rattle.tokens.specs.Trees.{Tree, Trees, token, group, end, ◌▸◌, tree_view, trees_view, depth, depth_of}
use Rattle.lexing.specs.Nesting.{joined, token_of, IsTrees, none, blank, lone, grouped, Opens, here, inside, later}
use Rattle.lexing.specs.Reading.{EndFrom, LieIn, Stops, IsUnnested, IsGroup}
use Rattle.lexing.proofs.CutLaws.{span_same}

joined-end : (ts : Trees) → joined ts end ≡ ts
joined-end end = refl
joined-end (t ▸ ts) = ap (λ v. t ▸ v) (joined-end ts)

pub trees_view-push : (ts : List TokenTree) (t : TokenTree) → trees_view (ts ++ t ∷ []) ≡ joined (trees_view ts) (tree_view t ▸ end)
trees_view-push [] t = refl
trees_view-push (u ∷ us) t = ap (λ v. tree_view u ▸ v) (trees_view-push us t)

pub view_group : (g : Group) → tree_view (tree.Group g) ≡ group g.bracket (trees_view g.trees) g.span
view_group g = search (rules, the_lemmas)

-- ---- how deep trees nest
depth_later : (ts us : Trees) → depth us ≤ depth (joined ts us)
depth_later end us = omega arith
depth_later (t ▸ ts) us = let h = depth_later ts us in omega arith

pub depth_push : (ts : Trees) (t : Tree) (n : ℕ) → depth ts ≤ n → depth_of t ≤ n → depth (joined ts (t ▸ end)) ≤ n
depth_push end t n a b = omega arith
depth_push (u ▸ us) t n a b = let h : depth (joined us (t ▸ end)) ≤ n = depth_push us t n (omega arith) b in omega arith

pub group_depth : (g : Group) (left : ℕ) → (left ≡ 0 → ⊥) → depth (trees_view g.trees) ≤ left - 1 → depth_of (tree_view (tree.Group g)) ≤ left
group_depth g left n h = let whole = ap depth_of (view_group g) in omega (arith, whole)

group_same : (b : Bracket) (g inner ws vs us : Trees) (s span : Span) → us ≡ group b g s ▸ ws → g ≡ inner → s ≡ span → ws ≡ vs → us ≡ group b inner span ▸ vs
group_same b g inner ws vs us s span e f h k = cc

module _ (source : List ℕ) where
  -- trees after trees
  pub after : {ps mid rest : List Piece} {ts us : Trees} → IsTrees source ps ts mid → IsTrees source mid us rest → IsTrees source ps (joined ts us) rest
  after none s = s
  after (blank k r) s = blank k (after r s)
  after (lone k r) s = lone k (after r s)
  after (grouped k r l a z t) s = grouped k r l a z (after t s)

  -- which rule a kind wants
  abbrev Rule : PieceKind → Trees → Piece → List Piece → List Piece → Type 0
  Rule Space ts p ps rest = IsTrees source ps ts rest
  Rule Comment ts p ps rest = IsTrees source ps ts rest
  Rule (Token k) ts p ps rest = (us : Trees) × (ts ≡ token (token_of source k p.span) ▸ us) × IsTrees source ps us rest
  Rule (Open b) ts p ps rest =
      (inner : Trees) × (q : Piece) × (mid : List Piece) × (us : Trees) × (span : Span)
      × IsTrees source ps inner (q ∷ mid) × (q.kind ≡ Close b) × (span.start ≡ p.span.start) × (span.end ≡ q.span.end) × (ts ≡ group b inner span ▸ us) × IsTrees source mid us rest
  Rule (Close b) ts p ps rest = (ts ≡ end) × (rest ≡ p ∷ ps)

  moved : (ts : Trees) (p : Piece) (ps rest : List Piece) (j k : PieceKind) → p.kind ≡ j → p.kind ≡ k → Rule j ts p ps rest → Rule k ts p ps rest
  moved ts p ps rest j k f e r = subst (λ v. Rule v ts p ps rest) (sym f ∙ e) r

  -- a reading, by the kind of its first piece
  ruled : {p : Piece} {ps rest : List Piece} {ts : Trees} → IsTrees source (p ∷ ps) ts rest → Stops rest → (k : PieceKind) → p.kind ≡ k → Rule k ts p ps rest
  ruled {p = p} {ps = ps} none stops k e = moved end p ps (p ∷ ps) (Close stops.0) k stops.1 e (refl, refl)
  ruled {p = p} {ps = ps} {rest = rest} {ts = ts} (blank (inl f) r) stops k e = moved ts p ps rest Space k f e r
  ruled {p = p} {ps = ps} {rest = rest} {ts = ts} (blank (inr f) r) stops k e = moved ts p ps rest Comment k f e r
  ruled {p = p} {ps = ps} {rest = rest} (lone {k = j} {ts = us} f r) stops k e = moved (token (token_of source j p.span) ▸ us) p ps rest (Token j) k f e (us, refl, r)
  ruled {p = p} {ps = ps} {rest = rest} (grouped {q = q} {b = b} {span = span} {mid = mid} {inner = inner} {ts = us} f r l a z s) stops k e =
      moved (group b inner span ▸ us) p ps rest (Open b) k f e (inner, q, mid, us, span, r, l, a, z, refl, s)

  -- What has been read begins every reading.
  pub cancel : {ps mid rest : List Piece} {ts us : Trees} → IsTrees source ps ts mid → IsTrees source ps us rest → Stops rest → (vs : Trees) × (us ≡ joined ts vs) × IsTrees source mid vs rest
  cancel {us = us} none s stops = (us, refl, s)
  cancel (blank (inl k) r) s stops = cancel r (ruled s stops Space k) stops
  cancel (blank (inr k) r) s stops = cancel r (ruled s stops Comment k) stops
  cancel (lone {p = p} {k = j} k r) s stops =
      let h = ruled s stops (Token j) k in
      let left = cancel r h.2 stops in
      (left.0, h.1 ∙ ap (λ v. token (token_of source j p.span) ▸ v) left.1, left.2)
  cancel {rest = rest} {us = us} (grouped {p = p} {q = q} {b = b} {span = span} {mid = mid} {inner = inner} {ts = after_group} k r l a z t) s stops =
      let h = ruled s stops (Open b) k in
      let within = cancel r h.5 (b, h.6) in
      let closed = ruled within.2 (b, h.6) (Close b) l in
      let same : q ≡ h.1 = cc in
      let tails : mid ≡ h.2 = cc in
      let inners : h.0 ≡ inner = within.1 ∙ ap (joined inner) closed.0 ∙ joined-end inner in
      let spans : h.4 ≡ span = span_same h.4 span (h.7 ∙ sym a) (h.8 ∙ ap (λ v. v.span.end) (sym same) ∙ sym z) in
      let left = cancel t (subst (λ v. IsTrees source v h.3 rest) (sym tails) h.10) stops in
      (left.0, group_same b h.0 inner h.3 (joined after_group left.0) us h.4 span h.9 inners spans left.1, left.2)

  -- where a bracket opens inside as many, trees nest deeper
  pub opens_depth : {n : ℕ} {ps rest : List Piece} {ts : Trees} {at : Span} → Opens source n ps at → IsTrees source ps ts rest → Stops rest → n < depth ts
  opens_depth {ts = ts} (here {p = p} {b = b} k) s stops =
      let h = ruled s stops (Open b) k in let e : depth ts ≡ depth (group b h.0 h.4 ▸ h.3) = ap depth h.9 in omega arith
  opens_depth {ts = ts} (inside {p = p} {b = b} k o) s stops =
      let h = ruled s stops (Open b) k in
      let within = opens_depth o h.5 (b, h.6) in
      let e : depth ts ≡ depth (group b h.0 h.4 ▸ h.3) = ap depth h.9 in
      omega arith
  opens_depth {ts = ts} (later {ts = us} r low o) s stops =
      let left = cancel r s stops in
      let within = opens_depth o left.2 stops in
      let more = depth_later us left.0 in
      let e : depth ts ≡ depth (joined us left.0) = ap depth left.1 in
      omega arith

  at_end : {vs : Trees} {rest : List Piece} → IsTrees source [] vs rest → vs ≡ end
  at_end none = refl

  pub one_nesting : (ps : List Piece) (ts us : Trees) → IsTrees source ps ts [] → IsTrees source ps us [] → ts ≡ us
  one_nesting ps ts us r s = let left = cancel r s tt in sym (left.1 ∙ ap (joined ts) (at_end left.2) ∙ joined-end ts)

  -- where trees cannot go on, none is read
  stopped : {closing rest : List Piece} {vs : Trees} → IsTrees source closing vs rest → Stops closing → Stops rest → closing ≡ rest
  stopped {closing = []} none c stops = refl
  stopped {closing = q ∷ qs} r c stops = sym (ruled r stops (Close c.0) c.1).1

  -- trees that stop at a piece are not all of the pieces
  pub too_many : (ps rest more : List Piece) (ts us : Trees) (p : Piece) → IsTrees source ps ts rest → Stops rest → rest ≡ p ∷ more → IsTrees source ps us [] → ⊥
  too_many ps rest more ts us p r stops e s = let left = cancel r s tt in let empty = stopped left.2 stops tt in cc

  -- ---- one bracket is the first to open too deep
  -- which rule a kind wants of what opens
  abbrev OpensBy : PieceKind → ℕ → Piece → List Piece → Span → Type 0
  OpensBy Space n p ps at = Opens source n ps at
  OpensBy Comment n p ps at = Opens source n ps at
  OpensBy (Token k) n p ps at = Opens source n ps at
  OpensBy (Open b) n p ps at =
      ((n ≡ 0) × (at ≡ p.span))
      ⊎ (((m : ℕ) × (n ≡ suc m) × Opens source m ps at)
      ⊎ ((inner : Trees) × (q : Piece) × (mid : List Piece) × IsTrees source ps inner (q ∷ mid) × (q.kind ≡ Close b) × (depth inner < n) × Opens source n mid at))
  OpensBy (Close b) n p ps at = ⊥

  kinded : (n : ℕ) (p : Piece) (ps : List Piece) (at : Span) (j k : PieceKind) → p.kind ≡ j → p.kind ≡ k → OpensBy j n p ps at → OpensBy k n p ps at
  kinded n p ps at j k f e r = subst (λ v. OpensBy v n p ps at) (sym f ∙ e) r

  opened : {n : ℕ} {p : Piece} {ps : List Piece} {at : Span} → Opens source n (p ∷ ps) at → (k : PieceKind) → p.kind ≡ k → OpensBy k n p ps at
  opened {p = p} {ps = ps} {at = at} (here {b = b} f) k e = kinded 0 p ps at (Open b) k f e (inl (refl, refl))
  opened {p = p} {ps = ps} {at = at} (inside {n = m} {b = b} f o) k e = kinded (suc m) p ps at (Open b) k f e (inr (inl (m, refl, o)))
  opened (later none low o) k e = opened o k e
  opened {n = n} {p = p} {ps = ps} {at = at} (later (blank (inl f) r) low o) k e = kinded n p ps at Space k f e (later r low o)
  opened {n = n} {p = p} {ps = ps} {at = at} (later (blank (inr f) r) low o) k e = kinded n p ps at Comment k f e (later r low o)
  opened {n = n} {p = p} {ps = ps} {at = at} (later (lone {k = j} f r) low o) k e = kinded n p ps at (Token j) k f e (later r (omega (arith, low)) o)
  opened {n = n} {p = p} {ps = ps} {at = at} (later (grouped {q = q} {b = b} {mid = mid} {inner = inner} f r l a z s) low o) k e =
      kinded n p ps at (Open b) k f e (inr (inr (inner, q, mid, r, l, omega (arith, low), later s (omega (arith, low)) o)))

  -- no closing bracket is first
  never_closing : {n : ℕ} {q : Piece} {ps : List Piece} {at : Span} {b : Bracket} → q.kind ≡ Close b → Opens source n (q ∷ ps) at → ⊥
  never_closing {b = b} l o = opened o (Close b) l

  -- what opens behind trees of so many levels is behind them in every reading
  opens_behind : {ps mid : List Piece} {ts : Trees} → IsTrees source ps ts mid → {n : ℕ} {at : Span} → depth ts ≤ n → Opens source n ps at → Opens source n mid at
  opens_behind none low o = o
  opens_behind (blank (inl k) r) low o = opens_behind r low (opened o Space k)
  opens_behind (blank (inr k) r) low o = opens_behind r low (opened o Comment k)
  opens_behind (lone {k = j} k r) low o = opens_behind r (omega (arith, low)) (opened o (Token j) k)
  opens_behind (grouped {q = q} {b = b} {mid = mid} {inner = inner} k r l a z s) {n = n} {at = at} low o =
      elim (opened o (Open b) k) [
        | inl h ↦ absurd (omega (arith, low, h.0))
        | inr (inl h) ↦ absurd (never_closing l (opens_behind r (omega (arith, low, h.1)) h.2))
        | inr (inr h) ↦
            let within = cancel r h.3 (b, h.4) in
            let same = stopped within.2 (b, l) (b, h.4) in
            let tails : mid ≡ h.2 = cc in
            opens_behind s (omega (arith, low)) (subst (λ v. Opens source n v at) (sym tails) h.6)
      ]

  pub opens_once : {n : ℕ} {ps : List Piece} {at to : Span} → Opens source n ps at → Opens source n ps to → at ≡ to
  opens_once (here {b = b} k) o =
      elim (opened o (Open b) k) [
        | inl h ↦ sym h.1
        | inr (inl h) ↦ absurd (omega (arith, h.1))
        | inr (inr h) ↦ absurd (omega (arith, h.5))
      ]
  opens_once {to = to} (inside {n = m} {b = b} {ps = ps} k within) o =
      elim (opened o (Open b) k) [
        | inl h ↦ absurd (omega (arith, h.0))
        | inr (inl h) ↦ let same : h.0 ≡ m = omega (arith, h.1) in opens_once within (subst (λ v. Opens source v ps to) same h.2)
        | inr (inr h) ↦ absurd (never_closing h.4 (opens_behind h.3 (omega (arith, h.5)) within))
      ]
  opens_once (later r low within) o = opens_once within (opens_behind r low o)

  -- ---- the exits of a reader
  -- the error of what comes after is that of the whole
  pub unnested_later : (left : ℕ) (ps mid : List Piece) (ts : Trees) (e : LexError) → IsTrees source ps ts mid → depth ts ≤ left → IsUnnested source left mid e → IsUnnested source left ps e
  unnested_later left ps mid ts Memory r low h = tt
  unnested_later left ps mid ts (TooDeep span) r low h = later r low h
  unnested_later left ps mid ts (Stopped span) r low h = (h.0, λ us rest s stops. let more = cancel r s stops in h.1 more.0 rest more.2 stops)

  -- the error of what stands in a group
  pub unnested_inside : (left m : ℕ) (b : Bracket) (p : Piece) (ps : List Piece) (e : LexError) → left ≡ suc m → p.kind ≡ Open b → IsUnnested source m ps e → IsUnnested source left (p ∷ ps) e
  unnested_inside left m b p ps Memory l k h = tt
  unnested_inside left m b p ps (TooDeep span) l k h = subst (λ v. Opens source v (p ∷ ps) span) (sym l) (inside k h)
  unnested_inside left m b p ps (Stopped span) l k h = (h.0, λ ts rest s stops. let r = ruled s stops (Open b) k in h.1 r.0 (r.1 ∷ r.2) r.5 (b, r.6))

  -- no group fits into no levels
  pub unnested_deep : (left : ℕ) (b : Bracket) (p : Piece) (ps : List Piece) → left ≡ 0 → p.kind ≡ Open b → IsUnnested source left (p ∷ ps) (TooDeep p.span)
  unnested_deep left b p ps l k = subst (λ v. Opens source v (p ∷ ps) p.span) (sym l) (here k)

  -- what follows the trees in a group is not its closing bracket
  pub unnested_open : (left : ℕ) (b : Bracket) (p : Piece) (ps closing : List Piece) (ts : Trees) (span : Span) → span.end ≤ length source → p.kind ≡ Open b → IsTrees source ps ts closing → Stops closing
      → ((q : Piece) (mid : List Piece) → closing ≡ q ∷ mid → q.kind ≡ Close b → ⊥) → IsUnnested source left (p ∷ ps) (Stopped span)
  unnested_open left b p ps closing ts span w k r c never = (
    w,
    λ us rest s stops.
        let h = ruled s stops (Open b) k in
        let within = cancel r h.5 (b, h.6) in
        never h.1 h.2 (stopped within.2 c (b, h.6)) h.6,
  )

  -- ---- the turns of a reader
  past_end : {ps mid : List Piece} {ts : Trees} → IsTrees source ps (joined ts end) mid → IsTrees source ps ts mid
  past_end {ps = ps} {mid = mid} {ts = ts} r = subst (λ v. IsTrees source ps v mid) (joined-end ts) r

  pub past_blank : (ps rest mid : List Piece) (ts : Trees) (p : Piece) → IsTrees source ps ts rest → rest ≡ p ∷ mid → (p.kind ≡ Space) ⊎ (p.kind ≡ Comment) → IsTrees source ps ts mid
  past_blank ps rest mid ts p r e k = past_end (after (subst (λ v. IsTrees source ps ts v) e r) (blank k none))

  pub past_token : (ps rest mid : List Piece) (ts : Trees) (p : Piece) (k : TokenKind) → IsTrees source ps ts rest → rest ≡ p ∷ mid → p.kind ≡ Token k → IsTrees source ps (joined ts (token (token_of source k p.span) ▸ end)) mid
  past_token ps rest mid ts p k r e f = after (subst (λ v. IsTrees source ps ts v) e r) (lone f none)

  pub past_group : (ps rest next mid : List Piece) (ts : Trees) (p : Piece) (b : Bracket) (t : Tree) → IsTrees source ps ts rest → rest ≡ p ∷ next → p.kind ≡ Open b → IsGroup source b p next t mid → IsTrees source ps (joined ts (t ▸ end)) mid
  past_group ps rest next mid ts p b t r e k g =
      let whole : IsTrees source (p ∷ next) (group b g.inner g.span ▸ end) mid = grouped k g.inside g.closes g.start g.stop none in
      after (subst (λ v. IsTrees source ps ts v) e r) (subst (λ v. IsTrees source (p ∷ next) (v ▸ end) mid) (sym g.tree) whole)

  pub group_read : (g : Group) (p closing : Piece) (ps rest mid : List Piece) → IsTrees source ps (trees_view g.trees) rest → rest ≡ closing ∷ mid → closing.kind ≡ Close g.bracket
      → g.span.start ≡ p.span.start → g.span.end ≡ closing.span.end → IsGroup source g.bracket p ps (tree_view (tree.Group g)) mid
  group_read g p closing ps rest mid r e k a z = record {
    inner = trees_view g.trees;
    closing = closing;
    span = g.span;
    inside = subst (λ v. IsTrees source ps (trees_view g.trees) v) e r;
    closes = k;
    start = a;
    stop = z;
    tree = view_group g;
  }

  -- ---- what follows trees lies in the source too
  pub lie_after : {ps rest : List Piece} {ts : Trees} → IsTrees source ps ts rest → LieIn source ps → LieIn source rest
  lie_after none l = l
  lie_after (blank k r) l = lie_after r l.3
  lie_after (lone k r) l = lie_after r l.3
  lie_after (grouped k r c a z t) l = lie_after t (lie_after r l.3).3

  pub end_after : (n : ℕ) {ps rest : List Piece} {ts : Trees} → IsTrees source ps ts rest → EndFrom n ps → EndFrom n rest
  end_after n none l = l
  end_after n (blank k r) l = end_after n r l.1
  end_after n (lone k r) l = end_after n r l.1
  end_after n (grouped k r c a z t) l = end_after n t (end_after n r l.1).1
