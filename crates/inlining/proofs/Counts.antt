-- Counts, and the copies that they count.
use Rattle.std.proofs.Common.{◌≡◌, ◌<◌, ◌≤◌, ◌↔◌, ◌⊎◌, inl, inr, ◌+◌, ◌-◌, ◌^◌, ℕ, zero, suc, List, [], ◌∷◌, ◌++◌, length, take, get_or, set, slice_index, min, refl, ap, sym, ◌∙◌, subst, arith}
use Rattle.std.proofs.lemmas.Bool.{cases_eq}
use Rattle.std.proofs.lemmas.List.{take_more, get_or-set_same, get_or-set_other}
use Rattle.inlining.specs.Counts.{saturated, count_of}
use Rattle.inlining.specs.Inlining.{targets_of, IsAmong, AreTargets, IsPath, IsAtMost, sum_of, copies}
use Rattle.inlining.proofs.Among.{among_cases}

-- ---- sums that are saturated

capped_suc : (m s x t : ℕ) → t ≡ s + x → min (min (suc s) m + x) m ≡ min (suc t) m
capped_suc m s x t e = omega arith

capped_next : (m s t : ℕ) → min s m ≡ min t m → min (suc s) m ≡ min (suc t) m
capped_next m s t e = omega arith

capped_less : (m a n r : ℕ) → n < m → r ≡ min a m → (n < r) ↔ (n < a)
capped_less m a n r h e = (λ l. omega arith, λ l. omega arith)

sum_of-push : (f : ℕ → ℕ) (ts : List ℕ) (t : ℕ) → sum_of f (ts ++ t ∷ []) ≡ sum_of f ts + f t
sum_of-push f [] t = omega arith
sum_of-push f (u ∷ ts) t = omega (arith, sum_of-push f ts t)

capped_more : (m s x t : ℕ) → t ≡ s + x → min (min s m + x) m ≡ min t m
capped_more m s x t e = omega arith

sum_of-more : (f : ℕ → ℕ) (ts : List ℕ) (i d : ℕ) → i < length ts → sum_of f (take (i + 1) ts) ≡ sum_of f (take i ts) + f (get_or ts i d)
sum_of-more f ts i d h = ap (sum_of f) (take_more ts i d h) ∙ sum_of-push f (take i ts) (get_or ts i d)

pub count_more : (counts ts : List ℕ) (i d : ℕ) → i < length ts → saturated (count_of counts (take i ts) + slice_index counts (get_or ts i d)) ≡ count_of counts (take (i + 1) ts)
count_more counts ts i d h =
    let f = slice_index counts in
    capped_suc (2 ^ 64 - 1) (sum_of f (take i ts)) (f (get_or ts i d)) (sum_of f (take (i + 1) ts)) (sum_of-more f ts i d h)

pub total_more : (counts ds : List ℕ) (i d : ℕ) → i < length ds → saturated (saturated (sum_of (slice_index counts) (take i ds)) + slice_index counts (get_or ds i d)) ≡ saturated (sum_of (slice_index counts) (take (i + 1) ds))
total_more counts ds i d h =
    let f = slice_index counts in
    capped_more (2 ^ 64 - 1) (sum_of f (take i ds)) (f (get_or ds i d)) (sum_of f (take (i + 1) ds)) (sum_of-more f ds i d h)

capped_sum : (m : ℕ) (f h : ℕ → ℕ) (ts : List ℕ) → ((t : ℕ) → IsAmong t ts → f t ≡ min (h t) m) → min (sum_of f ts) m ≡ min (sum_of h ts) m
capped_sum m f h [] all = refl
capped_sum m f h (t ∷ ts) all =
    let here : f t ≡ min (h t) m = all t (inl refl) in
    let rest : min (sum_of f ts) m ≡ min (sum_of h ts) m = capped_sum m f h ts (λ u i. all u (inr i)) in
    omega arith

-- ---- copies that are no deeper than the paths

same_sum : (f h : ℕ → ℕ) (ts : List ℕ) → ((t : ℕ) → IsAmong t ts → f t ≡ h t) → sum_of f ts ≡ sum_of h ts
same_sum f h [] all = refl
same_sum f h (t ∷ ts) all =
    let here : f t ≡ h t = all t (inl refl) in
    let rest : sum_of f ts ≡ sum_of h ts = same_sum f h ts (λ u i. all u (inr i)) in
    omega arith

-- no path that begins with the instance has more instances than these
abbrev pub IsAtMostFrom : ℕ → List (List ℕ) → ℕ → Type 0
IsAtMostFrom n g d = (ds : List ℕ) → IsPath g (d ∷ ds) → length (d ∷ ds) ≤ n

at_most_from_target : (g : List (List ℕ)) (n d t : ℕ) → d < length g → IsAmong t (targets_of g d) → IsAtMostFrom (suc n) g d → IsAtMostFrom n g t
at_most_from_target g n d t h i most ds p =
    let longer : suc (length (t ∷ ds)) ≤ suc n = most (t ∷ ds) (h, i, p) in
    omega arith

same_deeper : (g : List (List ℕ)) (n d : ℕ) → AreTargets g → d < length g → IsAtMostFrom n g d → copies g n d ≡ copies g (suc n) d
same_deeper g zero d targets h most = let one : length (d ∷ []) ≤ 0 = most [] h in absurd (omega (arith, one))
same_deeper g (suc n) d targets h most =
    ap suc (same_sum (copies g n) (copies g (suc n)) (targets_of g d) (λ t i. same_deeper g n t targets (targets d t i) (at_most_from_target g n d t h i most)))

-- the copies of an instance are those of its targets, and itself
pub copies_are : (g : List (List ℕ)) (most d : ℕ) → AreTargets g → IsAtMost most g → d < length g → copies g most d ≡ suc (sum_of (copies g most) (targets_of g d))
copies_are g most d targets most_is h = same_deeper g most d targets h (λ ds p. most_is (d ∷ ds) p)

-- ---- counts of copies

-- the copies of these instances are counted
abbrev pub AreCounted : List (List ℕ) → ℕ → List ℕ → List ℕ → Type 0
AreCounted g most counts ds = (d : ℕ) → IsAmong d ds → slice_index counts d ≡ saturated (copies g most d)

-- where the copies of the targets are counted, so are those of the instance
pub count_is : (g : List (List ℕ)) (most : ℕ) (counts : List ℕ) (d : ℕ) → AreTargets g → IsAtMost most g → d < length g → AreCounted g most counts (targets_of g d) → count_of counts (targets_of g d) ≡ saturated (copies g most d)
count_is g most counts d targets most_is h all =
    capped_next (2 ^ 64 - 1) (sum_of (slice_index counts) (targets_of g d)) (sum_of (copies g most) (targets_of g d)) (capped_sum (2 ^ 64 - 1) (slice_index counts) (copies g most) (targets_of g d) all)
    ∙ ap saturated (sym (copies_are g most d targets most_is h))

pub counted_more : (g : List (List ℕ)) (most : ℕ) (counts ds : List ℕ) (i n : ℕ) → i < length ds → get_or ds i 0 < length counts → n ≡ saturated (copies g most (get_or ds i 0)) → AreCounted g most counts (take i ds) →
    AreCounted g most (set counts (get_or ds i 0) n) (take (i + 1) ds)
counted_more g most counts ds i n h l e all d among =
    by (cases_eq d (get_or ds i 0)) (among_cases d (take i ds) (get_or ds i 0 ∷ []) (subst (IsAmong d) (take_more ds i 0 h) among))
  where
    here : d ≡ get_or ds i 0 → slice_index (set counts (get_or ds i 0) n) d ≡ saturated (copies g most d)
    here same = subst (λ k. slice_index (set counts (get_or ds i 0) n) k ≡ saturated (copies g most k)) (sym same) (get_or-set_same counts (get_or ds i 0) n 0 l ∙ e)

    by : (d ≡ get_or ds i 0) ⊎ (d ≡ get_or ds i 0 → ⊥) → IsAmong d (take i ds) ⊎ IsAmong d (get_or ds i 0 ∷ []) → slice_index (set counts (get_or ds i 0) n) d ≡ saturated (copies g most d)
    by (inl same) j = here same
    by (inr other) (inl j) = get_or-set_other counts (get_or ds i 0) d n 0 other ∙ all d j
    by (inr other) (inr (inl same)) = absurd (other same)
    by (inr other) (inr (inr none)) = absurd none

-- the total says whether there are more copies of these instances than a limit
pub more_copies : (g : List (List ℕ)) (most limit total : ℕ) (counts ds : List ℕ) → limit < 2 ^ 64 - 1 → AreCounted g most counts ds → total ≡ saturated (sum_of (slice_index counts) ds) → (limit < total) ↔ (limit < sum_of (copies g most) ds)
more_copies g most limit total counts ds h counted is =
    capped_less (2 ^ 64 - 1) (sum_of (copies g most) ds) limit total h (is ∙ capped_sum (2 ^ 64 - 1) (slice_index counts) (copies g most) ds counted)
