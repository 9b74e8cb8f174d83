-- Inline paths and copies of instances, by number.
use Rattle.std.proofs.Common.{ℕ, zero, suc, ◌<◌, ◌≤◌, ◌+◌, List, [], ◌∷◌, length, map, ◌≡◌, refl, ap, sym, subst, ◌∙◌, inl, inr, arith}
use Rattle.std.specs.List.{cons_option}
use Rattle.open_types.specs.Open.{Open}
use Rattle.open_types.specs.Laws.{SameIsEqual, SubstitutedNone}
use Rattle.shapes.specs.Declarations.{DeclarationOf}
use Rattle.inlining.specs.Inlining.{IsAmong, sum_of, copies}
use Rattle.instances.specs.Lists.{IsOneOf, instance_at, AreDifferent, AreInstances}
use Rattle.instances.proofs.Laws.{at-one, without, still-there}
use Rattle.closing.specs.Links.{targets_at, numbered, inlining_of}
use Rattle.closing.specs.Copies.{sum_over, instance_copies, PathsByNumbers, CopiesByNumbers, NoMoreInAll}
use Rattle.closing.proofs.InstanceDescribed.{target-reachable}
use Rattle.closing.proofs.InstanceNumbers.{HasNumber, with_number, of-number, row-one}

pub paths-by-numbers : SameIsEqual → PathsByNumbers
paths-by-numbers same ss is [] p = tt
paths-by-numbers same ss is (d ∷ []) p = tt
paths-by-numbers same ss is (d ∷ e ∷ es) p = (row-one same (targets_at ss) is is d e p.1, paths-by-numbers same ss is (e ∷ es) p.2)

-- ---- copies

module _ (same : SameIsEqual) (none : SubstitutedNone) (ss : List DeclarationOf) (is : List Open) (are : AreInstances ss is) where
  abbrev graph : List (List ℕ)
  graph = inlining_of ss is

  -- the sum over the numbers of instances that are in the list
  module _ (f : ℕ → ℕ) (g : Open → ℕ) (agree : (m : ℕ) → m < length is → f m ≡ g (instance_at is m)) where
    sum-at : (ns : List ℕ) → ((m : ℕ) → IsAmong m ns → m < length is) → sum_of f ns ≡ sum_over g (map (instance_at is) ns)
    sum-at [] h = refl
    sum-at (m ∷ ms) h = λ i. agree m (h m (inl refl)) i + sum-at ms (λ k a. h k (inr a)) i

    sum-numbered : (ts : List Open) → ((t : Open) → IsOneOf t ts → IsOneOf t is) → sum_of f (numbered is ts) ≡ sum_over g ts
    sum-numbered [] h = refl
    sum-numbered (t ∷ ts) h =
        let n : (k : ℕ) × HasNumber is t k = with_number same is t (h t (inl refl)) in
        ap (λ o. sum_of f (cons_option o (numbered is ts))) n.1.found
        ∙ ap (λ k. k + sum_of f (numbered is ts)) (agree n.0 n.1.within ∙ ap g n.1.is_at)
        ∙ ap (λ k. g t + k) (sum-numbered ts (λ u o. h u (inr o)))

  copies-are : (n m : ℕ) → m < length is → copies graph n m ≡ instance_copies ss n (instance_at is m)
  copies-are zero m l = refl
  copies-are (suc n) m l =
      ap (λ ts. suc (sum_of (copies graph n) ts)) (of-number (λ t. numbered is (targets_at ss t)) is m l)
      ∙ ap suc
      (sum-numbered (copies graph n) (instance_copies ss n) (copies-are n) (targets_at ss (instance_at is m))
      (λ u o. are.all u (target-reachable none ss (instance_at is m) u (are.reached (instance_at is m) (at-one is m l)) o)))

  pub copies-sum : (n : ℕ) (ns : List ℕ) → ((m : ℕ) → IsAmong m ns → m < length is) → sum_of (copies graph n) ns ≡ sum_over (instance_copies ss n) (map (instance_at is) ns)
  copies-sum n ns h = sum-at (copies graph n) (instance_copies ss n) (copies-are n) ns h

pub copies-by-numbers : SameIsEqual → SubstitutedNone → CopiesByNumbers
copies-by-numbers same none ss is are n ns h = copies-sum same none ss is are n ns h

-- ---- sums over different instances

module _ (f : Open → ℕ) where
  one-apart : (x : Open) (ys : List Open) (h : IsOneOf x ys) → sum_over f ys ≡ f x + sum_over f (without x ys h)
  one-apart x [] h = absurd h
  one-apart x (y ∷ ys) (inl e) = ap (λ t. f t + sum_over f ys) (sym e)
  one-apart x (y ∷ ys) (inr h) = let rest : sum_over f ys ≡ f x + sum_over f (without x ys h) = one-apart x ys h in omega (arith, rest)

  no-more : (xs ys : List Open) → AreDifferent xs → ((u : Open) → IsOneOf u xs → IsOneOf u ys) → sum_over f xs ≤ sum_over f ys
  no-more [] ys d there = omega arith
  no-more (x ∷ xs) ys d there =
      let h : IsOneOf x ys = there x (inl refl) in
      let few : sum_over f xs ≤ sum_over f (without x ys h) = no-more xs (without x ys h) d.1 (λ u o. still-there x u ys h (there u (inr o)) (λ e. d.0 (subst (λ w. IsOneOf w xs) e o))) in
      omega (arith, few, one-apart x ys h)

pub no-more-in-all : NoMoreInAll
no-more-in-all f xs ys d there = no-more f xs ys d there
