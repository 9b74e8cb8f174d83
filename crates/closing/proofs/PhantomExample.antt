-- An argument that no field uses: what stands in it is reachable, and not shown.
use Rattle.std.proofs.Common.{ℕ, zero, suc, ◌<◌, List, [], ◌∷◌, false, IsTrue, codes, ◌≡◌, ◌⊎◌, refl, subst, inl, inr, arith}
use Rattle.open_types.specs.Open.{Open, any_value, param, named, no_types}
use Rattle.shapes.specs.Declarations.{DeclarationOf}
use Rattle.shapes.specs.InstanceShape.{IsRoot, IsReachable}
use Rattle.shapes.specs.InstanceShape as reach
use Rattle.instances.specs.Lists.{IsOneOf}
use Rattle.closing.specs.Links.{targets_at, references_at, IsShown, shown_root, shown_collected, shown_inline, shown_referred}
use Rattle.closing.proofs.Examples.{declares, with_v, at, r}

-- struct Ph<T> { v: Value }  struct B<T> { v: T }  struct R { v: Ph<B<Value>> }
abbrev b : Open
b = at 1 any_value

abbrev ph : Open
ph = at 0 b

abbrev phantoms : List DeclarationOf
phantoms = declares (codes "Ph") 1 (with_v any_value) ∷ declares (codes "B") 1 (with_v (param 0)) ∷ declares (codes "R") 0 (with_v ph) ∷ []

b_reachable : IsReachable phantoms b
b_reachable = reach.stands r b (reach.root 2 (omega arith, refl)) (inl (inr (inl (inl refl))))

only_root : (d : ℕ) → IsRoot phantoms d → named d no_types ≡ r
only_root zero h = let e : 1 ≡ 0 = h.1 in absurd (omega (arith, e))
only_root (suc zero) h = let e : 1 ≡ 0 = h.1 in absurd (omega (arith, e))
only_root (suc (suc zero)) h = refl
only_root (suc (suc (suc d))) h = let l : suc (suc (suc d)) < 3 = h.0 in absurd (omega (arith, l))

-- nothing is shown but R, and Ph<B<Value>> to which it refers
none_inline : (t u : Open) → (t ≡ r) ⊎ (t ≡ ph) → ¬ IsOneOf u (targets_at phantoms t)
none_inline t u (inl e) o = subst (λ x. IsOneOf u (targets_at phantoms x)) e o
none_inline t u (inr e) o = subst (λ x. IsOneOf u (targets_at phantoms x)) e o

ph_referred : (t u : Open) → (t ≡ r) ⊎ (t ≡ ph) → IsOneOf u (references_at phantoms t) → u ≡ ph
ph_referred t u (inl e) o = elim (subst (λ x. IsOneOf u (references_at phantoms x)) e o) [
  | inl is ↦ is
  | inr h ↦ absurd h
]
ph_referred t u (inr e) o = absurd (subst (λ x. IsOneOf u (references_at phantoms x)) e o)

shown : (t : Open) → IsShown phantoms false t → (t ≡ r) ⊎ (t ≡ ph)
shown t (shown_root d h) = inl (only_root d h)
shown t (shown_collected u e h) = let never : IsTrue false = e in cc
shown t (shown_inline u w s o) = absurd (none_inline u w (shown u s) o)
shown t (shown_referred u w s o) = inr (ph_referred u w (shown u s) o)

b_not_shown : ¬ IsShown phantoms false b
b_not_shown s = elim (shown b s) [
  | inl e ↦ cc
  | inr e ↦ cc
]
