-- Names of instances that are distinct.
use Rattle.std.proofs.Common.{ℕ, zero, suc, ◌<◌, List, [], ◌∷◌, length, true, false, bytes_eq, ◌≡◌, ap, sym, subst, ◌∙◌, inl, inr, arith}
use Rattle.std.proofs.lemmas.Bool.{false≢true, or_left, or_right}
use Rattle.std.proofs.lemmas.Slice.Eq.{bytes_eq-Decides}
use Rattle.texts.specs.Names.{is_in, IsDistinct}
use Rattle.open_types.specs.Open.{Open}
use Rattle.shapes.specs.Declarations.{DeclarationOf}
use Rattle.shapes.specs.InstanceNames.{instance_name}
use Rattle.instances.specs.Lists.{IsOneOf, instance_at, AreDifferent}
use Rattle.instances.specs.Names.{instance_names, DistinctNamesDiffer, NumbersDiffer}
use Rattle.instances.proofs.Laws.{at-one}

module _ (ss : List DeclarationOf) where
  abbrev name : Open → List ℕ
  name = instance_name ss

  name-in : (u : Open) (is : List Open) → IsOneOf u is → is_in (name u) (instance_names ss is) ≡ true
  name-in u [] o = absurd o
  name-in u (i ∷ is) (inl e) = or_left (bytes_eq (name u) (name i)) (is_in (name u) (instance_names ss is)) ((bytes_eq-Decides (name u) (name i)).1 (ap name e))
  name-in u (i ∷ is) (inr o) = or_right (bytes_eq (name u) (name i)) (is_in (name u) (instance_names ss is)) (name-in u is o)

  never : (t u : Open) (is : List Open) → is_in (name t) (instance_names ss is) ≡ false → IsOneOf u is → name t ≡ name u → ⊥
  never t u is fresh o e = false≢true (sym fresh ∙ ap (λ n. is_in n (instance_names ss is)) e ∙ name-in u is o)

  one-name : (is : List Open) → IsDistinct (instance_names ss is) → (t u : Open) → IsOneOf t is → IsOneOf u is → name t ≡ name u → t ≡ u
  one-name [] d t u o p e = absurd o
  one-name (i ∷ is) d t u (inl a) (inl b) e = a ∙ sym b
  one-name (i ∷ is) d t u (inl a) (inr p) e = absurd (never i u is d.0 p (sym (ap name a) ∙ e))
  one-name (i ∷ is) d t u (inr o) (inl b) e = absurd (never i t is d.0 o (sym (ap name b) ∙ sym e))
  one-name (i ∷ is) d t u (inr o) (inr p) e = one-name is d.1 t u o p e

pub names-differ : DistinctNamesDiffer
names-differ ss is are d t u r s e = one-name ss is d t u (are.all t r) (are.all u s) e

unlike : (is : List Open) (m n : ℕ) → AreDifferent is → m < n → n < length is → instance_at is m ≡ instance_at is n → ⊥
unlike [] m n d l k e = omega (arith, k)
unlike (i ∷ is) zero zero d l k e = omega (arith, l)
unlike (i ∷ is) zero (suc n) d l k e = d.0 (subst (λ t. IsOneOf t is) (sym e) (at-one is n (omega (arith, k))))
unlike (i ∷ is) (suc m) zero d l k e = omega (arith, l)
unlike (i ∷ is) (suc m) (suc n) d l k e = unlike is m n d.1 (omega (arith, l)) (omega (arith, k)) e

pub numbers-differ : NumbersDiffer
numbers-differ ss is are m n l k = (are.reached (instance_at is m) (at-one is m (omega (arith, l, k))), are.reached (instance_at is n) (at-one is n k), unlike is m n are.once l k)
