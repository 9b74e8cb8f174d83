-- Declared types with their arguments.
use Rattle.std.proofs.Common.{◌≡◌, ◌==◌, ℕ, zero, suc, List, [], ◌∷◌, ◌++◌, Bool, true, false, cond, length, Some, None, refl, ap, sym, ◌∙◌, ◌≢◌, eq-eqb, rules}
use Rattle.std.proofs.lemmas.Option.{none-some, same_Some}
use Rattle.std.proofs.lemmas.Bool.{eqb-true}
use Rattle.open_types.specs.declared.open_type.OpenType.{OpenType, the_lemmas}
use Rattle.open_types.specs.declared.open_type.OpenType.TheVariants as variants
use Rattle.open_types.specs.Open.{Open, Opens, opens_of, opens_view, open_view}
use Rattle.open_types.specs.Open as types
use Rattle.open_types.specs.Instances.{count}
use Rattle.resolving.specs.Known.{Known}
use Rattle.resolving.specs.Free.{hold_free, declared, declared_with}
use Rattle.resolving.specs.Resolved.{first_parameters}

pub count-views : (ts : List OpenType) → count (opens_view ts) ≡ length ts
count-views [] = refl
count-views (t ∷ ts) = ap suc (count-views ts)

count-more : (ts : List Open) (t : Open) → count (opens_of (ts ++ t ∷ [])) ≡ suc (count (opens_of ts))
count-more [] t = refl
count-more (u ∷ ts) t = ap suc (count-more ts t)

-- a declaration has as many type parameters of its own as it has
pub own-count : (n : ℕ) → count (opens_of (first_parameters n)) ≡ n
own-count zero = refl
own-count (suc n) = count-more (first_parameters n) (types.param n) ∙ ap suc (own-count n)

-- the number of arguments is right
pub taken : (p : Known) (d : ℕ) (ts : Opens) (u : Open) → declared_with p d ts ≡ Some u → (count ts ≡ p.parameters_at d) × (declared d ts ≡ u)
taken p d ts u e = by (count ts == p.parameters_at d) refl e
  where
    by : (b : Bool) → (count ts == p.parameters_at d) ≡ b → cond b (Some (declared d ts)) None ≡ Some u → (count ts ≡ p.parameters_at d) × (declared d ts ≡ u)
    by true is h = (eqb-true (count ts) (p.parameters_at d) is, same_Some (declared d ts) u h)
    by false is h = absurd (none-some u h)

-- and wrong, where the declaration does not take them
pub not_taken : (p : Known) (d : ℕ) (ts : Opens) → declared_with p d ts ≡ None → (count ts == p.parameters_at d) ≡ false
not_taken p d ts e = by (count ts == p.parameters_at d) refl e
  where
    by : (b : Bool) → (count ts == p.parameters_at d) ≡ b → cond b (Some (declared d ts)) None ≡ None → (count ts == p.parameters_at d) ≡ false
    by true is h = absurd (none-some (declared d ts) (sym h))
    by false is h = is

-- what holds of the free object and of the declared type
pub declared-cases : (P : Open → Type 0) (d : ℕ) (ts : Opens) → P types.free_object → P (types.named d ts) → P (declared d ts)
declared-cases P d ts free named = by (hold_free ts)
  where
    by : (b : Bool) → P (cond b types.free_object (types.named d ts))
    by true = free
    by false = named

-- ---- the program's lists of arguments

pub other_count : (p : Known) (d : ℕ) (ts : List OpenType) → length ts ≢ p.parameters_at d → None ≡ declared_with p d (opens_view ts)
other_count p d ts h = by (count (opens_view ts) == p.parameters_at d) refl
  where
    by : (b : Bool) → (count (opens_view ts) == p.parameters_at d) ≡ b → None ≡ cond b (Some (declared d (opens_view ts))) None
    by true is = absurd (h (sym (count-views ts) ∙ eqb-true (count (opens_view ts)) (p.parameters_at d) is))
    by false is = refl

counted : (p : Known) (d : ℕ) (ts : List OpenType) → length ts ≡ p.parameters_at d → Some (declared d (opens_view ts)) ≡ declared_with p d (opens_view ts)
counted p d ts e = sym (ap (λ b. cond b (Some (declared d (opens_view ts))) None) (eq-eqb (count (opens_view ts)) (p.parameters_at d) (count-views ts ∙ e)))

view-free : open_view variants.FreeObject ≡ types.free_object
view-free = search (rules, the_lemmas)

pub free_declared : (p : Known) (d : ℕ) (ts us : List OpenType) → us ≡ ts → length ts ≡ p.parameters_at d → true ≡ hold_free (opens_view us) → Some (open_view variants.FreeObject) ≡ declared_with p d (opens_view ts)
free_declared p d ts us is e h = ap Some view-free ∙ ap (λ b. Some (cond b types.free_object (types.named d (opens_view ts)))) (h ∙ ap (λ vs. hold_free (opens_view vs)) is) ∙ counted p d ts e

view-named : (d : ℕ) (ts : List OpenType) → open_view (variants.Named d ts) ≡ types.named d (opens_view ts)
view-named d ts = search (rules, the_lemmas)

pub named_declared : (p : Known) (d : ℕ) (ts us : List OpenType) → us ≡ ts → length ts ≡ p.parameters_at d → false ≡ hold_free (opens_view us) → Some (open_view (variants.Named d ts)) ≡ declared_with p d (opens_view ts)
named_declared p d ts us is e h =
    ap Some (view-named d ts) ∙ ap (λ b. Some (cond b types.free_object (types.named d (opens_view ts)))) (h ∙ ap (λ vs. hold_free (opens_view vs)) is) ∙ counted p d ts e
