-- The terms of instances, of which declarations are given by what they stand for.
use Rattle.std.proofs.Common.{ℕ, ◌<◌, List, length, map, get_or, ◌≡◌, refl, ap, sym, subst, ◌∙◌, arith}
use Rattle.std.proofs.lemmas.List.{length-map}
use Rattle.open_types.specs.Open.{Open, Opens, named, no_types, more_types}
use Rattle.open_types.specs.Instances.{declared_place, arguments_of, count}
use Rattle.shapes.specs.Declarations.{DeclarationOf, declaration_at, parameters_in}
use Rattle.shapes.specs.Instances.{declared_by}
use Rattle.terms.specs.InstanceTerms.{instance_term, RootTerms}
use Rattle.shapes.specs.InstanceShape.{IsRoot}
use Rattle.terms.specs.Terms.{term}
use Rattle.shapes.specs.Declarations.{AreFitting}
use Rattle.instances.specs.Fitting.{IsFit, ReachableFit}
use Rattle.instances.specs.Lists.{instance_at, AreInstances}
use Rattle.instances.proofs.Laws.{at-one, declared-at}

no-more : (ts : Opens) → count ts ≡ 0 → ts ≡ no_types
no-more no_types e = refl
no-more (more_types t ts) e = absurd (omega (arith, e))

module _ {A : Type 0} (view : A → DeclarationOf) where
  module _ (declared : List A) (is : List Open) (n : ℕ) (fit : ReachableFit) (fitting : AreFitting (map view declared)) (are : AreInstances (map view declared) is) (l : n < length is) where
    abbrev of : Open
    of = instance_at is n

    fits : IsFit (map view declared) of
    fits = fit (map view declared) fitting of (are.reached of (at-one is n l))

    -- the place of its declaration is one of the declarations
    pub place-within : declared_place of < length declared
    place-within = subst (λ m. declared_place of < m) (length-map declared view) (subst (λ t. declared_place t < length (map view declared)) (sym fits.is) fits.over.0)

    -- the term of its declaration
    pub own-term : (d : ℕ) (x : A) → d ≡ declared_place of → x ≡ get_or declared d x → term (view x) ≡ term (declared_by (map view declared) of)
    own-term d x e found = ap (λ y. term (view y)) found ∙ ap term (sym (declared-at view declared d x (subst (λ m. m < length declared) (sym e) place-within))) ∙ ap (λ m. term (declaration_at (map view declared) m)) e

    -- without arguments that is its own
    pub without-arguments : RootTerms → arguments_of of ≡ no_types → term (declared_by (map view declared) of) ≡ instance_term (map view declared) of
    without-arguments roots none =
        let whole : of ≡ named fits.declaration no_types = fits.is ∙ ap (named fits.declaration) (sym (ap arguments_of fits.is) ∙ none) in
        subst (λ t. term (declared_by (map view declared) t) ≡ instance_term (map view declared) t) (sym whole) (sym (roots (map view declared) fits.declaration))

    -- how many parameters its declaration has
    pub own-parameters : (d : ℕ) (x : A) → d ≡ declared_place of → x ≡ get_or declared d x → (view x).parameters ≡ parameters_in (map view declared) (declared_place of)
    own-parameters d x e found =
        ap (λ y. (view y).parameters) found
        ∙ ap (λ (s : DeclarationOf). s.parameters) (sym (declared-at view declared d x (subst (λ m. m < length declared) (sym e) place-within)))
        ∙ ap (parameters_in (map view declared)) e

    -- without parameters it is a root
    pub is-root : parameters_in (map view declared) (declared_place of) ≡ 0 → (d : ℕ) × IsRoot (map view declared) d × (of ≡ named d no_types)
    is-root zero_is =
        let own : parameters_in (map view declared) fits.declaration ≡ 0 = ap (λ t. parameters_in (map view declared) (declared_place t)) (sym fits.is) ∙ zero_is in
        (fits.declaration, (fits.over.0, own), fits.is ∙ ap (named fits.declaration) (no-more fits.arguments (fits.over.1 ∙ own)))

    pub root-has : (d : ℕ) → IsRoot (map view declared) d → of ≡ named d no_types → parameters_in (map view declared) (declared_place of) ≡ 0
    root-has d r e = ap (λ t. parameters_in (map view declared) (declared_place t)) e ∙ r.1
