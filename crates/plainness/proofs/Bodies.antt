-- The bodies and the places of instances, of which declarations are given by what they stand for.
use Rattle.std.proofs.Common.{ℕ, ◌<◌, List, [], ◌∷◌, ◌++◌, length, map, get_or, ◌≡◌, ap, sym, subst, ◌∙◌}
use Rattle.std.proofs.lemmas.List.{length-map, append-nil, append_assoc}
use Rattle.open_types.specs.Open.{Open, substituted, opens_of}
use Rattle.open_types.specs.Instances.{declared_place, arguments_of}
use Rattle.shapes.specs.Declarations.{DeclarationOf, declaration_at, body_types, AreFitting}
use Rattle.shapes.specs.Instances.{declared_by, places_at}
use Rattle.instances.specs.Fitting.{IsFit, ReachableFit}
use Rattle.instances.specs.Lists.{instance_at, AreInstances}
use Rattle.instances.proofs.Laws.{at-one, declared-at}
use Rattle.instances.proofs.Walks.{fit-within, all-places}
use Rattle.plainness.specs.Edges.{numbers_in, numbers_among}

module _ {A : Type 0} (view : A → DeclarationOf) where
  module _ (declared : List A) (is : List Open) (n : ℕ) (fit : ReachableFit) (fitting : AreFitting (map view declared)) (are : AreInstances (map view declared) is) (l : n < length is) where
    abbrev of : Open
    of = instance_at is n

    fits : IsFit (map view declared) of
    fits = fit (map view declared) fitting of (are.reached of (at-one is n l))

    -- the place of its declaration is one of the declarations
    pub place-within : declared_place of < length declared
    place-within = subst (λ m. declared_place of < m) (length-map declared view) (fit-within (map view declared) of fits)

    -- the body of its declaration, and the types of its places
    pub own-body : (d : ℕ) (x : A) → d ≡ declared_place of → x ≡ get_or declared d x → (view x).body ≡ (declared_by (map view declared) of).body
    own-body d x e found =
        ap (λ y. (view y).body) found
        ∙ ap (λ (s : DeclarationOf). s.body) (sym (declared-at view declared d x (subst (λ m. m < length declared) (sym e) place-within)))
        ∙ ap (λ m. (declaration_at (map view declared) m).body) e

    pub own-places : (d : ℕ) (x : A) (xs : List Open) → d ≡ declared_place of → x ≡ get_or declared d x → xs ≡ body_types (view x).body → map (substituted (arguments_of of)) xs ≡ places_at (map view declared) of
    own-places d x xs e found types = all-places (map view declared) fitting of fits xs (types ∙ ap body_types (own-body d x e found))

-- the numbers of one type more
pub numbers-more : (is ts : List Open) (t : Open) → numbers_among is (opens_of (ts ++ t ∷ [])) ≡ numbers_among is (opens_of ts) ++ numbers_in is t
numbers-more is [] t = append-nil (numbers_in is t)
numbers-more is (u ∷ ts) t = ap (λ ns. numbers_in is u ++ ns) (numbers-more is ts t) ∙ sym (append_assoc (numbers_in is u) (numbers_among is (opens_of ts)) (numbers_in is t))
