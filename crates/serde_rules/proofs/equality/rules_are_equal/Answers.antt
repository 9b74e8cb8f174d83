use Rattle.std.proofs.Common.{◌≡◌, Bool, Option, Some, None, refl, ap}
use Rattle.std.proofs.lemmas.Bool.Decides.{Decides-and, Decides-eqb, Decides-like}
use Rattle.std.proofs.lemmas.Option.{same_Some}
use Rattle.std.proofs.lemmas.Slice.Eq.{slice_eq-Decides}
use Rattle.std.specs.Bool.{Decides}
use Rattle.std.specs.Cmp.{booleans_Decides}
use Rattle.std.specs.Option.{option_eq}
use Rattle.serde_rules.proofs.equality.rules_are_equal.Goals as goal

-- what may be absent is compared where both are there
options : {A : Type 0} (same : A → A → Bool) → ((a b : A) → Decides (same a b) (a ≡ b)) → (x y : Option A) → Decides (option_eq same x y) (x ≡ y)
options same each None None = (λ e. refl, λ e. refl)
options same each None (Some b) = (λ e. cc, λ e. cc)
options same each (Some a) None = (λ e. cc, λ e. cc)
options same each (Some a) (Some b) = Decides-like (same a b) (ap Some) (same_Some a b) (each a b)

pub returns-clause-values : goal.returns-clause-values
returns-clause-values c = λ one other.
    Decides-like _
    (λ p. λ i. record { skip = p.0 i; rename = p.1.0 i; default = p.1.1.0 i; flatten = p.1.1.1.0 i; skip_serializing_if = p.1.1.1.1.0 i; double_option = p.1.1.1.1.1 i })
    (λ e. (cc, (cc, (cc, (cc, (cc, cc))))))
    (Decides-and _ _ (booleans_Decides one.skip other.skip) (Decides-and _ _ (options _ (λ s t. slice_eq-Decides Decides-eqb s t _ refl) one.rename other.rename)
    (Decides-and _ _ (booleans_Decides one.default other.default) (Decides-and _ _ (booleans_Decides one.flatten other.flatten)
    (Decides-and _ _ (booleans_Decides one.skip_serializing_if other.skip_serializing_if) (booleans_Decides one.double_option other.double_option))))))

pub returns-clause-containers : goal.returns-clause-containers
returns-clause-containers c = λ one other.
    Decides-like _ (λ p. λ i. record { rename_all = p.0 i; enum_repr = p.1.0 i; default = p.1.1.0 i; deny_unknown_fields = p.1.1.1 i }) (λ e. (cc, (cc, (cc, cc))))
    (Decides-and _ _ (options _ c.kinds_and_rules_are_equal.ensures.rules one.rename_all other.rename_all) (Decides-and _ _ (c.representations_are_equal.ensures one.enum_repr other.enum_repr)
    (Decides-and _ _ (booleans_Decides one.default other.default) (booleans_Decides one.deny_unknown_fields other.deny_unknown_fields))))
