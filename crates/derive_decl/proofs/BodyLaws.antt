-- What bodies are resolved to, by the tests that the program makes before.
use Rattle.std.proofs.Common.{◌≡◌, ◌∙◌, List, Option, Some, None, Result, IfOk, is_none, Bool, true, false, cond, ap}
use Rattle.std.proofs.lemmas.Bool.{false≢true}
use Rattle.std.proofs.lemmas.Result.{IfOk-weaker}
use Rattle.diag.specs.declared.error.DeriveError.{DeriveError}
use Rattle.attributes.specs.Attributes.{AttributeItem, serde_items}
use Rattle.attributes.specs.declared.serde_item.SerdeItem.{SerdeItem}
use Rattle.syntax.specs.Items.{VariantItem, BodyItem}
use Rattle.shapes.specs.Declarations.{BodyOf}
use Rattle.derive_decl.specs.Attributed.{attributes_with, first_other, are_derivable}
use Rattle.derive_decl.specs.Variants.{are_units}
use Rattle.derive_decl.specs.Resolved.{Around, units_of, mixed_of, enum_of, enum_by, plain_body, mixed_body, body_of, derived_body}

taken : {B : Type 0} (b : Bool) (o : Option B) (x : B) → b ≡ true → o ≡ Some x → cond b o None ≡ Some x
taken true o x holds is = is
taken false o x holds is = absurd (false≢true holds)

module _ {A : Type 0} (view : A → BodyOf) (r : Result A DeriveError) (around : Around) where
  -- no variant has fields, and one has
  pub units_enum : (items : List SerdeItem) (vs : List VariantItem) → are_units vs ≡ true → IfOk r (λ b. plain_body around items vs ≡ Some (view b)) →
      IfOk r (λ b. enum_by items (λ rule. enum_of around rule vs) ≡ Some (view b))
  units_enum items vs units =
      IfOk-weaker r _ _ (λ b is. ap (λ u. enum_by items (λ rule tagging. cond u (units_of around rule vs tagging) (mixed_of around rule vs tagging))) units ∙ is)

  pub mixed_enum : (items : List SerdeItem) (vs : List VariantItem) → are_units vs ≡ false → IfOk r (λ b. mixed_body around items vs ≡ Some (view b)) →
      IfOk r (λ b. enum_by items (λ rule. enum_of around rule vs) ≡ Some (view b))
  mixed_enum items vs mixed =
      IfOk-weaker r _ _ (λ b is. ap (λ u. enum_by items (λ rule tagging. cond u (units_of around rule vs tagging) (mixed_of around rule vs tagging))) mixed ∙ is)

  -- something is derived from each attribute
  pub derivable_body : (attributes : List AttributeItem) (body : BodyItem) → first_other (attributes_with attributes body) ≡ None → IfOk r (λ b. body_of around (serde_items attributes) body ≡ Some (view b)) →
      IfOk r (λ b. derived_body around attributes body ≡ Some (view b))
  derivable_body attributes body none =
      IfOk-weaker r (λ b. body_of around (serde_items attributes) body ≡ Some (view b)) (λ b. derived_body around attributes body ≡ Some (view b))
      (λ b is. taken (are_derivable (attributes_with attributes body)) (body_of around (serde_items attributes) body) (view b) (ap is_none none) is)
