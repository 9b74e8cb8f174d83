-- Variants of enums: their names, and what is refused where none has fields.
use Rattle.std.proofs.Common.{ℕ, List, [], ◌∷◌, map, Bool, true, false, ◌&&◌, cond, Option, Some, None, option_map, option_and_then, Result, IfOk, ◌≡◌, ◌∙◌, refl, ap, sym, subst, inl, inr}
use Rattle.std.proofs.lemmas.Bool.{false≢true}
use Rattle.std.proofs.lemmas.Option.{none-some, same_Some}
use Rattle.std.proofs.lemmas.Result.{IfOk-weaker, IfErr-weaker}
use Rattle.diag.specs.Refusal.{Refuses, IsErrorFor}
use Rattle.diag.specs.declared.error.DeriveError.{DeriveError}
use Rattle.diag.specs.declared.rename_rule.RenameRule.{RenameRule}
use Rattle.texts.specs.Lists.{Somewhere}
use Rattle.attributes.specs.Attributes.{serde_items}
use Rattle.attributes.specs.declared.serde_item.SerdeItem.{SerdeItem}
use Rattle.serde_rules.specs.Container.{rename_rule}
use Rattle.written_types.specs.declared.written.Ident.{Ident}
use Rattle.syntax.specs.Items.{FieldItems, named, unnamed, unit, VariantItem}
use Rattle.scopes.specs.Names.{texts}
use Rattle.shapes.specs.declared.tagging.Tagging.{Tagging}
use Rattle.shapes.specs.declared.declaration.Body.{Body}
use Rattle.shapes.specs.Declarations.{no_fields, BodyOf, variant_names}
use Rattle.shapes.specs.Views.{body_view}
use Rattle.derive_decl.specs.declared.written_variant.WrittenVariant.{WrittenVariant}
use Rattle.serde_names.specs.Kept.{is_kept_variant, kept_variants}
use Rattle.serde_names.specs.Names.{named_at}
use Rattle.derive_decl.specs.Fields.{are_allowed}
use Rattle.derive_decl.specs.Variants.{tagging_in, is_unit, are_units}
use Rattle.derive_decl.specs.Resolved.{Around, form_of, enum_by}
use Rattle.derive_decl.specs.Faults.{AreFaultyFields, IsUnnamed, IsFaultyVariant, AreUnnamed, AreFaultyVariants, IsFaultyTagging, IsFaultyBy, IsFaultyPlain, IsFaultyEnum}
use Rattle.derive_decl.specs.Tags.{IsMisplacedTag}
use Rattle.derive_decl.specs.Views.{written_variant_view}
use Rattle.derive_decl.proofs.TagLaws.{alone-tag}

-- the name of an identifier that stands for one
pub name_of-ident : (x y : Ident) (o : Option (List ℕ)) → option_map (named_at x) o ≡ Some y → o ≡ Some y.text
name_of-ident x y None e = absurd (none-some y e)
name_of-ident x y (Some n) e = ap (λ (z : Ident). Some z.text) (same_Some (named_at x n) y e)

pub variant_names-are : (xs : List WrittenVariant) → variant_names (map written_variant_view xs) ≡ texts (map (λ (x : WrittenVariant). x.ident) xs)
variant_names-are [] = refl
variant_names-are (x ∷ xs) = ap (λ ns. x.ident.text ∷ ns) (variant_names-are xs)

-- ---- variants without fields

module _ (around : Around) (rule : Option RenameRule) (tagging : Tagging) (e : DeriveError) where
  unit-named : (v : VariantItem) (fs : FieldItems) → v.fields ≡ fs → is_unit fs ≡ true → IsFaultyVariant around rule tagging v e → IsUnnamed around.rows rule tagging v e
  unit-named v fs is u (inl h) = h
  unit-named v (named fs) is u (inr h) = absurd (false≢true u)
  unit-named v (unnamed fs) is u (inr h) = absurd (false≢true u)
  unit-named v unit is u (inr (inl h)) = absurd (subst (λ fs. AreFaultyFields around (serde_items v.attrs) v.ident fs e) is h)
  unit-named v unit is u (inr (inr (form, of, refused))) =
      let same : no_fields ≡ form = same_Some no_fields form (sym (ap (form_of around (serde_items v.attrs)) is) ∙ of) in
      absurd (alone-tag tagging v e (subst (λ f. IsMisplacedTag tagging v f e) (sym same) refused))

  -- without fields a variant is at fault for its name alone
  units-named : (vs : List VariantItem) → are_units vs ≡ true → Somewhere (λ v. IsFaultyVariant around rule tagging v e) (kept_variants vs) → Somewhere (λ v. IsUnnamed around.rows rule tagging v e) (kept_variants vs)
  units-named [] u h = h
  units-named (v ∷ vs) u h = by (is_unit v.fields) refl (is_kept_variant v) u h (units-named vs)
    where
      by : (b : Bool) → is_unit v.fields ≡ b → (k : Bool) → (b && are_units vs) ≡ true → Somewhere (λ v. IsFaultyVariant around rule tagging v e) (cond k (v ∷ kept_variants vs) (kept_variants vs)) →
          (are_units vs ≡ true → Somewhere (λ v. IsFaultyVariant around rule tagging v e) (kept_variants vs) → Somewhere (λ v. IsUnnamed around.rows rule tagging v e) (kept_variants vs)) →
          Somewhere (λ v. IsUnnamed around.rows rule tagging v e) (cond k (v ∷ kept_variants vs) (kept_variants vs))
      by false is k u h later = absurd (false≢true u)
      by true is true u (inl f) later = inl (unit-named v v.fields refl is f)
      by true is true u (inr f) later = inr (later u f)
      by true is false u f later = later u f

  pub units-unnamed : (vs : List VariantItem) → are_units vs ≡ true → AreFaultyVariants around rule tagging vs e → AreUnnamed around.rows rule tagging vs e
  units-unnamed vs u (inl h) = inl (units-named vs u h)
  units-unnamed vs u (inr h) = inr h

  somewhere-named : (vs : List VariantItem) → Somewhere (λ v. IsUnnamed around.rows rule tagging v e) vs → Somewhere (λ v. IsFaultyVariant around rule tagging v e) vs
  somewhere-named [] h = h
  somewhere-named (v ∷ vs) (inl h) = inl (inl h)
  somewhere-named (v ∷ vs) (inr h) = inr (somewhere-named vs h)

  -- a name at fault is a variant at fault
  pub unnamed-faulty : (vs : List VariantItem) → AreUnnamed around.rows rule tagging vs e → AreFaultyVariants around rule tagging vs e
  unnamed-faulty vs (inl h) = inl (somewhere-named (kept_variants vs) h)
  unnamed-faulty vs (inr h) = inr h

-- ---- the whole enum

-- an answer that refuses serde's items refuses the enum
pub untold : (items : List SerdeItem) (x : Ident) (faulty : Option RenameRule → Tagging → DeriveError → Type 0) (e : DeriveError) → IsErrorFor (IsFaultyTagging items x) e → IsErrorFor (IsFaultyBy items x faulty) e
untold items x faulty e (inl memory) = inl memory
untold items x faulty e (inr fault) = inr (inl fault)

-- an enum is what it is by its rule of names and by how its values tell their variant
module _ (items : List SerdeItem) (rule : Option RenameRule) (tagging : Tagging) (rules : rule ≡ rename_rule items) (told : tagging_in items ≡ Some tagging) (r : Result Body DeriveError) where
  pub body_by : (of : Option RenameRule → Tagging → Option BodyOf) → are_allowed items ≡ true → IfOk r (λ b. of rule tagging ≡ Some (body_view b)) → IfOk r (λ b. enum_by items of ≡ Some (body_view b))
  body_by of allowed h =
      IfOk-weaker r _ _ (λ b is. ap (λ a. cond a (option_and_then (of (rename_rule items)) (tagging_in items)) None) allowed ∙ ap (option_and_then (of (rename_rule items))) told ∙ subst (λ k. of k tagging ≡ Some (body_view b)) rules is) h

  pub refused_by : (x : Ident) (faulty : Option RenameRule → Tagging → DeriveError → Type 0) → Refuses r (faulty rule tagging) → Refuses r (IsFaultyBy items x faulty)
  refused_by x faulty h = IfErr-weaker r _ _ (λ e fault. elim fault [ inl memory ↦ inl memory | inr h ↦ inr (inr (tagging, told, subst (λ k. faulty k tagging e) rules h)) ]) h

-- what refuses an enum by its names refuses it
pub plain_faulty : (around : Around) (items : List SerdeItem) (x : Ident) (vs : List VariantItem) (e : DeriveError) → IsErrorFor (IsFaultyPlain around items x vs) e → IsErrorFor (IsFaultyEnum around items x vs) e
plain_faulty around items x vs e (inl memory) = inl memory
plain_faulty around items x vs e (inr (inl fault)) = inr (inl fault)
plain_faulty around items x vs e (inr (inr (tagging, told, fault))) = inr (inr (tagging, told, unnamed-faulty around (rename_rule items) tagging e vs fault))
