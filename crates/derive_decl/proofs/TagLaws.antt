-- A tag behind other names, and when it can stand there.
use Rattle.std.proofs.Common.{ℕ, List, [], ◌∷◌, ◌++◌, Bool, true, false, ◌||◌, bytes_eq, ◌≡◌, ◌∙◌, refl, ap, sym, inl, inr}
use Rattle.std.proofs.lemmas.Bool.{false≢true}
use Rattle.diag.specs.Refusal.{RefusesNone}
use Rattle.texts.specs.Names.{is_in, IsDistinct}
use Rattle.texts.proofs.Laws.{distinct-last}
use Rattle.syntax.specs.Items.{VariantItem}
use Rattle.shapes.specs.declared.tagging.Tagging.{Tagging}
use Rattle.shapes.specs.declared.tagging.Tagging.TheVariants.{External, Internal, Adjacent, Untagged}
use Rattle.shapes.specs.Declarations.{FlattenedOf, FormOf, named_fields, unnamed_fields, no_fields, member_names, form_names, names_beside, tagged_names}
use Rattle.derive_decl.specs.Tags.{can_be_tagged, tag_is_taken, IsMisplacedTag}

-- ---- tags

either-false : (b : Bool) → b ≡ false → (b || false) ≡ false
either-false b e = ap (λ x. x || false) e

-- beside what is flattened nothing has a name
distinct_last : (fs : List FlattenedOf) (ks : List (List ℕ)) (tag : List ℕ) → is_in tag (names_beside fs ks) ≡ false → IsDistinct ks → IsDistinct (names_beside fs (ks ++ tag ∷ []))
distinct_last [] ks tag free distinct = distinct-last ks tag distinct free
distinct_last (f ∷ fs) ks tag free distinct = tt

-- a tag that is not taken stands behind distinct names
pub distinct_beside : (tagging : Tagging) (form : FormOf) → tag_is_taken tagging form ≡ false → IsDistinct (form_names form) → IsDistinct (tagged_names tagging form)
distinct_beside (Internal tag) (named_fields b ms) free distinct = distinct_last b.flattened (member_names ms) tag free distinct
distinct_beside (Internal tag) (unnamed_fields ts) free distinct = tt
distinct_beside (Internal tag) no_fields free distinct = tt
distinct_beside (Adjacent tag content) (named_fields b ms) free distinct = distinct-last (content ∷ []) tag (refl, tt) (either-false (bytes_eq tag content) free)
distinct_beside (Adjacent tag content) (unnamed_fields ts) free distinct = distinct-last (content ∷ []) tag (refl, tt) (either-false (bytes_eq tag content) free)
distinct_beside (Adjacent tag content) no_fields free distinct = tt
distinct_beside External form free distinct = tt
distinct_beside Untagged form free distinct = tt

-- a tag that can stand there and is not taken
pub free_tag : (tagging : Tagging) (v : VariantItem) (form : FormOf) → can_be_tagged tagging form ≡ true → tag_is_taken tagging form ≡ false → RefusesNone (IsMisplacedTag tagging v form)
free_tag tagging v form can free e (inl (cannot, refused)) = false≢true (sym cannot ∙ can)
free_tag tagging v form can free e (inr (taken, refused)) = false≢true (sym free ∙ taken)

-- beside no fields a tag can stand
pub alone-tag : (tagging : Tagging) (v : VariantItem) → RefusesNone (IsMisplacedTag tagging v no_fields)
alone-tag External v = free_tag External v no_fields refl refl
alone-tag (Internal tag) v = free_tag (Internal tag) v no_fields refl refl
alone-tag (Adjacent tag content) v = free_tag (Adjacent tag content) v no_fields refl refl
alone-tag Untagged v = free_tag Untagged v no_fields refl refl
