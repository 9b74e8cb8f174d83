-- The texts of identifiers, and the names of variants.
use Rattle.std.proofs.Common.{ℕ, List, [], ◌∷◌, map, true, Option, Some, None, option_map, option_and_then, ◌≡◌, ◌∙◌, refl, ap}
use Rattle.std.proofs.lemmas.Option.{none-some, same_Some}
use Rattle.diag.specs.declared.rename_rule.RenameRule.{RenameRule}
use Rattle.diag.specs.declared.rename_row.RenameRow.{RenameRow}
use Rattle.texts.specs.Names.{IsDistinct}
use Rattle.written_types.specs.declared.written.Ident.{Ident}
use Rattle.syntax.specs.Items.{VariantItem}
use Rattle.scopes.specs.Names.{texts}
use Rattle.shapes.specs.declared.tagging.Tagging.{Tagging}
use Rattle.shapes.specs.declared.tagging.Tagging.TheVariants.{External, Internal, Adjacent, Untagged}
use Rattle.serde_names.specs.Names.{named_at}
use Rattle.derive_decl.specs.Variants.{are_told, variant_name, variant_ident}
use Rattle.derive_decl.specs.Resolved.{all_of}
use Rattle.derive_decl.proofs.Values.{are_distinct_from}

pub texts_are : (xs : List Ident) → map (λ (x : Ident). x.text) xs ≡ texts xs
texts_are [] = refl
texts_are (x ∷ xs) = ap (λ ys. x.text ∷ ys) (texts_are xs)

-- the names are the texts of the identifiers that stand for them
pub names-are : (rows : List RenameRow) (rule : Option RenameRule) (tagging : Tagging) (vs : List VariantItem) (xs : List Ident) → all_of (variant_ident rows rule tagging) vs ≡ Some xs → all_of (variant_name rows rule tagging) vs ≡ Some (texts xs)
names-are rows rule tagging [] xs e = ap (λ ys. Some (texts ys)) (same_Some [] xs e)
names-are rows rule tagging (v ∷ vs) xs e = by (variant_name rows rule tagging v) (all_of (variant_ident rows rule tagging) vs) e (names-are rows rule tagging vs)
  where
    by : (n : Option (List ℕ)) (o : Option (List Ident)) → option_and_then (λ y. option_map (λ ys. y ∷ ys) o) (option_map (named_at v.ident) n) ≡ Some xs →
        ((ys : List Ident) → o ≡ Some ys → all_of (variant_name rows rule tagging) vs ≡ Some (texts ys)) → option_and_then (λ y. option_map (λ ys. y ∷ ys) (all_of (variant_name rows rule tagging) vs)) n ≡ Some (texts xs)
    by None o h later = absurd (none-some xs h)
    by (Some n) None h later = absurd (none-some xs h)
    by (Some n) (Some ys) h later = ap (option_map (λ ms. n ∷ ms)) (later ys refl) ∙ ap (λ zs. Some (texts zs)) (same_Some (named_at v.ident n ∷ ys) xs h)

-- distinct names are told
pub told_distinct : (tagging : Tagging) (names : List (List ℕ)) → IsDistinct names → are_told tagging names ≡ true
told_distinct External names distinct = are_distinct_from names distinct
told_distinct (Internal tag) names distinct = are_distinct_from names distinct
told_distinct (Adjacent tag content) names distinct = are_distinct_from names distinct
told_distinct Untagged names distinct = refl
