-- The types of variants.
use Rattle.std.proofs.Common.{ℕ, ◌+◌, ◌<◌, List, [], ◌∷◌, ◌++◌, length, take, get_or, map, ◌≡◌, ◌∙◌, ap, sym}
use Rattle.std.proofs.lemmas.List.{take_more, map_push, map-append, append-nil, append_assoc}
use Rattle.open_types.specs.Open.{Open}
use Rattle.shapes.specs.declared.declaration.Variant.{Variant}
use Rattle.shapes.specs.Declarations.{VariantOf, form_types, variant_types}
use Rattle.shapes.specs.Views.{form_view, variant_view}

variant_types-push : (xs : List VariantOf) (x : VariantOf) → variant_types (xs ++ x ∷ []) ≡ variant_types xs ++ form_types x.form
variant_types-push [] x = append-nil (form_types x.form)
variant_types-push (y ∷ ys) x = ap (λ ts. form_types y.form ++ ts) (variant_types-push ys x) ∙ sym (append_assoc (form_types y.form) (variant_types ys) (form_types x.form))

-- the types of the variants so far, and of one more
pub types_more : {A : Type 0} (view : A → Open) (vs : List Variant) (i : ℕ) (v : Variant) (types more : List A) → i < length vs → v ≡ get_or vs i v → map view types ≡ variant_types (map variant_view (take i vs)) →
    map view more ≡ form_types (form_view v.form) → map view (types ++ more) ≡ variant_types (map variant_view (take (i + 1) vs))
types_more view vs i v types more l is e g =
    map-append view types more
    ∙ (λ j. e j ++ g j)
    ∙ sym (variant_types-push (map variant_view (take i vs)) (variant_view v))
    ∙ ap (λ (x : Variant). variant_types (map variant_view (take i vs) ++ variant_view x ∷ [])) is
    ∙ sym (ap variant_types (map_push variant_view (take i vs) (get_or vs i v)))
    ∙ sym (ap (λ xs. variant_types (map variant_view xs)) (take_more vs i v l))
