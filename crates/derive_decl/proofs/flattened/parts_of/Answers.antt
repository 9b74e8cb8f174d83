use Rattle.std.proofs.Common.{◌∙◌, ◌++◌, ◌∷◌, [], List, map, filter_map, true, None, Some, ap, sym, subst, append-nil}
use Rattle.std.proofs.lemmas.List.{map-append}
use Rattle.shapes.specs.Views.{flattened_view, flattened_map_view}
use Rattle.derive_decl.specs.Resolved.{TypedOf, map_from, beside_from}
use Rattle.derive_decl.specs.Views.{typed_view, IsPartOf}
use Rattle.derive_decl.proofs.NamedForms.{fields_more, maps_more}
use Rattle.derive_decl.proofs.flattened.parts_of.Goals as goal

pub loop-field-preserved-in-Continue-branch-3 : goal.loop-field-preserved-in-Continue-branch-3
loop-field-preserved-in-Continue-branch-3 c =
    let fs = map typed_view c.loop-field.yielded in
    let f = typed_view c.in-Some.field in
    let more = map-append typed_view c.loop-field.yielded (c.in-Some.field ∷ []) in
    let part = subst (IsPartOf f) c.in-Field.is c.in_ok-field.ensures in (
      ap (map flattened_view) c.in_ok-push-in-Field.ensures.ok
          ∙ map-append flattened_view c.loop-field.flattened (c.in-Field.field ∷ [])
          ∙ (λ i. c.loop-field.invariant.0 i ++ part.1 i ∷ [])
          ∙ sym (ap (λ (gs : List TypedOf). (beside_from true gs).flattened) more ∙ fields_more fs f None part.0),
      c.loop-field.invariant.1 ∙ sym (ap (filter_map map_from) more ∙ maps_more fs f None part.0 ∙ append-nil (filter_map map_from fs)),
    )

pub loop-field-preserved : goal.loop-field-preserved
loop-field-preserved c =
    let fs = map typed_view c.loop-field.yielded in
    let f = typed_view c.in-Some.field in
    let more = map-append typed_view c.loop-field.yielded (c.in-Some.field ∷ []) in
    let part = subst (IsPartOf f) c.in-Map.is c.in_ok-field.ensures in
    let found = flattened_map_view c.in-Map.map in (
      c.loop-field.invariant.0 ∙ sym (ap (λ (gs : List TypedOf). (beside_from true gs).flattened) more ∙ fields_more fs f (Some found) part ∙ append-nil (beside_from true fs).flattened),
      ap (map flattened_map_view) c.in_ok-push-in-Map.ensures.items
          ∙ map-append flattened_map_view c.loop-field.maps.items (c.in-Map.map ∷ [])
          ∙ ap (λ ms. ms ++ found ∷ []) c.loop-field.invariant.1
          ∙ sym (ap (filter_map map_from) more ∙ maps_more fs f (Some found) part),
    )
