use Rattle.std.proofs.Common.{◌≡◌, ◌∙◌, None, map, filter_map, option_map, ap, sym, subst, arith}
use Rattle.std.proofs.lemmas.Grind.{common_steps}
use Rattle.std.specs.List.{last_or}
use Rattle.shapes.specs.Views.{flattened_map_view}
use Rattle.derive_decl.specs.Resolved.{map_from}
use Rattle.derive_decl.specs.Views.{typed_view, IsBesideOf}
use Rattle.derive_decl.proofs.NamedForms.{last-popped, last-mapped}
use Rattle.derive_decl.proofs.flattened.beside_from.Goals as goal

pub returns : goal.returns
returns c =
    let maps = c.in_ok-flattened.maps.items in
    let last : option_map flattened_map_view c.pop-map.result ≡ last_or None (filter_map map_from (map typed_view c.args.fields.items)) =
    ap (option_map flattened_map_view) (sym (last-popped maps c.pop-map.new.self.items c.pop-map.result c.pop-map.ensures.items (λ many. c.pop-map.ensures.variant.1 (grind (arith, common_steps)))))
    ∙ sym (last-mapped flattened_map_view None maps)
    ∙ ap (last_or None) c.in_ok-flattened.ensures.maps in
    subst (IsBesideOf (map typed_view c.args.fields.items)) (sym c.in_ok-new.ensures.ok) (record { fields = c.in_ok-flattened.ensures.fields; map_is = last })
