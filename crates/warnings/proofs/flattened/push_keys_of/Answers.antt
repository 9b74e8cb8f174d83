use Rattle.std.proofs.Common.{◌≡◌, ◌++◌, map, sym, subst}
use Rattle.std.specs.Prelude.{OnOk}
use Rattle.written_types.specs.Written.{written_view}
use Rattle.open_types.specs.Open.{Open}
use Rattle.warnings.specs.Rules.{warning_view}
use Rattle.warnings.specs.Through.{declarations_of}
use Rattle.warnings.specs.Flat.{flat_view}
use Rattle.warnings.specs.Flattened.{key_warnings_of}
use Rattle.warnings.proofs.Views.{map_view}
use Rattle.warnings.proofs.flattened.push_keys_of.Goals as goal

pub returns-in-Map : goal.returns-in-Map
returns-in-Map c =
    let lookup = c.args.lookup.now in
    let keys = λ (of : Open). key_warnings_of (map flat_view lookup.flats) (declarations_of lookup.places.now) (written_view c.args.ty.now) of in
    subst (λ (of : Open). OnOk c.push_map.result (map warning_view c.push_map.new.warnings ≡ map warning_view c.args.warnings.now ++ keys of))
    (sym (map_view c.args.of.now c.deref.result.now c.in-Map.field-0 c.in-Map.key c.in-Map.field-2 c.in-Map.is c.deref.ensures))
    c.push_map.ensures
