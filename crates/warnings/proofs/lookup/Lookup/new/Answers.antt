use Rattle.std.proofs.Common.{◌∙◌, ◌++◌, ◌∷◌, [], List, map, option_map, ap, ap₂, sym}
use Rattle.std.proofs.lemmas.List.{map-append}
use Rattle.std.proofs.lemmas.Option.{slice_get-map}
use Rattle.syntax.specs.Items.{declarations_view}
use Rattle.warnings.specs.Flat.{FlatOf, flat_view, flat_at, flats_of}
use Rattle.warnings.proofs.Declared.{take_one}
use Rattle.warnings.proofs.lookup.Lookup.new.Goals as goal

pub loop-at-preserved : goal.loop-at-preserved
loop-at-preserved c =
    let config = c.args.config.now in
    let ds = declarations_view c.args.places.now.declarations.now in
    let at = c.loop-at.at in
    let got = c.in_ok-flat_at.ensures in
    ap (map flat_view) c.in_ok-push.ensures.ok
    ∙ map-append flat_view c.loop-at.flats (c.in_ok-flat_at.field-0 ∷ [])
    ∙ ap₂ (λ (before : List FlatOf) (one : FlatOf). before ++ one ∷ []) c.loop-at.invariant got.2
    ∙ sym (take_one (flats_of config ds) at (flat_at config ds got.0) (slice_get-map (flat_at config ds) ds at ∙ ap (option_map (flat_at config ds)) got.1))
