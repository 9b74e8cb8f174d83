use Rattle.std.proofs.Common.{◌≡◌, ◌<◌, Some, None, refl, ap, sym, ◌∙◌, arith, suc, ◌-◌}
use Rattle.written_types.specs.Written.{written_view}
use Rattle.resolving.specs.declared.aliases.Place.{Place}
use Rattle.resolving.specs.Known.{known}
use Rattle.resolving.specs.Aliases.{span_at}
use Rattle.resolving.proofs.Expanding.{alias_here, inside_below, inside_alone}
use Rattle.resolving.proofs.aliases.alias_at.Goals as goal

pub returns-in-Some : goal.returns-in-Some
returns-in-Some c =
    let found = c.in-Some.ensures in
    let there : Place = record { at = Some c.span_at.result; below = c.args.place.below - 1; whole = c.args.place.whole } in
    let less : c.args.place.below ≡ suc there.below = omega arith in
    (found.0, found.1, alias_here (known c.args.names.now) c.args.place there (written_view c.args.ty.now) found.0 c.in-Some.span found.2 less (ap Some c.span_at.ensures), omega arith, refl)

pub returns-in-None : goal.returns-in-None
returns-in-None c = inside_alone (known c.args.names.now) c.args.place (written_view c.args.ty.now) c.in-None.ensures

pub returns-then-place-eq0 : goal.returns-then-place-eq0
returns-then-place-eq0 c = inside_below (known c.args.names.now) c.args.place (written_view c.args.ty.now) c.if-place-eq0.true
