use Rattle.std.proofs.Common.{◌∙◌, map, ap, sym}
use Rattle.warnings.specs.Flat.{flat_view}
use Rattle.warnings.specs.Flattened.{whole_message}
use Rattle.warnings.proofs.Views.{option_view}
use Rattle.warnings.proofs.flattened.whole_message.Goals as goal

pub returns-in-Option : goal.returns-in-Option
returns-in-Option c =
    c.message_behind.ensures
    ∙ ap (whole_message (map flat_view c.args.flats.now)) (sym (option_view c.args.ty.now c.deref.result.now c.in-Option.of c.in-Option.is c.deref.ensures))
