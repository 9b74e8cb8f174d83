use Rattle.std.proofs.Common.{◌≡◌, ◌<◌, sym, subst, length}
use Rattle.open_types.specs.Open.{argument_at}
use Rattle.type_table.specs.Types.{type_at, types_at}
use Rattle.type_table.proofs.Fronts.{argument_within, argument_is}
use Rattle.type_table.proofs.substitution.argument.Goals as goal

pub returns-clause-within : goal.returns-clause-within
returns-clause-within c =
    subst (λ n. n < length c.args.types.now) (sym c.index-arguments-place.is)
    (argument_within (length c.args.types.now) c.args.arguments.now c.args.place c.index-arguments-place.result c.requires.numbers c.requires.within)

pub returns-clause-value : goal.returns-clause-value
returns-clause-value c =
    subst (λ n. type_at c.args.types.now n ≡ argument_at (types_at c.args.types.now c.args.arguments.now) c.args.place) (sym c.index-arguments-place.is)
    (argument_is c.args.types.now c.args.arguments.now c.args.place c.index-arguments-place.result c.requires.within)
