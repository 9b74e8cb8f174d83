use Rattle.std.proofs.Common.{◌∙◌, List, map, ap}
use Rattle.open_types.specs.Open.{open_view}
use Rattle.shapes.specs.declared.declaration.Declaration.{Declaration}
use Rattle.shapes.specs.Views.{declaration_view}
use Rattle.instances.specs.Lists.{instance_at}
use Rattle.closing.specs.Closed.{instance_schema}
use Rattle.compose.specs.Sets.{declarations_of}
use Rattle.compose.proofs.sets.compose.Goals as goal

pub returns : goal.returns
returns c =
    c.in_ok-schema.ensures
    ∙ ap (λ (xs : List Declaration). instance_schema (map declaration_view xs) (instance_at c.args.instances.now.reach c.number_of-number.result)) c.as_slice-resolved.ensures
    ∙ ap (instance_schema (declarations_of c.args.terms.now)) (c.number_of-number.ensures.is ∙ ap open_view c.as_open.ensures.same)
