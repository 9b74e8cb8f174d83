use Rattle.std.proofs.Common.{◌≡◌, ◌∙◌, IfOk, map, ap, subst}
use Rattle.open_types.specs.Open.{open_view}
use Rattle.shapes.specs.InstanceNames.{instance_name}
use Rattle.shapes.specs.Views.{declaration_view}
use Rattle.instances.proofs.names.name_of.Goals as goal

pub returns : goal.returns
returns c =
    let f = instance_name (map declaration_view c.args.declared.now) in
    subst (λ n. IfOk c.instance_name.result (λ name. name ≡ n)) (ap (λ t. f (open_view t)) c.as_open.ensures.same ∙ ap f c.in_ok-ty.ensures) c.instance_name.ensures
