use Rattle.std.proofs.Common.{◌≡◌, ◌∙◌, ◌∷◌, [], map, ap, subst, rules}
use Rattle.std.proofs.lemmas.Result.{IfOk-weaker}
use Rattle.diag.specs.declared.kind.Kind.TheVariants.{NameClash}
use Rattle.open_types.specs.Open.{open_view}
use Rattle.shapes.specs.Views.{declaration_view}
use Rattle.instances.specs.Lists.{instance_at}
use Rattle.shapes.specs.InstanceNames.{instance_name}
use Rattle.compose.specs.Bounds.{instance_text, IsRefusalOf, IsClashOf, clash_message}
use Rattle.compose.proofs.refusals.ordered_clash.Goals as goal

pub returns : goal.returns
returns c =
    let ds = c.args.idents.now in
    let ss = map declaration_view c.args.resolved.now in
    let t = instance_at c.args.reach.now c.args.first in
    let u = instance_at c.args.reach.now c.args.second in
    let typed : open_view c.as_open.result.now ≡ t = ap open_view c.as_open.ensures.same ∙ c.in_ok-ty.ensures in
    let named : c.in_ok-name.name ≡ instance_name ss t = c.in_ok-name.ensures ∙ ap (instance_name ss) typed in
    let said : c.as_str-2.result.now ≡ clash_message (instance_name ss t) = search rules in
    let texts = instance_text ds t ∷ instance_text ds u ∷ [] in
    IfOk-weaker c.refusal_of.result (IsRefusalOf NameClash c.span_of-span.result c.as_str-2.result.now texts) (IsClashOf ds ss t u)
    (λ e refusal. (c.span_of-span.result, c.span_of-span.ensures, subst (λ m. IsRefusalOf NameClash c.span_of-span.result m texts e) said refusal)) c.refusal_of.ensures
