use Rattle.std.proofs.Common.{map, get_or}
use Rattle.std.proofs.lemmas.Result.{IfOk-weaker}
use Rattle.diag.specs.declared.kind.Kind.TheVariants.{InlineDepth}
use Rattle.texts.specs.declared.span.Span.{Span}
use Rattle.instances.specs.Lists.{instance_at}
use Rattle.inlining.proofs.Laws.{among_at}
use Rattle.compose.specs.Bounds.{IsAt, instance_text, IsRefusalOf, deep_message}
use Rattle.compose.proofs.refusals.too_deep.Goals as goal

pub span_of-span-requires-clause-within : goal.span_of-span-requires-clause-within
span_of-span-requires-clause-within c = c.requires.within (get_or c.args.path.now 0 0) (among_at c.args.path.now 0 0 c.requires.some)

pub returns : goal.returns
returns c =
    let texts = map (instance_text c.args.idents.now) (map (instance_at c.args.reach.now) c.args.path.now) in
    let first = instance_at c.args.reach.now (get_or c.args.path.now 0 0) in
    IfOk-weaker c.refusal_of.result (IsRefusalOf InlineDepth c.span_of-span.result deep_message texts) (λ e. (span : Span) × IsAt c.args.idents.now first span × IsRefusalOf InlineDepth span deep_message texts e)
    (λ e refusal. (c.span_of-span.result, c.span_of-span.ensures, refusal)) c.refusal_of.ensures
