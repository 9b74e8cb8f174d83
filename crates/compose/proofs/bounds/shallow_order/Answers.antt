use Rattle.std.proofs.Common.{◌≡◌, ◌<◌, ◌∙◌, ℕ, List, suc, length, map, get_or, inr, ap, sym, subst}
use Rattle.diag.specs.declared.kind.Kind.TheVariants.{InlineDepth}
use Rattle.texts.specs.declared.span.Span.{Span}
use Rattle.shapes.specs.Views.{declaration_view}
use Rattle.inlining.specs.Depths.{IsDepth}
use Rattle.inlining.specs.Inlining.{AreTargets, IsAmong, IsPath}
use Rattle.instances.specs.Lists.{instance_at}
use Rattle.closing.specs.Closed.{most_inlined}
use Rattle.compose.specs.Bounds.{IsAt, instance_text, IsRefusalOf, deep_message}
use Rattle.compose.proofs.Placed.{path-within, deep-path}
use Rattle.compose.proofs.bounds.shallow_order.Goals as goal

pub inline_order-requires : goal.inline_order-requires
inline_order-requires c = subst AreTargets (sym c.requires.targets) (c.numbers_stand.ensures (map declaration_view c.args.resolved.now) c.args.reach.now).0

pub too_deep-requires-clause-within : goal.too_deep-requires-clause-within
too_deep-requires-clause-within c = λ n among.
    let ss = map declaration_view c.args.resolved.now in
    let cause = subst (IsDepth most_inlined c.args.targets.now) c.in-Beyond.is c.in_ok-order.ensures in
    let there : n < length c.args.targets.now = path-within c.args.targets.now c.in-Beyond.path n cause.0 (subst (IsAmong n) c.as_slice.ensures among) in
    subst (λ m. n < m) (ap length c.requires.targets ∙ (c.numbers_stand.ensures ss c.args.reach.now).2) there

pub returns-in_ok-too_deep-in-Beyond-clause-refused : goal.returns-in_ok-too_deep-in-Beyond-clause-refused
returns-in_ok-too_deep-in-Beyond-clause-refused c =
    let ds = c.args.idents.now in
    let ss = map declaration_view c.args.resolved.now in
    let is = c.args.reach.now in
    let path = c.in-Beyond.path in
    let e = c.in_ok-too_deep-in-Beyond.field-0 in
    let cause = subst (IsDepth most_inlined c.args.targets.now) c.in-Beyond.is c.in_ok-order.ensures in
    let long : length path ≡ suc most_inlined = cause.1 in
    let within : (n : ℕ) → IsAmong n path → n < length is =
    λ n among. subst (λ m. n < m) (ap length c.requires.targets ∙ (c.numbers_stand.ensures ss is).2) (path-within c.args.targets.now path n cause.0 among) in
    let refusal = subst (λ (ns : List ℕ). (span : Span) × IsAt ds (instance_at is (get_or ns 0 0)) span × IsRefusalOf InlineDepth span deep_message (map (instance_text ds) (map (instance_at is) ns)) e) c.as_slice.ensures c.in_ok-too_deep-in-Beyond.ensures in
    inr (deep-path ds ss is c.requires.instances path within (c.paths_by_numbers.ensures ss is path (subst (λ g. IsPath g path) c.requires.targets cause.0)) long e refusal)
