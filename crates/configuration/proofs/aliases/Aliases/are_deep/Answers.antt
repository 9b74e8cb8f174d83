use Rattle.std.proofs.Common.{◌∙◌, subst}
use Rattle.std.specs.BTreeMap.{get_by_text}
use Rattle.inlining.specs.Inlining.{AreTargets}
use Rattle.configuration.proofs.AliasLaws.{targets-stored, are_targets, within, beyond}
use Rattle.configuration.proofs.aliases.Aliases.are_deep.Goals as goal

pub inline_order-requires : goal.inline_order-requires
inline_order-requires c =
    let self = c.self.inside in
    let same = targets-stored self.names self.types self.bare c.as_slice.result.now (get_by_text self.places) c.as_slice-2.result.now c.args.self.now c.self.invariant c.self.view_is c.as_slice.ensures (c.as_slice-2.ensures ∙ c.in_ok-targets.ensures) in
    subst AreTargets same (are_targets c.args.self.now)

pub returns-in-Within : goal.returns-in-Within
returns-in-Within c =
    let self = c.self.inside in
    let same = targets-stored self.names self.types self.bare c.as_slice.result.now (get_by_text self.places) c.as_slice-2.result.now c.args.self.now c.self.invariant c.self.view_is c.as_slice.ensures (c.as_slice-2.ensures ∙ c.in_ok-targets.ensures) in
    within c.args.self.now c.as_slice-2.result.now c.in_ok-inline_order.field-0 c.in-Within.field-0 same c.in-Within.is c.in_ok-inline_order.ensures

pub returns : goal.returns
returns c =
    let self = c.self.inside in
    let same = targets-stored self.names self.types self.bare c.as_slice.result.now (get_by_text self.places) c.as_slice-2.result.now c.args.self.now c.self.invariant c.self.view_is c.as_slice.ensures (c.as_slice-2.ensures ∙ c.in_ok-targets.ensures) in
    beyond c.args.self.now c.as_slice-2.result.now c.in_ok-inline_order.field-0 c.in-Beyond.field-0 same c.in-Beyond.is c.in_ok-inline_order.ensures
