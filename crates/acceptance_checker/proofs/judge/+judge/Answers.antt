use Rattle.std.proofs.Common.{◌≡◌, ◌≤◌, ◌&&◌, Some, option_map, sym, ap, ◌∙◌, arith}
use Rattle.acceptance.specs.Acceptance.{members_hold, component_schema}
use Rattle.acceptance_checker.specs.Judge.{components_at}
use Rattle.acceptance_checker.specs.Layer.{json_of_layer, json_of_value, json_of_entries}
use Rattle.acceptance_checker.proofs.Levels.{levels, members_levels, levels-component, one_less}
use Rattle.acceptance_checker.proofs.Schemas.{component_there, members_hold-first}
use Rattle.acceptance_checker.proofs.Views.{Entry}
use Rattle.acceptance_checker.proofs.judge.+judge.Goals as goal

pub component_holds-schema_accepts-requires : goal.component_holds-schema_accepts-requires
component_holds-schema_accepts-requires t c =
    let s = json_of_layer c.in-Some.schema in
    let found : component_schema (json_of_value c.args.document.now) c.args.name.now ≡ Some s = sym c.component_schema.ensures ∙ ap (option_map json_of_layer) c.in-Some.is in
    let low : levels s ≤ levels (json_of_value c.args.document.now) = levels-component (json_of_value c.args.document.now) c.args.name.now s found in
    let less = one_less c.args.depth (levels (json_of_value c.args.document.now)) (levels s) c.if-depth-eq0.false low in
    (omega (arith, less, c.requires), tt)

pub component_holds-returns-in-Some : goal.component_holds-returns-in-Some
component_holds-returns-in-Some t c =
    let s = json_of_layer c.in-Some.schema in
    let found : component_schema (json_of_value c.args.document.now) c.args.name.now ≡ Some s = sym c.component_schema.ensures ∙ ap (option_map json_of_layer) c.in-Some.is in
    c.schema_accepts.ensures ∙ sym (component_there (json_of_value c.args.document.now) c.args.depth c.args.name.now s (json_of_layer c.args.value) c.if-depth-eq0.false found)

pub members_hold-returns-then-not-member_holds : goal.members_hold-returns-then-not-member_holds
members_hold-returns-then-not-member_holds t c =
    let component = components_at c.args.document.now c.args.depth in
    let schema = json_of_entries c.args.schema.now.entries in
    let v = json_of_layer c.args.value in
    let e : Entry = (c.in-Some.name.now, c.in-Some.x.now) in
    let rest = c.next.new.self in
    let first = members_hold-first component schema e rest c.as_str.result.now (json_of_layer c.layer_of.result) v c.member_holds.result c.as_str.ensures.value c.layer_of.ensures c.member_holds.ensures in
    sym (ap (λ b. b && members_hold component schema (json_of_entries rest) v) c.if-not-member_holds.true) ∙ sym first
    ∙ sym (ap (λ es. members_hold component schema (json_of_entries es) v) c.in-Some.ensures.steps) ∙ c.loop-name.invariant.0

pub members_hold-loop-name-preserved : goal.members_hold-loop-name-preserved
members_hold-loop-name-preserved t c =
    let component = components_at c.args.document.now c.args.depth in
    let schema = json_of_entries c.args.schema.now.entries in
    let v = json_of_layer c.args.value in
    let e : Entry = (c.in-Some.name.now, c.in-Some.x.now) in
    let rest = c.next.new.self in
    let first = members_hold-first component schema e rest c.as_str.result.now (json_of_layer c.layer_of.result) v c.member_holds.result c.as_str.ensures.value c.layer_of.ensures c.member_holds.ensures in
    let deep = ap (λ es. members_levels (json_of_entries es)) c.in-Some.ensures.steps in (
      sym (ap (λ b. b && members_hold component schema (json_of_entries rest) v) c.if-not-member_holds.false) ∙ sym first
          ∙ sym (ap (λ es. members_hold component schema (json_of_entries es) v) c.in-Some.ensures.steps) ∙ c.loop-name.invariant.0,
      omega (arith, deep),
    )
