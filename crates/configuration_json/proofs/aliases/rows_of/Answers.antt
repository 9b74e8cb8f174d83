use Rattle.std.proofs.Common.{subst, string_bytes}
use Rattle.serde_json.specs.Data.{member}
use Rattle.serde_json.specs.View.{view, members_view}
use Rattle.configuration_json.proofs.RowLaws.{AreRead, one_read, all_read}
use Rattle.configuration_json.proofs.aliases.rows_of.Goals as goal

pub loop-name-preserved : goal.loop-name-preserved
loop-name-preserved c =
    let all = members_view c.args.members.now.entries in
    let before : AreRead all (member (string_bytes c.in-Some.name.now) (view c.in-Some.value.now) (members_view c.next.new.self)) c.loop-name.names c.loop-name.types =
    subst (λ left. AreRead all (members_view left) c.loop-name.names c.loop-name.types) c.in-Some.ensures.steps c.loop-name.invariant in
    rw (c.in_ok-push-2.ensures.ok, c.in_ok-push.ensures.ok, c.in_ok-new.ensures, c.as_str.ensures.value)
    (one_read all (members_view c.next.new.self) c.loop-name.names c.loop-name.types (string_bytes c.in-Some.name.now) (view c.in-Some.value.now) c.in_ok-type_of.field-0 before c.in_ok-type_of.ensures.said)

pub returns-clause-said : goal.returns-clause-said
returns-clause-said c =
    let all = members_view c.args.members.now.entries in
    (all_read all c.loop-name.names c.loop-name.types (subst (λ left. AreRead all (members_view left) c.loop-name.names c.loop-name.types) c.in-None.ensures.steps.0 c.loop-name.invariant), c.loop-name.invariant.many)
