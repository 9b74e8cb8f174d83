use Rattle.std.proofs.Common.{ap, ◌∙◌}
use Rattle.serde_json.specs.Data.{put}
use Rattle.serde_json.specs.View.{view, members_view}
use Rattle.serde_json.specs.declared.value.Value.{Null}
use Rattle.documents.proofs.MergeLaws.{put-put}
use Rattle.documents.proofs.merging.take_members.Goals as goal

pub returns-in-Some-clause-others : goal.returns-in-Some-clause-others
returns-in-Some-clause-others c = λ d.
    let name = c.args.name.now in
    let before = members_view c.args.members.now.entries in
    ap (put name d) (c.in_ok-value.ensures.new ∙ ap (λ n. put n (view Null) before) c.in_ok-from_str.ensures.ok) ∙ put-put name d (view Null) before

pub returns-in-None-clause-others : goal.returns-in-None-clause-others
returns-in-None-clause-others c = λ d.
    let name = c.args.name.now in
    let before = members_view c.args.members.now.entries in
    ap (put name d) (c.in_ok-value.ensures.new ∙ ap (λ n. put n (view Null) before) c.in_ok-from_str.ensures.ok) ∙ put-put name d (view Null) before
