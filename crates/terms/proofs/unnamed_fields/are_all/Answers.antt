use Rattle.std.proofs.Common.{◌+◌, ◌&&◌, map, drop, ap, sym, ◌∙◌}
use Rattle.open_types.specs.Open.{open_view}
use Rattle.terms.specs.Terms.{are_all}
use Rattle.terms.proofs.Alike.{alike_at, not_same, all_same}
use Rattle.terms.proofs.unnamed_fields.are_all.Goals as goal

pub returns-then-ne : goal.returns-then-ne
returns-then-ne c =
    let t = open_view c.args.first.now in
    let us = c.args.others.now in
    let i = c.loop-other.other-index in
    sym (ap (λ b. b && are_all t (map open_view (drop (i + 1) us))) (not_same _ c.if-ne.ensures)) ∙ sym (alike_at t us i c.other-item.result c.loop-other-test.true c.other-item.is) ∙ c.loop-other.invariant

pub loop-other-preserved : goal.loop-other-preserved
loop-other-preserved c =
    let t = open_view c.args.first.now in
    let us = c.args.others.now in
    let i = c.loop-other.other-index in
    sym (ap (λ b. b && are_all t (map open_view (drop (i + 1) us))) (all_same _ c.if-ne.ensures)) ∙ sym (alike_at t us i c.other-item.result c.loop-other-test.true c.other-item.is) ∙ c.loop-other.invariant
