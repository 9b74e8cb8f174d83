use Rattle.std.proofs.Common.{arith}
use Rattle.selecting.proofs.Aliased.{alias_added, all_added}
use Rattle.selecting.proofs.types.configured_nodes.Goals as goal

pub loop-at-preserved : goal.loop-at-preserved
loop-at-preserved c =
    rw c.in_ok-push.ensures.ok
    (alias_added c.args.config.now.aliases c.alias_names-names.result.now c.alias_types-types.result.now c.loop-at.at c.index-names-at.result c.index-types-at.result _ _ c.loop-at.nodes
    c.alias_names-names.ensures c.alias_types-types.ensures (omega arith) c.index-names-at.is c.index-types-at.is c.in_ok-copy.ensures c.in_ok-last_names.ensures c.loop-at.invariant)

pub returns : goal.returns
returns c = all_added c.args.config.now.aliases c.alias_names-names.result.now c.loop-at.at c.loop-at.nodes c.alias_names-names.ensures (omega arith) c.loop-at.invariant
