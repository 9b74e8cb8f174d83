use Rattle.std.proofs.Common.{rules, ◌-◌, map, take, drop, length}
use Rattle.tokens.specs.Trees.{tree_view}
use Rattle.prepare.proofs.Parts.{part_more, behind_view, no_view, comma_within, some_view}
use Rattle.prepare.proofs.fields.parts.Goals as goal

pub parts-preserved-in-empty : goal.parts-preserved-in-empty
parts-preserved-in-empty c = part_more c.args.in_types (λ part. map tree_view part.now) c.parts.found.items c.push.new.self.items c.before-in-parts.result (map tree_view c.parts.rest.now) (map tree_view c.from_comma-comma.result.now)
    (map tree_view c.from_comma-comma.result.now) (map tree_view c.args.trees.now) c.in_ok-push.ensures.items c.before-in-parts.ensures c.from_comma-comma.ensures (no_view c.from_comma-comma.result.now c.in-empty.len_below)
    (some_view c.parts.rest.now (search rules)) c.parts.invariant

pub parts-smaller : goal.parts-smaller
parts-smaller c = let fewer = comma_within c.args.in_types c.parts.rest.now c.from_comma-comma.result.now c.from_comma-comma.ensures in search (rules, fewer)

pub parts-preserved : goal.parts-preserved
parts-preserved c = part_more c.args.in_types (λ part. map tree_view part.now) c.parts.found.items c.push.new.self.items c.before-in-parts.result (map tree_view c.parts.rest.now) (map tree_view c.from_comma-comma.result.now)
    (map tree_view (take (length c.from_comma-comma.result.now - 1) (drop 1 c.from_comma-comma.result.now))) (map tree_view c.args.trees.now) c.in_ok-push.ensures.items c.before-in-parts.ensures c.from_comma-comma.ensures
    (behind_view c.from_comma-comma.result.now) (some_view c.parts.rest.now (search rules)) c.parts.invariant
