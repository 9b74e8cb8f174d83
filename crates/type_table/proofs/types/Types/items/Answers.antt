use Rattle.std.proofs.Common.{arith, ◌∙◌, ◌<◌, sym, ap, List, subst}
use Rattle.open_types.specs.Open.{Open, Opens}
use Rattle.type_table.specs.Nodes.{items_of}
use Rattle.type_table.specs.Types.{type_at, AllBelow}
use Rattle.type_table.proofs.Chains.{behind, behind-one, behind-none, below-push, no-items}
use Rattle.type_table.proofs.types.Types.items.Goals as goal

pub loop-first-preserved : goal.loop-first-preserved
loop-first-preserved c =
    let known : List Open = c.args.self.now in
    let first = c.in-Item.first in
    let others : Opens = items_of (type_at known c.in-Item.behind) in
    let below : first < c.args.tuple = omega (arith, c.in-Item.ensures.below.0, c.loop-first.invariant.within) in
    record {
      within = omega (arith, c.loop-first.invariant.within, c.in-Item.ensures.below.1.0);
      is_tuple = c.in-Item.ensures.parts.1;
      items =
          ap (λ ns. behind known ns others) c.in_ok-push.ensures.ok
          ∙ behind-one known c.loop-first.items first others
          ∙ ap (λ t. behind known c.loop-first.items (items_of t)) (sym c.in-Item.ensures.is)
          ∙ c.loop-first.invariant.items;
      below = subst (AllBelow c.args.tuple) (sym c.in_ok-push.ensures.ok) (below-push c.args.tuple c.loop-first.items first c.loop-first.invariant.below below);
    }

pub returns : goal.returns
returns c =
    let known : List Open = c.args.self.now in
    let none = no-items known c.node.result c.in_default.not-Item in
    record {
      items =
          sym (behind-none known c.loop-first.items)
          ∙ sym (ap (behind known c.loop-first.items) (ap items_of c.node.ensures.is ∙ none))
          ∙ c.loop-first.invariant.items;
      below = c.loop-first.invariant.below;
    }
