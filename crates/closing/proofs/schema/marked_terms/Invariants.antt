use Rattle.std.proofs.Common.{◌≡◌, ◌<◌, ℕ, length, map, get_or, IsTrue}
use Rattle.schema_trees.specs.Schema.{leaf}
use Rattle.component.specs.Leaves.{term_view, param}
use Rattle.terms.specs.InstanceTerms.{instance_term}
use Rattle.inlining.specs.Marks.{mark}
use Rattle.instances.specs.Lists.{instance_at}
use Rattle.shapes.specs.Views.{declaration_view}
use Rattle.closing.proofs.schema.marked_terms.Given as goal

-- the terms so far
abbrev pub invariant-loop-number : goal.invariant-loop-number
invariant-loop-number l = record {
  many : length l.terms.items ≡ l.number;
  terms : (n : ℕ) → n < l.number → IsTrue (mark l.marks n) → get_or (map term_view l.terms.items) n (leaf (param 0)) ≡ instance_term (map declaration_view l.declared) (instance_at l.reach n);
}
