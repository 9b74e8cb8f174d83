use Rattle.std.proofs.Common.{◌≡◌, map, take}
use Rattle.component.specs.Leaves.{term_view}
use Rattle.terms.specs.InstanceTerms.{instance_term}
use Rattle.shapes.specs.Views.{declaration_view}
use Rattle.closing.specs.Links.{targets_at, references_at, numbered}
use Rattle.closing.proofs.links.linked_terms.Given as goal

-- the terms of the instances so far, and their links
abbrev pub invariant-loop-number : goal.invariant-loop-number
invariant-loop-number l = record {
  terms : map term_view l.terms.items ≡ map (instance_term (map declaration_view l.declared)) (take l.number l.reach);
  targets : l.links.targets ≡ map (λ t. numbered l.reach (targets_at (map declaration_view l.declared) t)) (take l.number l.reach);
  references : l.links.references ≡ map (λ t. numbered l.reach (references_at (map declaration_view l.declared) t)) (take l.number l.reach);
}
