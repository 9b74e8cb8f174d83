use Rattle.std.proofs.Common.{◌≡◌, ◌++◌, drop}
use Rattle.closing.specs.Links.{inline_of, referred_of}
use Rattle.closing.proofs.LinksFound.{all_picked, property_picked}
use Rattle.closing.proofs.links.+links.Given as goal

-- what is found, and what is still to come, is all of it
abbrev pub invariant-push_properties-loop-property : goal.invariant-push_properties-loop-property
invariant-push_properties-loop-property l = record {
  targets : l.found.targets ++ property_picked inline_of l.reach (drop l.property-index l.properties) ≡ l.initial.found.targets ++ property_picked inline_of l.reach l.properties;
  references : l.found.references ++ property_picked referred_of l.reach (drop l.property-index l.properties) ≡ l.initial.found.references ++ property_picked referred_of l.reach l.properties;
}

abbrev pub invariant-push_all-loop-term : goal.invariant-push_all-loop-term
invariant-push_all-loop-term l = record {
  targets : l.found.targets ++ all_picked inline_of l.reach (drop l.term-index l.terms) ≡ l.initial.found.targets ++ all_picked inline_of l.reach l.terms;
  references : l.found.references ++ all_picked referred_of l.reach (drop l.term-index l.terms) ≡ l.initial.found.references ++ all_picked referred_of l.reach l.terms;
}
