use Rattle.std.proofs.Common.{map, take}
use Rattle.std.specs.List.{AllZip}
use Rattle.component.specs.Leaves.{term_view}
use Rattle.declaration_schemas.proofs.one_of.terms_of.Given as goal

-- the terms so far are those of the items so far
abbrev pub invariant-loop-item : goal.invariant-loop-item
invariant-loop-item g l = AllZip g.T.ToTerm.has_term (take l.item-index l.items) (map term_view l.terms)
