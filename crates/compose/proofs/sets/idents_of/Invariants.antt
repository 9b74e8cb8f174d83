use Rattle.std.proofs.Common.{◌≡◌, map, take}
use Rattle.syntax.specs.declared.item.Declaration.{Declaration}
use Rattle.compose.proofs.sets.idents_of.Given as goal

-- the names so far
abbrev pub invariant-loop-declaration : goal.invariant-loop-declaration
invariant-loop-declaration l = l.idents ≡ map (λ (d : Declaration). d.ident) (take l.declaration-index l.declaration-items)
