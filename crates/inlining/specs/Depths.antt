-- How deep instances stand in each other's schemas.
use Rattle.std.specs.Prelude.{◌≡◌, ◌+◌, ℕ, List, length}
use Rattle.inlining.specs.declared.order.Depth.{Depth}
use Rattle.inlining.specs.declared.order.Depth.TheVariants.{Within, Beyond}
use Rattle.inlining.specs.Inlining.{IsPath, IsAtMost, IsOrder}

-- No inline path has more instances than these, and there is an order; or there is a path that has one more.
abbrev pub IsDepth : ℕ → List (List ℕ) → Depth → Type 0
IsDepth most g (Within order) = IsAtMost most g × IsOrder g order
IsDepth most g (Beyond path) = IsPath g path × (length path ≡ most + 1)
