-- The names that a `use` gives.
use Rattle.std.proofs.Common.{◌≡◌, ◌<◌, List, [], ◌∷◌, length, refl, arith}
use Rattle.tokens.specs.declared.token.TokenTree.{TokenTree}
use Rattle.tokens.specs.Trees.{trees_view}
use Rattle.prepare.specs.Imports.{import_at}

-- fewer than three trees give none
pub few_give_none : (ts : List TokenTree) → length ts < 3 → import_at (trees_view ts) ≡ []
few_give_none [] h = refl
few_give_none (t ∷ []) h = refl
few_give_none (t ∷ u ∷ []) h = refl
few_give_none (t ∷ u ∷ v ∷ ts) h = absurd (omega (arith, h))
