use Rattle.std.proofs.Common.{◌≡◌, length, map, option_map, None}
use Rattle.tokens.specs.Trees.{tree_view}
use Rattle.words.specs.Words.{ident_of}
use Rattle.prepare.specs.Heads.{last_name}
use Rattle.prepare.proofs.heads.last_name.Given as goal

abbrev pub invariant-trees : goal.invariant-trees
invariant-trees l =
    last_name (option_map (λ token. ident_of token.now) l.found) (map (λ tree. tree_view tree.now) l.rest) ≡ last_name None (map (λ tree. tree_view tree.now) l.trees)

abbrev pub decreases-trees : goal.decreases-trees
decreases-trees l = length l.rest
