-- Token trees, without where they lie in memory (The Rust Reference, "Tokens", "Delimiters").
use Rattle.std.specs.Prelude.{ℕ, suc, max, List, [], ◌∷◌, map}
use Rattle.texts.specs.declared.span.Span.{Span}
use Rattle.tokens.specs.declared.token.Token.{Token}
use Rattle.tokens.specs.declared.token.Bracket.{Bracket}
use Rattle.tokens.specs.declared.token.Group.{Group, fold-Group}
use Rattle.tokens.specs.declared.token.TokenTree.{TokenTree, fold-TokenTree}
use Rattle.tokens.specs.declared.token.TokenTree.TheOpen.{TokenTree-F, Group-F}

infixr 30 ◌▸◌
mutual
  pub data Tree : Type 0 where
    token : Token → Tree
    group : Bracket → Trees → Span → Tree

  pub data Trees : Type 0 where
    end : Trees
    ◌▸◌ : Tree → Trees → Trees

abbrev pub trees_of : List Tree → Trees
trees_of [] = end
trees_of (t ∷ ts) = t ▸ trees_of ts

-- one level, where each tree inside is seen already
abbrev pub tree_step : TokenTree-F Tree Tree → Tree
tree_step (TokenTree-F.Token t) = token t
tree_step (TokenTree-F.Group g) = g

abbrev pub group_step : Group-F Tree Tree → Tree
group_step g = group g.bracket (trees_of g.trees) g.span

-- what a token tree, a group and a list of token trees are
abbrev pub tree_view : TokenTree → Tree
tree_view = fold-TokenTree Tree Tree tree_step group_step

abbrev pub group_view : Group → Tree
group_view = fold-Group Tree Tree tree_step group_step

abbrev pub trees_view : List TokenTree → Trees
trees_view ts = trees_of (map tree_view ts)

-- how deep brackets nest
abbrev mutual
  pub depth_of : Tree → ℕ
  depth_of (token t) = 0
  depth_of (group b ts s) = suc (depth ts)

  pub depth : Trees → ℕ
  depth end = 0
  depth (t ▸ ts) = max (depth_of t) (depth ts)
