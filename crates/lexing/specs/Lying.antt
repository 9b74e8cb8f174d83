-- Where trees of a source begin and end.
use Rattle.std.specs.Prelude.{ℕ, List}
use Rattle.std.specs.Str.{IsUtf8, IsCharBoundary}
use Rattle.tokens.specs.Trees.{Tree, token, group, Trees, end, ◌▸◌}
use Rattle.lexing.specs.Cut.{IsCut}

-- the trees, and those in groups, begin and end between two characters of the source
abbrev mutual
  pub LiesIn : List ℕ → Tree → Type 0
  LiesIn source (token t) = IsCharBoundary source t.span.start × IsCharBoundary source t.span.end
  LiesIn source (group b ts s) = IsCharBoundary source s.start × IsCharBoundary source s.end × AreIn source ts

  pub AreIn : List ℕ → Trees → Type 0
  AreIn source end = Unit {0}
  AreIn source (t ▸ ts) = LiesIn source t × AreIn source ts

-- The law: the trees of a source begin and end between two of its characters.
abbrev pub TreesLie : Type 0
TreesLie = (source : List ℕ) (trees : Trees) → IsUtf8 source → IsCut source trees → AreIn source trees
