-- What a run begins with.
use Rattle.std.specs.Prelude.{ℕ, List, Bool, Option}
use Rattle.streams.specs.declared.source.Source.{Ghosts as AnySource}
use Rattle.files.specs.declared.files.Files.{Ghosts as AnyFiles}

-- the words, whether the files tell what they hold, what they hold at each path, and what the input
-- has left, where that is told
pub record Beginning : Type 0 where
  pub words : List (List ℕ)
  pub tells : Bool
  pub held : List ℕ → Option (List ℕ)
  pub left : Option (List ℕ)

-- what a run begins with that has these words, these files and an input with this left
abbrev pub begun_with : {F : Type 0}
    → AnyFiles F → List (List ℕ) → F → Option (List ℕ) → Beginning
begun_with any words files left = record {
  words = words;
  tells = any.tells files;
  held = any.held files;
  left = left;
}

-- what a run begins with that has these words, this input and these files
abbrev pub beginning_of : {S F : Type 0}
    → AnySource S → AnyFiles F → List (List ℕ) → S → F → Beginning
beginning_of source any words input files = begun_with any words files (source.left input)
