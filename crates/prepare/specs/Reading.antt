-- A file whose trees are read and gone through some at a time.
use Rattle.std.specs.Prelude.{◌≡◌, ℕ, suc, ◌≤◌, List, [], ◌++◌, map, true, false, cond, Result}
use Rattle.tokens.specs.Trees.{Tree, Trees, tree_view, depth}
use Rattle.lexing.specs.Chunks.{IsReadTo, left_of}
use Rattle.lexing.specs.Cut.{most_open, IsCut}
use Rattle.prepare.specs.declared.item.Standing.{Standing}
use Rattle.prepare.specs.declared.item.Stop.{Stop}
use Rattle.prepare.specs.declared.reading.Reading.{Reading}
use Rattle.prepare.specs.Trees.{listed, before}
use Rattle.prepare.specs.Attributes.{after_inner, is_for_tests}
use Rattle.prepare.specs.Standing.{StandUpTo, StandInside, StopInside, Finds}

-- the trees that are read and not gone through
abbrev pub window_of : Reading → List Tree
window_of r = map tree_view r.window

-- how much is left to be read
abbrev pub to_read : Reading → ℕ
to_read r = cond r.is_whole 0 (suc (left_of r.chunks))

-- these trees of the source are read, which are all of them if no more follow
pub record Reads (source : List ℕ) (r : Reading) (seen : List Tree) : Type 0 where
  pub trees : Trees
  pub of : r.chunks.source.now ≡ source
  pub are : listed trees ≡ seen
  pub shallow : depth trees ≤ most_open
  pub goes_on : r.is_whole ≡ false → IsReadTo r.chunks trees
  pub ends : r.is_whole ≡ true → IsCut source trees

-- more trees are read, which stand at the end of the others
pub record Grows (source : List ℕ) (then now : Reading) (seen : List Tree) : Type 0 where
  pub added : List Tree
  pub reads : Reads source now (seen ++ added)
  pub window : window_of now ≡ window_of then ++ added

-- these trees may follow those that are read
abbrev pub MayFollow : Reading → List Tree → Type 0
MayFollow r more = r.is_whole ≡ true → more ≡ []

-- the source is read to its end, and these trees are its trees
pub record ReadsToEnd (source : List ℕ) (r : Reading) (seen : List Tree) : Type 0 where
  pub trees : Trees
  pub cut : IsCut source trees
  pub shallow : depth trees ≤ most_open
  pub more : List Tree
  pub follow : MayFollow r more
  pub are : listed trees ≡ seen ++ more

-- nothing that follows is read as an inner attribute of the file
abbrev pub IsBehindInner : Reading → Type 0
IsBehindInner r = (more : List Tree) → MayFollow r more → after_inner (window_of r ++ more) ≡ after_inner (window_of r) ++ more

-- up to the trees that are not gone through, this stands of the file, whatever follows
abbrev pub StandSoFar : Reading → List Tree → List Standing → Type 0
StandSoFar r seen standing = (more : List Tree) → MayFollow r more → (is_for_tests (before (seen ++ more) (after_inner (seen ++ more))) ≡ false) × StandUpTo (after_inner (seen ++ more)) (window_of r ++ more) standing

-- this was found of the file, whatever follows
abbrev pub FoundOf : Reading → List Tree → Result (List Standing) Stop → Type 0
FoundOf r seen found = (more : List Tree) → MayFollow r more → Finds (StandInside (seen ++ more)) (StopInside (seen ++ more)) found

-- and that is so for the trees of the source that are read
pub record IsFoundIn (source : List ℕ) (r : Reading) (found : Result (List Standing) Stop) : Type 0 where
  pub seen : List Tree
  pub reads : Reads source r seen
  pub is : FoundOf r seen found

-- what was found of the trees of a source
pub record IsFound (source : List ℕ) (found : Result (List Standing) Stop) : Type 0 where
  pub trees : Trees
  pub cut : IsCut source trees
  pub shallow : depth trees ≤ most_open
  pub is : Finds (StandInside (listed trees)) (StopInside (listed trees)) found
