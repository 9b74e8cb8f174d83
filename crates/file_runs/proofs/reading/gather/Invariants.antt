use Rattle.std.proofs.Common.{◌≡◌, ℕ, List, take, true, codes, Option}
use Rattle.texts.specs.Names.{is_in}
use Rattle.gathering.specs.Files.{FileOf, Gathers}
use Rattle.file_runs.specs.Contents.{AreContents, IsTextAt}
use Rattle.file_runs.specs.Given.{AreFilesAt}
use Rattle.file_runs.proofs.reading.gather.Given as goal

-- the files so far are gathered, and nothing has changed
abbrev pub invariant-loop-path : goal.invariant-loop-path
invariant-loop-path g l = record {
  gathered :
      (had has : Option (List ℕ)) → (is_in (codes "-") l.paths ≡ true → AreContents had has l.contents) → (of : List FileOf)
      × AreFilesAt (IsTextAt (g.F.Files.tells l.fn.files) (g.F.Files.held l.fn.files) had has) (take l.path-index l.paths) of × Gathers of l.gathered;
  tells : g.F.Files.tells l.files ≡ g.F.Files.tells l.fn.files;
  held : (other : List ℕ) → g.F.Files.held l.files other ≡ g.F.Files.held l.fn.files other;
  faults : g.F.Files.faults l.files ≡ g.F.Files.faults l.fn.files;
}
