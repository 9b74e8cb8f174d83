use Rattle.gathering.specs.Files.{no_files, have_none}
use Rattle.gathering.proofs.gathered.Gathered.new.Goals as goal

pub returns : goal.returns
returns c = record {
  named = c.new.ensures;
  items = rw (c.new-2.ensures, c.new-5.ensures) no_files;
  impls = rw c.new-3.ensures have_none;
  aliases = rw c.new-4.ensures have_none;
}
