use Rattle.std.proofs.Common.{◌≡◌, ◌++◌, true, drop}
use Rattle.renaming.specs.Cases.{joined_words}
use Rattle.renaming.proofs.cases.joined_words.Given as goal

abbrev pub invariant-loop-c : goal.invariant-loop-c
invariant-loop-c l = l.joined.items ++ joined_words l.begins (drop l.c-index l.name) ≡ joined_words true l.name
