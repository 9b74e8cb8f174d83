use Rattle.std.proofs.Common.{◌≡◌, length}
use Rattle.texts.specs.Names.{is_in}
use Rattle.selecting.specs.Standing.{alias_names}
use Rattle.selecting.proofs.known.is_alias.Given as goal

abbrev pub invariant-aliases : goal.invariant-aliases
invariant-aliases l = is_in l.name (alias_names l.rest) ≡ is_in l.name (alias_names l.aliases)

abbrev pub decreases-aliases : goal.decreases-aliases
decreases-aliases l = length l.rest
