use Rattle.std.proofs.Common.{◌≡◌, length, map}
use Rattle.texts.specs.Names.{is_in}
use Rattle.selecting.specs.Standing.{alias_line}
use Rattle.selecting.proofs.known.is_alias_line.Given as goal

abbrev pub invariant-aliases : goal.invariant-aliases
invariant-aliases l = is_in l.text (map (alias_line l.names) l.rest) ≡ is_in l.text (map (alias_line l.names) l.aliases)

abbrev pub decreases-aliases : goal.decreases-aliases
decreases-aliases l = length l.rest
