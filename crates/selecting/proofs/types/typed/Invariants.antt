use Rattle.std.proofs.Common.{◌++◌, length, map, List}
use Rattle.prepare.specs.declared.file_items.FileAlias.{FileAlias}
use Rattle.selecting.specs.Lists.{AreThose}
use Rattle.selecting.specs.Types.{NamesType}
use Rattle.selecting.proofs.types.typed.Given as goal

abbrev pub invariant-aliases : goal.invariant-aliases
invariant-aliases l = (others : List FileAlias) → AreThose (NamesType l.config) (map (λ a. a.now) l.rest) others → AreThose (NamesType l.config) (map (λ a. a.now) l.aliases) (map (λ a. a.now) l.typed ++ others)

abbrev pub decreases-aliases : goal.decreases-aliases
decreases-aliases l = length l.rest
