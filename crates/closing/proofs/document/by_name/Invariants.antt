use Rattle.std.proofs.Common.{◌≡◌, [], drop, map}
use Rattle.closing.specs.Texts.{numbers_from}
use Rattle.closing.proofs.document.by_name.Given as goal

-- with the numbers that are left, those under their names are all
abbrev pub invariant-loop-number : goal.invariant-loop-number
invariant-loop-number l = numbers_from l.names (map (λ e. (e.0.now, e.1)) l.numbers.entries) (drop l.number-index l.components) ≡ numbers_from l.names [] l.components
