use Rattle.std.proofs.Common.{◌+◌, ◌*◌}
use Rattle.instances.proofs.Entered.{after}
use Rattle.instances.proofs.enter.+enter.Given as goal

abbrev pub decreases-enter : goal.decreases-enter
decreases-enter l = 2 * l.id + 1

abbrev pub decreases-enter_part : goal.decreases-enter_part
decreases-enter_part l = 2 * after l.part
