use Rattle.std.proofs.Common.{codes}
use Rattle.acceptance_checker.proofs.Prefixes.{after-stripped}
use Rattle.acceptance_checker.proofs.references.target_of.Goals as goal

pub returns : goal.returns
returns c = after-stripped (codes "#/components/schemas/") c.args.reference.now c.strip_prefix.result c.strip_prefix.ensures.cases
