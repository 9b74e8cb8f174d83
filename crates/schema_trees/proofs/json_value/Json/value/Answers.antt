use Rattle.std.proofs.Common.{ap, subst, ◌∙◌}
use Rattle.acceptance.specs.Data.{data_of}
use Rattle.schema_trees.specs.Held.{IsHeld}
use Rattle.schema_trees.proofs.Holds.{seen, is_held}
use Rattle.schema_trees.proofs.json_value.Json.value.Goals as goal

pub returns-clause-value : goal.returns-clause-value
returns-clause-value c = seen _ c.self.invariant ∙ ap data_of c.self.view_is

pub returns-clause-held : goal.returns-clause-held
returns-clause-held c = subst IsHeld c.self.view_is (is_held _ c.self.invariant)
