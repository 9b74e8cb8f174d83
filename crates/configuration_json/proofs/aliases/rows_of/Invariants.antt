use Rattle.serde_json.specs.View.{members_view}
use Rattle.configuration_json.proofs.RowLaws.{AreRead}
use Rattle.configuration_json.proofs.aliases.rows_of.Given as goal

-- the members so far are read
abbrev pub invariant-loop-name : goal.invariant-loop-name
invariant-loop-name l = AreRead (members_view l.members.entries) (members_view l.name-iterator) l.names l.types
