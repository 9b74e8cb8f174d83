use Rattle.type_table.proofs.Parts.{stands-by-parts}
use Rattle.type_table.proofs.law.instances_stand_by_parts.Goals as goal

pub returns : goal.returns
returns c = stands-by-parts
