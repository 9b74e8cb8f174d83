use Rattle.renaming.proofs.Serving.{none_nameless}
use Rattle.renaming.proofs.Tables.{rows_of_table}
use Rattle.renaming.proofs.rows.rows_of_names.Goals as goal

pub returns-clause-rows : goal.returns-clause-rows
returns-clause-rows c = rows_of_table c.rules_have_own_names.ensures c.args.names.now c.in_ok-table.table c.in_ok-table.ensures.table c.in_ok-rows_in.field-0 c.in_ok-rows_in.ensures.rows c.in_ok-rows_in.ensures.ordered

pub returns-clause-faultless : goal.returns-clause-faultless
returns-clause-faultless c =
    none_nameless c.args.names.now c.in_ok-rows_in.field-0
    (rows_of_table c.rules_have_own_names.ensures c.args.names.now c.in_ok-table.table c.in_ok-table.ensures.table c.in_ok-rows_in.field-0 c.in_ok-rows_in.ensures.rows c.in_ok-rows_in.ensures.ordered)
