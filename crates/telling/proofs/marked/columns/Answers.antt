use Rattle.std.proofs.Common.{◌∙◌, sym}
use Rattle.std.proofs.lemmas.Iterator.Consumers.{count_from_yields_List}
use Rattle.telling.proofs.Escapes.{escape_yields, columns_of_command}
use Rattle.telling.proofs.marked.columns.Goals as goal

pub returns-then-is_command-clause-value : goal.returns-then-is_command-clause-value
returns-then-is_command-clause-value c =
    count_from_yields_List _ _ c.count.ensures.ran (escape_yields c.args.c c.escape_unicode.ensures.rest)
    ∙ sym (columns_of_command c.args.c (sym c.is_command.ensures ∙ c.if-is_command.true))
