use Rattle.lexing.proofs.LexLaws.{told_unread}
use Rattle.lexing.proofs.lexer.lex.Goals as goal

pub returns-in-Err-clause-refused : goal.returns-in-Err-clause-refused
returns-in-Err-clause-refused c = told_unread c.args.source.now c.in-Err.e c.refusal.result c.in-Err.ensures.refused c.refusal.ensures
