use Rattle.std.proofs.Common.{length, sym}
use Rattle.std.proofs.lemmas.Bool.{eqb-true}
use Rattle.std.proofs.lemmas.List.{nil_from_length}
use Rattle.lexing.proofs.LexLaws.{told_unread}
use Rattle.lexing.proofs.StepLaws.{all_read}
use Rattle.lexing.proofs.chunks.Chunks.next.Goals as goal

pub returns-then-is_empty-clause-goes_on : goal.returns-then-is_empty-clause-goes_on
returns-then-is_empty-clause-goes_on c = λ trees r.
    let rest = c.args.self.now.rest.now in
    all_read c.args.self.now trees r (nil_from_length rest (eqb-true (length rest) 0 (sym c.if-is_empty.ensures)))

pub returns-in-Err-clause-refused : goal.returns-in-Err-clause-refused
returns-in-Err-clause-refused c = told_unread c.args.self.now.source.now c.in-Err.e c.refusal.result c.in-Err.ensures.refused c.refusal.ensures
