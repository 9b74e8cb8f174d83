use Rattle.std.proofs.Common.{◌∙◌, ◌++◌, [], Some, ap, sym, unwrap_or}
use Rattle.diag.proofs.Joins.{joined_of-push}
use Rattle.diag.proofs.diagnostics.Diagnostics.join.Goals as goal

pub loop-part-preserved : goal.loop-part-preserved
loop-part-preserved c =
    ap (λ entries. Some entries) c.in_ok-appended.ensures ∙ ap (λ joined. Some (unwrap_or joined [] ++ c.in-Some.part)) c.loop-part.invariant
    ∙ sym (joined_of-push c.loop-part.yielded c.in-Some.part)
