use Rattle.std.proofs.Common.{sym, subst}
use Rattle.std.specs.Io.KnownBytes.{Appends}
use Rattle.std.proofs.KnownBytes.{Appends-kept}
use Rattle.reporting.proofs.Written.{when_err, none_part, whole_part}
use Rattle.reporting.proofs.delivery.deliver.Goals.{then-not-is_empty+in_ok-flush, else-not-is_empty}
use Rattle.reporting.proofs.delivery.deliver.Goals as goal

-- The clauses on what was written of both, at each exit. A search for them takes seconds, and for the others next to nothing.

pub returns-in_err-write_all-clause-out_part : goal.returns-in_err-write_all-clause-out_part
returns-in_err-write_all-clause-out_part g c = when_err _ _ (none_part _ _)

pub returns-in_err-write_all-clause-err_part : goal.returns-in_err-write_all-clause-err_part
returns-in_err-write_all-clause-err_part g c = when_err _ _ c.in_err-write_all.ensures.part

pub returns-in_err-write_all-2-clause-out_part : goal.returns-in_err-write_all-2-clause-out_part
returns-in_err-write_all-2-clause-out_part g c = when_err _ _ c.in_err-write_all-2.ensures.part

pub returns-in_err-write_all-2-clause-err_part : goal.returns-in_err-write_all-2-clause-err_part
returns-in_err-write_all-2-clause-err_part g c = when_err _ _ (whole_part _ _ _ c.in_ok-write_all.ensures.all)

pub returns-in_err-flush-clause-out_part : goal.returns-in_err-flush-clause-out_part
returns-in_err-flush-clause-out_part g c = when_err _ _ (whole_part _ _ _ (Appends-kept _ _ _ _ c.in_ok-write_all-2.ensures.all c.in_err-flush.ensures.bytes))

pub returns-in_err-flush-clause-err_part : goal.returns-in_err-flush-clause-err_part
returns-in_err-flush-clause-err_part g c = when_err _ _ (whole_part _ _ _ c.in_ok-write_all.ensures.all)

pub returns-clause-out_part : goal.returns-clause-out_part
returns-clause-out_part g c =
    when_err _ _ (whole_part _ _ _ (elim c.if-not-is_empty.branch [
      | then-not-is_empty+in_ok-flush w ↦ subst (λ out. Appends (g.O.Sink.written c.args.out.now) (g.O.Sink.written out) c.args.document.now) (sym w.out-is) (Appends-kept _ _ _ _ c.in_ok-write_all-2.ensures.all w.in_ok-flush.ensures.bytes)
      | else-not-is_empty w ↦ subst (λ out. Appends (g.O.Sink.written c.args.out.now) (g.O.Sink.written out) c.args.document.now) (sym w.out-is) c.in_ok-write_all-2.ensures.all
    ]))

pub returns-clause-err_part : goal.returns-clause-err_part
returns-clause-err_part g c = when_err _ _ (whole_part _ _ _ (Appends-kept _ _ _ _ c.in_ok-write_all.ensures.all c.flush-2.ensures.bytes))
