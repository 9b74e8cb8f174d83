use Rattle.std.proofs.Common.{◌-◌, ◌∙◌, sym}
use Rattle.written_types.specs.Written.{written_view}
use Rattle.warnings.specs.Through.{declarations_of, next}
use Rattle.warnings.specs.declared.through.TheConstants.{DEPTH}
use Rattle.warnings.proofs.ThroughLaws.{behind_next, behind_last, behind_all}
use Rattle.warnings.proofs.through.through.Goals as goal

pub loop-passed-preserved : goal.loop-passed-preserved
loop-passed-preserved c =
    sym (behind_next (next c.args.role (declarations_of c.args.places.now)) (written_view c.loop-passed.of.now) (written_view c.in-Some.inner.now) DEPTH c.loop-passed._passed (sym c.in-Some.ensures) c.loop-passed-test.true)
    ∙ c.loop-passed.invariant

pub returns-in-None : goal.returns-in-None
returns-in-None c =
    sym (behind_last (next c.args.role (declarations_of c.args.places.now)) (written_view c.loop-passed.of.now) (sym c.in-None.ensures) (DEPTH - c.loop-passed._passed))
    ∙ c.loop-passed.invariant

pub returns : goal.returns
returns c =
    sym (behind_all (next c.args.role (declarations_of c.args.places.now)) (written_view c.loop-passed.of.now) DEPTH c.loop-passed._passed c.loop-passed-test.false)
    ∙ c.loop-passed.invariant
