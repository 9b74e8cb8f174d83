use Rattle.std.proofs.Common.{◌-◌, ◌∙◌, map, sym}
use Rattle.open_types.specs.Open.{open_view}
use Rattle.warnings.specs.Flat.{flat_view}
use Rattle.warnings.specs.Flattened.{next_type}
use Rattle.warnings.specs.declared.through.TheConstants.{DEPTH}
use Rattle.warnings.proofs.ThroughLaws.{behind_next, behind_last, behind_all}
use Rattle.warnings.proofs.flattened.whole.Goals as goal

pub loop-passed-preserved : goal.loop-passed-preserved
loop-passed-preserved c =
    sym (behind_next (next_type (map flat_view c.args.flats.now)) (open_view c.loop-passed.of.now) (open_view c.in-Some.inner.now) DEPTH c.loop-passed._passed (sym c.in-Some.ensures) c.loop-passed-test.true)
    ∙ c.loop-passed.invariant

pub returns-in-None : goal.returns-in-None
returns-in-None c =
    sym (behind_last (next_type (map flat_view c.args.flats.now)) (open_view c.loop-passed.of.now) (sym c.in-None.ensures) (DEPTH - c.loop-passed._passed))
    ∙ c.loop-passed.invariant

pub returns : goal.returns
returns c =
    sym (behind_all (next_type (map flat_view c.args.flats.now)) (open_view c.loop-passed.of.now) DEPTH c.loop-passed._passed c.loop-passed-test.false)
    ∙ c.loop-passed.invariant
