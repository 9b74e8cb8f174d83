use Rattle.std.proofs.Common.{◌∙◌, ap, sym, arith}
use Rattle.std.specs.Str.{chars}
use Rattle.lexing.specs.Scanning.{closing_at}
use Rattle.lexing.proofs.CommentLaws.{closing_past, open_near, closing_none, closing_done}
use Rattle.lexing.proofs.comment.after_block.Goals as goal

pub returns-in-None : goal.returns-in-None
returns-in-None c = sym c.marks.invariant.1 ∙ ap (closing_at c.marks.depth) c.in-None.ensures ∙ closing_none c.marks.depth c.marks-test.true

pub marks-preserved : goal.marks-preserved
marks-preserved c =
    let past = closing_past c.in-Some.mark c.marks.depth (chars c.marks.rest.now) (chars c.in-Some.after.now) c.marks-test.true c.in-Some.ensures.0 in
    let counted = c.open_after-depth.ensures in
    let kept = c.marks.invariant in
    let near = open_near c.in-Some.mark c.marks.depth in
    let shorter = c.in-Some.ensures.1 in
    (c.in-Some.ensures.2, ap (λ v. closing_at v (chars c.in-Some.after.now)) counted ∙ past ∙ kept.1, omega (arith, near, shorter, counted, kept.2), omega (arith, near, shorter, counted, kept.3))

pub returns : goal.returns
returns c =
    let kept = c.marks.invariant in
    (sym kept.1 ∙ closing_done c.marks.depth (chars c.marks.rest.now) c.marks-test.false, omega (arith, kept.2, c.marks-test.false), kept.0)
