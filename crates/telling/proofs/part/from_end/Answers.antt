use Rattle.std.proofs.Common.{◌≡◌, ◌<◌, ◌-◌, ◌++◌, length, chars, reverse, sym, subst, arith}
use Rattle.telling.specs.Places.{line_front}
use Rattle.telling.proofs.Fronts.{not_feed, other_next}
use Rattle.telling.proofs.part.from_end.Goals as goal

pub characters-preserved : goal.characters-preserved
characters-preserved c =
    let back = c.characters.back.items in
    let most = c.args.most in
    let before = chars c.in-Some.before.now in
    let whole = line_front most (reverse (chars c.args.text.now)) in
    let room : length back < most = omega arith in (
      c.in-Some.ensures.1,
      subst (λ items. items ++ line_front (most - length items) (reverse before) ≡ whole) (sym c.in_ok-push-in-Some.ensures.items)
          (other_next back (chars c.characters.rest.now) whole most c.characters.invariant.1 before c.in-Some.c c.in-Some.ensures.0 (not_feed c.in-Some.c c.if-c-ne10.true) room),
    )
