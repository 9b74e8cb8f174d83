use Rattle.std.proofs.Common.{◌≡◌, ◌∙◌, ◌++◌, ◌-◌, List, ℕ, take, ap, ap₂, subst, arith, IfOk}
use Rattle.std.specs.Str.{IsUtf8}
use Rattle.telling.specs.Places.{line_back}
use Rattle.telling.proofs.Begun.{IsCeil, front_chars}
use Rattle.telling.proofs.marked.in_front.Goals as goal

pub returns : goal.returns
returns c =
    let text = c.args.text.now in
    let before = c.args.place.now.before in
    let at = c.ceil_char_boundary.result in
    let there = c.ceil_char_boundary.ensures in
    let is : IsCeil text c.args.offset at = record { bound = there.bound; boundary = there.boundary; nearest = there.nearest; beyond = there.beyond } in
    let whole : at - 0 ≡ at = omega arith in
    let line : c.as_str-2.result.now ≡ before ++ take at text =
    c.as_str-2.ensures ∙ c.in_ok-push.ensures.ok ∙ ap₂ (λ (a b : List ℕ). a ++ b) (c.in_ok-line.ensures ∙ c.as_str.ensures) (c.range.ensures.value ∙ ap (λ n. take n text) whole) in
    subst (λ cs. IfOk c.line_back.result (λ front. front.items ≡ line_back 100 cs))
    (front_chars text c.args.offset at c.utf8.text is before c.as_str-2.result.now (subst IsUtf8 c.as_str.ensures c.as_str.utf8) line)
    c.line_back.ensures
