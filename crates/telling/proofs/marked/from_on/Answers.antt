use Rattle.std.proofs.Common.{◌≡◌, ◌∙◌, ◌-◌, ◌++◌, List, ℕ, length, chars, drop, ap, ap₂, subst, IfOk}
use Rattle.telling.specs.Places.{line_front}
use Rattle.telling.specs.Told.{in_front}
use Rattle.telling.proofs.Begun.{IsCeil, back_chars}
use Rattle.telling.proofs.marked.from_on.Goals as goal

pub returns : goal.returns
returns c =
    let text = c.args.text.now in
    let behind = c.args.place.now.behind in
    let at = c.ceil_char_boundary.result in
    let there = c.ceil_char_boundary.ensures in
    let is : IsCeil text c.args.offset at = record { bound = there.bound; boundary = there.boundary; nearest = there.nearest; beyond = there.beyond } in
    let line : c.as_str-2.result.now ≡ drop at text ++ behind =
    c.as_str-2.ensures ∙ c.in_ok-push.ensures.ok ∙ ap₂ (λ (a b : List ℕ). a ++ b) (c.in_ok-line.ensures ∙ c.range_from.ensures.value) c.as_str.ensures in
    let left : c.saturating_sub.result ≡ 200 - length (in_front c.args.place.now text c.args.offset) = c.saturating_sub.ensures ∙ ap (λ n. 200 - n) c.requires in
    subst (λ cs. IfOk c.line_front.result (λ back. back.items ≡ line_front (200 - length (in_front c.args.place.now text c.args.offset)) cs))
    (back_chars text c.args.offset at c.utf8.text is behind c.as_str-2.result.now line)
    (subst (λ n. IfOk c.line_front.result (λ back. back.items ≡ line_front n (chars c.as_str-2.result.now))) left c.line_front.ensures)
