use Rattle.std.proofs.Common.{◌≡◌, ◌∙◌, ◌++◌, [], chars, string_bytes, ap, sym, append-nil, map-id, encode_utf8_all}
use Rattle.std.proofs.lemmas.Iterator.{YieldsList-from_chars}
use Rattle.std.proofs.lemmas.Iterator.Consumers.{YieldsList-end}
use Rattle.telling.specs.Printable.{shown_name, shown_behind}
use Rattle.telling.proofs.printing.printable.Goals as goal

pub returns : goal.returns
returns c =
    let end = YieldsList-end (YieldsList-from_chars c.args.text.now c.utf8.text cc) c.loop-c.yielded _ c.loop-c.yielded_by _ _ c.in-None.is c.next.ensures.steps in
    let yielded : c.loop-c.yielded ++ [] ≡ chars c.args.text.now = append-nil c.loop-c.yielded ∙ sym (map-id c.loop-c.yielded) ∙ end.0 in
    c.from.ensures ∙ c.in_ok-push_name.ensures
    ∙ ap (λ v. string_bytes c.loop-c.printing.text ++ encode_utf8_all (shown_name v)) c.as_slice.ensures.value
    ∙ sym (c.loop-c.invariant [])
    ∙ ap (λ v. encode_utf8_all (shown_behind [] v)) yielded
