use Rattle.std.proofs.Common.{◌∙◌, ◌++◌, ap, sym, string_bytes, encode_utf8_all}
use Rattle.telling.specs.Printable.{shown_name}
use Rattle.telling.proofs.Printed.{name_ended}
use Rattle.telling.proofs.printing.Printing.push.Goals as goal

pub returns : goal.returns
returns c =
    name_ended _ _ _ _ _ c.args.c
    (sym c.is_of_name.ensures ∙ c.if-is_of_name.false)
    (c.in_ok-push_name.ensures ∙ ap (λ v. string_bytes c.args.self.now.text ++ encode_utf8_all (shown_name v)) c.as_slice.ensures.value)
    c.in_ok-push_shown.ensures c.clear.ensures.items
