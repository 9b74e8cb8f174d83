use Rattle.std.proofs.Common.{◌∙◌, ◌++◌, ℕ, List, length, arith, ap₂, sym, append-nil, string_bytes, encode_utf8, encode_utf8_all}
use Rattle.std.proofs.lemmas.Bool.{lt-leb}
use Rattle.std.proofs.lemmas.List.{length-take}
use Rattle.telling.proofs.Printed.{ends_shown}
use Rattle.telling.proofs.printing.push_name.Goals as goal

pub slice_bounds-push_all-end : goal.slice_bounds-push_all-end
slice_bounds-push_all-end c = omega (arith, c.if-name.false, length-take 100 c.args.name.now)

pub returns : goal.returns
returns c =
    let name = c.args.name.now in
    c.in_ok-push_all-2.ensures
    ∙ ap₂ (λ (front back : List ℕ). front ++ encode_utf8_all back)
    (c.in_ok-push.ensures.bytes ∙ ap₂ (λ (front back : List ℕ). front ++ back) c.in_ok-push_all.ensures (sym (append-nil (encode_utf8 0x2026))))
    c.split_at.ensures.back
    ∙ ends_shown (string_bytes c.args.text.now) name (lt-leb (length name) 200 c.if-name.false)
