use Rattle.std.proofs.Common.{◌≡◌, ◌∙◌, ◌-◌, ◌++◌, length, replicate, string_bytes, encode_utf8, true, false, ap, sym, append_assoc, arith}
use Rattle.std.specs.Str.{chars, encode_utf8_all}
use Rattle.prepare.specs.Blanks.{covers, blanked}
use Rattle.prepare.proofs.Blanked.{width, kept_first, blank_first}
use Rattle.prepare.proofs.blanks.with_blanks.Goals as goal

pub chars-preserved-in_ok-push_blanks : goal.chars-preserved-in_ok-push_blanks
chars-preserved-in_ok-push_blanks c =
    let spans = c.args.spans.now in
    let end = c.args.end in
    let rest = c.chars.rest.now in
    let after = c.in-Some.after.now in
    let x = c.in-Some.c in
    let step = c.in-Some.ensures in
    let later = encode_utf8_all (blanked spans end (chars after)) in
    let many : length rest - length after ≡ length (encode_utf8 x) = omega (arith, width rest after x c.chars.invariant.0 step.2 step.0) in
    let covered : covers spans (end - length rest) ≡ true = ap (covers spans) (sym c.saturating_sub.ensures) ∙ sym c.covers.ensures ∙ c.if-covers.true in (
      step.2,
      ap (λ v. v ++ later) c.in_ok-push_blanks.ensures
          ∙ append_assoc (string_bytes c.chars.text) (replicate (length rest - length after) 32) later
          ∙ ap (λ v. string_bytes c.chars.text ++ v) (sym (blank_first spans end rest after x (length rest - length after) c.chars.invariant.0 step.0 covered many))
          ∙ c.chars.invariant.1,
    )

pub chars-preserved : goal.chars-preserved
chars-preserved c =
    let spans = c.args.spans.now in
    let end = c.args.end in
    let rest = c.chars.rest.now in
    let after = c.in-Some.after.now in
    let x = c.in-Some.c in
    let step = c.in-Some.ensures in
    let later = encode_utf8_all (blanked spans end (chars after)) in
    let covered : covers spans (end - length rest) ≡ false = ap (covers spans) (sym c.saturating_sub.ensures) ∙ sym c.covers.ensures ∙ c.if-covers.false in (
      step.2,
      ap (λ v. v ++ later) c.in_ok-push.ensures.bytes
          ∙ append_assoc (string_bytes c.chars.text) (encode_utf8 x) later
          ∙ ap (λ v. string_bytes c.chars.text ++ v) (sym (kept_first spans end rest after x c.chars.invariant.0 step.0 covered))
          ∙ c.chars.invariant.1,
    )
