use Rattle.std.proofs.Common.{◌≡◌, ◌∙◌, ◌<◌, List, ℕ, length, ap, ap₂, codes, Some, arith}
use Rattle.telling.specs.Told.{told_at}
use Rattle.texts.specs.declared.span.Span.{Span}
use Rattle.gathering.specs.Reading.{file_name}
use Rattle.gathering.specs.Telling.{from_zero, whole_span}
use Rattle.file_derivation.specs.Warned.{told_impl}
use Rattle.file_derivation.proofs.Spanned.{span_of}
use Rattle.file_derivation.proofs.warned.told_impl.Goals as goal

pub returns : goal.returns
returns c =
    let x = c.args.one.now in
    let whole : c.new-span.result ≡ whole_span x.text = span_of c.new-span.result 0 (length x.text) (from_zero (length x.text)) c.new-span.ensures.start (c.new-span.ensures.end ∙ ap length c.as_str-text.ensures) in
    let told : c.in_ok-told.told ≡ told_impl c.args.names.now x =
    c.in_ok-told.ensures ∙ ap (λ (path : List ℕ). told_at path x.place c.as_str-text.result.now c.new-span.result (codes "warning") c.as_str.result.now) c.file_name-name.ensures
    ∙ ap₂ (λ (text : List ℕ) (span : Span). told_at (file_name c.args.names.now x.file) x.place text span (codes "warning") c.as_str.result.now) c.as_str-text.ensures whole
    ∙ ap (λ (message : List ℕ). told_at (file_name c.args.names.now x.file) x.place x.text (whole_span x.text) (codes "warning") message) (c.as_str.ensures ∙ c.in_ok-message.ensures) in
    (λ few. ap Some told, λ full. let few : c.args.count < 100 = c.if-count-ge-MOST_TOLD.false in absurd (omega arith))
