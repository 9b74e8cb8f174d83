use Rattle.std.proofs.Common.{◌∙◌, ◌≤◌, sym, ap, subst, length}
use Rattle.std.proofs.lemmas.Result.{err_from_is_err_and}
use Rattle.reporting.specs.Bytes.{most_bytes}
use Rattle.schema_gen.specs.Sampled.{sample_line}
use Rattle.schema_gen.proofs.Sampling.{unrefused, line_of}
use Rattle.schema_gen.proofs.derivation.sample_line.Goals as goal

pub counted_document-requires : goal.counted_document-requires
counted_document-requires c =
    let bytes_are = c.as_bytes.ensures.value ∙ c.as_str.ensures ∙ c.in_ok-source.ensures in
    subst (λ b. length b ≤ most_bytes) (sym bytes_are) (c.samples_are_sound.ensures c.args.size.many c.args.size.some c.args.size.few).short

pub returns-in_err-document-clause-memory : goal.returns-in_err-document-clause-memory
returns-in_err-document-clause-memory c =
    let bytes_are = c.as_bytes.ensures.value ∙ c.as_str.ensures ∙ c.in_ok-source.ensures in
    let sound = c.samples_are_sound.ensures c.args.size.many c.args.size.some c.args.size.few in
    let p = err_from_is_err_and c.from_residual-in_err-document.result c.from_residual-in_err-document.ensures.1 in
    rw (p.1, p.2) (unrefused c.args.size.many _ _ c.new-config.ensures bytes_are c.sound_is_not_refused.ensures sound _ c.in_err-document.ensures.refused)

pub returns-clause-made : goal.returns-clause-made
returns-clause-made c =
    let bytes_are = c.as_bytes.ensures.value ∙ c.as_str.ensures ∙ c.in_ok-source.ensures in
    let counted = ap (λ t. sample_line c.args.size.many c.in_ok-document.components (length t)) c.as_str-2.ensures in
    line_of c.args.size.many _ _ c.new-config.ensures bytes_are c.in_ok-document.document _ c.in_ok-document.components c.in_ok-document.ensures.made (c.from.ensures ∙ c.in_ok-line.ensures.ok ∙ counted)
