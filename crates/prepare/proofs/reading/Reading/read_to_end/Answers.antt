use Rattle.std.proofs.Common.{◌⊎◌, subst}
use Rattle.std.proofs.lemmas.Result.{err_from_is_err_and}
use Rattle.diag.specs.Refusal.{IsErrorFor}
use Rattle.lexing.specs.Cut.{IsDepthError, IsSyntaxError}
use Rattle.prepare.proofs.Read.{reads_next}
use Rattle.prepare.proofs.reading.Reading.read_to_end.Goals as goal

pub next-requires : goal.next-requires
next-requires c =
    let read = (c.chunks.invariant.reads c.requires.begun.0 c.requires.begun.1 c.requires.begun.2).2 in
    record { begun = (read.trees, read.goes_on c.chunks-test.true) }

pub returns-in_err-chunk-clause-refused : goal.returns-in_err-chunk-clause-refused
returns-in_err-chunk-clause-refused c = λ source seen h.
    let p = err_from_is_err_and c.from_residual.result c.from_residual.ensures.1 in
    let of = (c.chunks.invariant.reads source seen h).2.of in
    rw (p.1, p.2) (subst (λ s. IsErrorFor (λ e. IsDepthError s e ⊎ IsSyntaxError s e) c.in_err-chunk.field-0.0) of c.in_err-chunk.ensures.refused)

pub returns-clause-ends : goal.returns-clause-ends
returns-clause-ends c = λ source seen h.
    let i = c.chunks.invariant.reads source seen h in
    record { trees = i.2.trees; cut = i.2.ends c.chunks-test.false; shallow = i.2.shallow; more = i.0; follow = i.1; are = i.2.are }

pub chunks-preserved : goal.chunks-preserved
chunks-preserved c = reads_next c.args.self.now c.chunks.self c.next.new.self c.in_ok-chunk.chunk c.chunks.self.window c.is_none-self.result c.chunks.invariant c.chunks-test.true c.in_ok-chunk.ensures.source c.in_ok-chunk.ensures.goes_on c.is_none-self.ensures

pub chunks-preserved-in_ok-chunk : goal.chunks-preserved-in_ok-chunk
chunks-preserved-in_ok-chunk c = reads_next c.args.self.now c.chunks.self c.next.new.self c.in_ok-chunk.chunk c.chunks.self.window c.is_none-self.result c.chunks.invariant c.chunks-test.true c.in_ok-chunk.ensures.source c.in_ok-chunk.ensures.goes_on c.is_none-self.ensures
