use Rattle.std.proofs.Common.{◌⊎◌, ◌<◌, subst, arith}
use Rattle.std.proofs.lemmas.Result.{err_from_is_err_and}
use Rattle.diag.specs.Refusal.{IsErrorFor}
use Rattle.lexing.specs.Chunks.{left_of}
use Rattle.lexing.specs.Cut.{IsDepthError, IsSyntaxError}
use Rattle.prepare.proofs.Read.{none_reads, some_reads, grows_by}
use Rattle.prepare.proofs.reading.Reading.read_on.Goals as goal

pub next-requires : goal.next-requires
next-requires c =
    let read = (c.chunks.invariant.grows c.requires.begun.0 c.requires.begun.1 c.requires.begun.2).reads in
    record { begun = (read.trees, read.goes_on c.chunks.invariant.goes_on) }

pub returns-in_err-chunk-clause-refused : goal.returns-in_err-chunk-clause-refused
returns-in_err-chunk-clause-refused c = λ source seen h.
    let p = err_from_is_err_and c.from_residual.result c.from_residual.ensures.1 in
    let of = (c.chunks.invariant.grows source seen h).reads.of in
    rw (p.1, p.2) (subst (λ s. IsErrorFor (λ e. IsDepthError s e ⊎ IsSyntaxError s e) c.in_err-chunk.field-0.0) of c.in_err-chunk.ensures.refused)

pub returns-in-None-clause-grows : goal.returns-in-None-clause-grows
returns-in-None-clause-grows c = λ source seen h.
    let g = c.chunks.invariant.grows source seen h in record {
      added = g.added;
      reads = none_reads source c.chunks.self c.next.new.self _ g.reads c.chunks.invariant.goes_on c.in_ok-chunk.ensures.source c.in_ok-chunk.field-0 c.chunks.self.window c.in_ok-chunk.ensures.goes_on c.in-None.is;
      window = g.window;
    }

pub returns-then-len-had-clause-grows : goal.returns-then-len-had-clause-grows
returns-then-len-had-clause-grows c = λ source seen h.
    let g = c.chunks.invariant.grows source seen h in
    let read = some_reads source c.chunks.self c.next.new.self _ g.reads c.chunks.invariant.goes_on c.in_ok-chunk.ensures.source c.in_ok-chunk.field-0 c.in-Some.chunk c.append.new.self c.chunks.self.is_whole c.in_ok-chunk.ensures.goes_on c.in-Some.is c.chunks.invariant.goes_on in
    grows_by source c.args.self.now c.chunks.self _ seen c.in-Some.chunk g read c.in_ok-append-in-Some.ensures.ok

pub chunks-preserved : goal.chunks-preserved
chunks-preserved c = record {
  grows = λ source seen h.
      let g = c.chunks.invariant.grows source seen h in
      let read = some_reads source c.chunks.self c.next.new.self _ g.reads c.chunks.invariant.goes_on c.in_ok-chunk.ensures.source c.in_ok-chunk.field-0 c.in-Some.chunk c.append.new.self c.chunks.self.is_whole c.in_ok-chunk.ensures.goes_on c.in-Some.is c.chunks.invariant.goes_on in
      grows_by source c.args.self.now c.chunks.self _ seen c.in-Some.chunk g read c.in_ok-append-in-Some.ensures.ok;
  goes_on = c.chunks.invariant.goes_on;
  left = let less : left_of c.next.new.self < left_of c.chunks.self.chunks = rw c.in-Some.is at c.in_ok-chunk.ensures.shorter in omega (arith, less, c.chunks.invariant.left);
}
