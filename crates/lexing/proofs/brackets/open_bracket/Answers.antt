use Rattle.std.proofs.Common.{[]}
use Rattle.std.proofs.lemmas.Result.{IfOk-weaker}
use Rattle.lexing.specs.Open.{open_behind, IsInnermost, IsOpenBracket}
use Rattle.lexing.proofs.OpenLaws.{open_in_source}
use Rattle.lexing.proofs.brackets.open_bracket.Goals as goal

pub returns-in-Ok : goal.returns-in-Ok
returns-in-Ok c =
    let source = c.args.source.now in
    let pieces = c.as_slice.result.now in
    IfOk-weaker c.innermost_open.result (IsInnermost (open_behind [] pieces)) (IsOpenBracket source) (open_in_source source pieces (rw c.as_slice.ensures c.in-Ok.ensures.found)) c.innermost_open.ensures
