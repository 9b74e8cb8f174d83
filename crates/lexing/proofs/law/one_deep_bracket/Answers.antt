use Rattle.std.proofs.Common.{subst}
use Rattle.std.specs.Str.{chars}
use Rattle.lexing.specs.Cut.{most_open}
use Rattle.lexing.specs.Nesting.{Opens}
use Rattle.lexing.proofs.CutLaws.{same_pieces}
use Rattle.lexing.proofs.NestLaws.{opens_once}
use Rattle.lexing.proofs.law.one_deep_bracket.Goals as goal

pub returns : goal.returns
returns c = λ source here there o q.
    let same = same_pieces o.0 q.0 0 (chars source) o.1 q.1 in
    opens_once source (subst (λ v. Opens source most_open v here) same o.2) q.2
