use Rattle.std.proofs.Common.{[], subst}
use Rattle.lexing.specs.Nesting.{IsTrees}
use Rattle.lexing.proofs.CutLaws.{same_pieces}
use Rattle.lexing.proofs.NestLaws.{one_nesting}
use Rattle.std.specs.Str.{chars}
use Rattle.lexing.proofs.law.one_cut.Goals as goal

pub returns : goal.returns
returns c = λ source ts us r s.
    let pieces = same_pieces r.0 s.0 0 (chars source) r.1 s.1 in
    one_nesting source s.0 ts us (subst (λ v. IsTrees source v ts []) pieces r.2) s.2
