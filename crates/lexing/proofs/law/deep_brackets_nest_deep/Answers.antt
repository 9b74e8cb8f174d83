use Rattle.std.proofs.Common.{[], subst}
use Rattle.std.specs.Str.{chars}
use Rattle.lexing.specs.Nesting.{IsTrees}
use Rattle.lexing.proofs.CutLaws.{same_pieces}
use Rattle.lexing.proofs.NestLaws.{opens_depth}
use Rattle.lexing.proofs.law.deep_brackets_nest_deep.Goals as goal

pub returns : goal.returns
returns c = λ source ts span cut o.
    let same = same_pieces cut.0 o.0 0 (chars source) cut.1 o.1 in
    opens_depth source o.2 (subst (λ v. IsTrees source v ts []) same cut.2) tt
