use Rattle.std.proofs.Common.{◌≡◌, ◌-◌, [], length, arith, ap, subst, ◌∙◌, refl}
use Rattle.std.proofs.lemmas.List.{append-nil}
use Rattle.std.proofs.lemmas.Str.{chars-nil}
use Rattle.std.specs.Str.{chars}
use Rattle.lexing.specs.Pieces.{Cuts}
use Rattle.lexing.proofs.FrontLaws.{uncut_from_start}
use Rattle.lexing.proofs.RawLaws.{none_known}
use Rattle.lexing.proofs.scan.cut.Goals as goal

pub cut_front-requires-clause-known : goal.cut_front-requires-clause-known
cut_front-requires-clause-known c = none_known (chars c.args.source.now)

pub returns-in-Ok-clause-found : goal.returns-in-Ok-clause-found
returns-in-Ok-clause-found c =
    let none : length c.args.source.now - length c.args.source.now ≡ 0 = omega arith in
    let whole = c.in-Ok.ensures.found.joins [] (ap chars (c.in-Ok.ensures.whole refl) ∙ chars-nil) in
    let all = rw append-nil at whole in
    subst (λ v. Cuts c.in-Ok.front.pieces v (chars c.args.source.now)) none all

pub returns-in-Err-clause-refused : goal.returns-in-Err-clause-refused
returns-in-Err-clause-refused c = uncut_from_start c.args.source.now c.in-Err.e c.in-Err.ensures.refused
