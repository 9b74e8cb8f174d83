use Rattle.std.proofs.Common.{inl, inr, refl, sym, subst}
use Rattle.streams.specs.Told.{IsAll}
use Rattle.reporting.specs.Owed.{Owes}
use Rattle.reporting.proofs.Ended.{given_ending, given_report}
use Rattle.reporting.proofs.reading.end_of_input.Goals as goal

pub returns-in-Err-Failed-clause-owed : goal.returns-in-Err-Failed-clause-owed
unfolding Owes
returns-in-Err-Failed-clause-owed g c = λ begun form is left. (g.met.C.Command.asked _ begun is, refl, refl)

pub returns-in-Err-TooLong-clause-owed : goal.returns-in-Err-TooLong-clause-owed
returns-in-Err-TooLong-clause-owed g c = λ begun form is left.
    let long = c.in-Err-TooLong.ensures.too_long cc in
    let all : IsAll begun.left long.0 = subst (λ l. IsAll l long.0) (sym left) long.1 in
    given_ending g.C.Command.program begun _ (g.met.C.Command.gives c.args.work.now begun long.0 is all) _ _ c.of_error.ensures
    (elim c.too_long.ensures [ inl memory ↦ inl memory | inr refused ↦ inr (g.met.C.Command.refuses_longer c.args.work.now long.0 _ (long.2, refused)) ]) form

pub returns-in-Err-TooLong-clause-of_given : goal.returns-in-Err-TooLong-clause-of_given
returns-in-Err-TooLong-clause-of_given g c = λ begun kind is left so.
    let long = c.in-Err-TooLong.ensures.too_long cc in
    let all : IsAll begun.left long.0 = subst (λ l. IsAll l long.0) (sym left) long.1 in
    given_report g.C.Command.program begun _ (g.met.C.Command.gives c.args.work.now begun long.0 is all) _ _ c.of_error.ensures
    (elim c.too_long.ensures [ inl memory ↦ inl memory | inr refused ↦ inr (g.met.C.Command.refuses_longer c.args.work.now long.0 _ (long.2, refused)) ]) kind so

pub returns-in-Err-Memory-clause-owed : goal.returns-in-Err-Memory-clause-owed
unfolding Owes
returns-in-Err-Memory-clause-owed g c = λ begun form is left. (form, refl, refl)
