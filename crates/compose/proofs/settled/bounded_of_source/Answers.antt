use Rattle.std.proofs.Common.{inl, inr}
use Rattle.std.proofs.lemmas.Result.{err_from_is_err_and}
use Rattle.syntax.specs.Items.{declarations_view}
use Rattle.compose.proofs.settled.bounded_of_source.Goals as goal

pub returns-in_err-declarations-clause-refused : goal.returns-in_err-declarations-clause-refused
returns-in_err-declarations-clause-refused c =
    let p = err_from_is_err_and c.from_residual.result c.from_residual.ensures.1 in
    rw (p.1, p.2)
    (elim c.in_err-declarations.ensures.refused [
      | inl memory ↦ inl memory
      | inr unread ↦ elim unread [ inl deep ↦ inr (inl deep) | inr unreadable ↦ inr (inr (inl unreadable)) ]
    ])

pub bounded_of-requires : goal.bounded_of-requires
bounded_of-requires c = c.read_fields_are_named.ensures c.args.source.now (declarations_view c.in_ok-declarations.declarations) c.in_ok-declarations.ensures.found
