use Rattle.std.proofs.Common.{◌∙◌, sym, inl, inr}
use Rattle.derive_decl.proofs.attributed.derivable.Goals as goal

pub returns-in-Some-clause-refused : goal.returns-in-Some-clause-refused
returns-in-Some-clause-refused c =
    elim c.syntax.ensures [ inl memory ↦ inl memory | inr refuses ↦ inr (c.in-Some.other, sym c.first_with.ensures ∙ c.in-Some.is, refuses) ]
