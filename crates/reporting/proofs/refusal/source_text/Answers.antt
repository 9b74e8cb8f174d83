use Rattle.std.proofs.Common.{inl, inr}
use Rattle.reporting.proofs.refusal.source_text.Goals as goal

pub returns-clause-refused : goal.returns-clause-refused
returns-clause-refused c =
    elim c.syntax.ensures [
      | inl memory ↦ inl memory
      | inr refuses ↦ inr (c.requires, (c.broken_span.result, c.broken_span.ensures, refuses))
    ]
