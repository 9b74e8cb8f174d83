use Rattle.std.proofs.Common.{inl, inr}
use Rattle.renaming.proofs.ask.push_told_by.Goals as goal

pub returns-in-Untagged-clause-faultless : goal.returns-in-Untagged-clause-faultless
returns-in-Untagged-clause-faultless c = rw c.in-Untagged.is c.push_variants.ensures.faultless

pub returns-in-ExternallyTagged-clause-faultless : goal.returns-in-ExternallyTagged-clause-faultless
returns-in-ExternallyTagged-clause-faultless c = elim c.in-ExternallyTagged.is [
  | inl external ↦ rw external c.push_variants-in-ExternallyTagged.ensures.faultless
  | inr (inl (tag, internal)) ↦ rw internal c.push_variants-in-ExternallyTagged.ensures.faultless
  | inr (inr (tag, content, adjacent)) ↦ rw adjacent c.push_variants-in-ExternallyTagged.ensures.faultless
]
