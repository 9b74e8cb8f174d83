use Rattle.std.proofs.Common.{◌∙◌, ◌++◌, List, ℕ, ap₂, codes}
use Rattle.file_derivation.proofs.unplain.unplain_message.Goals as goal

pub returns : goal.returns
returns c = c.from.ensures ∙ c.in_ok-message.ensures.ok ∙ ap₂ (λ (name reason : List ℕ). name ++ (codes " is not plain: " ++ reason)) c.as_str.ensures (c.as_str-2.ensures ∙ c.in_ok-reason.ensures)
