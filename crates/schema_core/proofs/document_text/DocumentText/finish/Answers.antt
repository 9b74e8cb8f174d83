use Rattle.std.proofs.Common.{◌++◌, ◌∙◌, ap, codes}
use Rattle.schema_core.proofs.Held.{document_held}
use Rattle.schema_core.proofs.Written.{document_text}
use Rattle.schema_core.proofs.document_text.DocumentText.finish.Goals as goal

pub returns-clause-text : goal.returns-clause-text
returns-clause-text c = λ by es h order. c.from.ensures ∙ c.in_ok-push_str.ensures.bytes ∙ ap (λ xs. xs ++ codes "}}}\n") h.text_is ∙ document_text by es order

pub returns-clause-held : goal.returns-clause-held
returns-clause-held c = λ by es h. document_held by es h.held
