use Rattle.std.proofs.lemmas.Grind.{common_steps}
use Rattle.std.proofs.Common.{◌∙◌, ap, sym, length, arith}
use Rattle.written_types.specs.Written.{path_view}
use Rattle.words.specs.Words.{words_view}
use Rattle.words.proofs.Laws.{length_view}
use Rattle.attributes.specs.Attributes.{meta_view}
use Rattle.attributes.specs.Comments.{said_by}
use Rattle.attributes.proofs.Words.{several_say_nothing}
use Rattle.attributes.proofs.comments.said.Goals as goal

pub returns-in-len2-up : goal.returns-in-len2-up
returns-in-len2-up c =
    several_say_nothing (path_view c.args.attribute.now.path) (words_view c.in-NameValue.trees) (omega (arith, length_view c.in-NameValue.trees, ap length c.as_slice.ensures, c.in-len2-up.len_at_least))
    ∙ ap (λ m. said_by (path_view c.args.attribute.now.path) (meta_view m)) (sym c.in-NameValue.is)

pub returns-in-empty : goal.returns-in-empty
returns-in-empty c = grind (arith, common_steps)

pub returns-in-Literal : goal.returns-in-Literal
returns-in-Literal c = grind (arith, common_steps)

pub returns-in_default : goal.returns-in_default
returns-in_default c = grind (arith, common_steps)
