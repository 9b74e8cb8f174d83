use Rattle.std.proofs.Common.{◌∙◌, ap}
use Rattle.std.proofs.lemmas.Result.{err_from_is_err_and}
use Rattle.words.specs.Words.{words_view}
use Rattle.attributes.specs.AttributeWords.{path_item}
use Rattle.attributes.proofs.Idents.{path_given, path_fails}
use Rattle.attributes.proofs.path.path_at.Goals as goal

pub returns-in_err-idents-clause-value : goal.returns-in_err-idents-clause-value
returns-in_err-idents-clause-value c =
    let p = err_from_is_err_and c.from_residual.result c.from_residual.ensures.1 in
    rw (p.1, p.2) (path_fails c.in_err-idents.field-0.0 (words_view c.args.trees.now) c.in_err-idents.ensures.value)

pub returns-clause-value : goal.returns-clause-value
returns-clause-value c =
    path_given (words_view c.args.trees.now) c.in_ok-idents.idents (words_view c.in_ok-idents.rest.now) _ c.in_ok-idents.ensures.value (c.in_ok-path_of.ensures ∙ ap path_item c.as_slice.ensures)
