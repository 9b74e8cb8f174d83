use Rattle.std.proofs.Common.{◌≡◌, ◌∙◌, ℕ, List, drop, Some, ap, ap₂, sym, subst}
use Rattle.std.proofs.lemmas.List.{drop_min}
use Rattle.std.proofs.lemmas.Result.{IfOk-weaker}
use Rattle.gathering.specs.Stops.{unclosed_help, IsSyntaxHelp, of_item}
use Rattle.gathering.proofs.Stopping.{piece_for}
use Rattle.gathering.proofs.stop_help.item_help.Goals as goal

pub returns-in-Ok : goal.returns-in-Ok
returns-in-Ok c = λ none name. subst (λ (t : List ℕ). IsSyntaxHelp name c.args.text.now (Some t)) (sym c.in_ok-new-in-Ok.ensures) (of_item none c.in-Ok.ensures.found)

pub returns-in-Err-Refused : goal.returns-in-Err-Refused
returns-in-Err-Refused c = λ none name.
    let text = c.args.text.now in
    let start = c.span.result.start in
    let rest : c.split_at.result.1.now ≡ drop start text =
    c.split_at.ensures.back ∙ ap₂ (λ (n : ℕ) (bs : List ℕ). drop n bs) c.min-at.ensures c.as_bytes.ensures.value ∙ drop_min start text in
    let cause = piece_for name text c.in-Err-Refused.field-0 _ c.span.result c.in-Err-Refused.field-0-is c.in-Err-Refused.ensures.refused none c.span.ensures in
    IfOk-weaker c.unclosed_help.result (λ help. help ≡ unclosed_help c.split_at.result.1.now) (IsSyntaxHelp name text)
    (λ help is. subst (IsSyntaxHelp name text) (sym (is ∙ ap unclosed_help rest)) cause) c.unclosed_help.ensures
