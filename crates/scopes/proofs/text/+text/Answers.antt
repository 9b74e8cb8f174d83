use Rattle.std.proofs.Common.{◌++◌, codes, map, ap, ◌∙◌}
use Rattle.std.proofs.lemmas.Result.{on_ok_weaker}
use Rattle.open_types.specs.Open.{opens_view}
use Rattle.scopes.specs.Texts.{name_at, texts_from}
use Rattle.scopes.proofs.TextLaws.{applied_some}
use Rattle.scopes.proofs.text.+text.Goals as goal

pub push_arguments-returns : goal.push_arguments-returns
push_arguments-returns g t c =
    let arguments = texts_from (name_at (map g.T.Named.ident_of c.args.names.now)) 0 (opens_view c.args.arguments.now) in
    on_ok_weaker c.push-2.result
    (λ e. e ∙ ap (λ s. s ++ codes ">") (c.in_ok-push_types.ensures ∙ ap (λ s. s ++ arguments) c.in_ok-push.ensures.ok) ∙ applied_some c.args.text.now c.args.arguments.now arguments c.if-is_empty.ensures)
    c.push-2.ensures.ok
