use Rattle.std.proofs.Common.{◌≡◌, ◌++◌, ◌∷◌, true, sym, ap, ◌∙◌, append-nil, subst, rules}
use Rattle.json.specs.Lex.{tokens}
use Rattle.json.specs.Layout.{pretty}
use Rattle.json.specs.Reads.{token_of}
use Rattle.documents.specs.Text.{IsTextOf}
use Rattle.documents.proofs.PrettyLaws.{never_bad, made_pretty}
use Rattle.documents.proofs.pretty.pretty_text.Goals as goal
use Rattle.documents.proofs.pretty.pretty_text.Goals.{in-Some+in-Bad, in_default}

pub returns : goal.returns
returns c =
    let text = c.args.text.now in
    let out = c.tokens.out in
    let bytes = c.into_inner.result.items in
    elim c.match-next.branch [
      | in-Some+in-Bad w ↦ λ value h.
          let left = w.in-Some.ensures.value ∙ ap (λ t. token_of t ∷ c.next.new.self) w.in-Bad.is in
          absurd (never_bad value text out c.next.new.self h (ap (λ ts. out ++ ts) (sym left) ∙ c.tokens.invariant))
      | in_default w ↦ λ value h.
          let all : tokens bytes ≡ tokens text = c.into_inner.ensures.value ∙ sym (append-nil out) ∙ ap (λ ts. out ++ ts) (sym w.in_default.ensures.value.0) ∙ c.tokens.invariant in
          let laid : bytes ≡ pretty (tokens bytes) = c.into_inner.ensures.layout ∙ ap pretty (sym c.into_inner.ensures.value) in
          subst (IsTextOf true value) (search rules) (made_pretty value text bytes h all laid)
    ]
