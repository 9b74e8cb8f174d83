use Rattle.std.proofs.Common.{◌++◌, ◌∷◌, [], List, sym, ap, ◌∙◌, append_assoc, append-nil}
use Rattle.json.specs.Reads.{token_of}
use Rattle.json.specs.Token.{Token}
use Rattle.documents.proofs.PrettyLaws.{never_bad_in}
use Rattle.documents.proofs.object_text.write_text.Goals as goal
use Rattle.documents.proofs.object_text.write_text.Goals.{in-Some+in-Bad, in_default}

pub tokens-preserved : goal.tokens-preserved
tokens-preserved c =
    let old = c.args.out.now.tokens in
    let done = c.tokens.invariant.1.0 in
    let t = token_of c.in-Some.token in
    let left = c.next.new.self in (
      c.in_ok-token.ensures.room.0 ∙ c.tokens.invariant.0,
      (
        done ++ t ∷ [],
        c.in_ok-token.ensures.ok ∙ ap (λ (ts : List Token). ts ++ t ∷ []) c.tokens.invariant.1.1 ∙ append_assoc old done (t ∷ []),
        append_assoc done (t ∷ []) left ∙ ap (λ (ts : List Token). done ++ ts) (sym c.in-Some.ensures.value) ∙ c.tokens.invariant.1.2,
      ),
    )

pub returns-clause-tokens : goal.returns-clause-tokens
returns-clause-tokens c =
    let old = c.args.out.now.tokens in
    let done = c.tokens.invariant.1.0 in
    let text = c.args.text.now in
    elim c.match-next.branch [
      | in-Some+in-Bad w ↦ λ value h.
          let left = w.in-Some.ensures.value ∙ ap (λ t. token_of t ∷ c.next.new.self) w.in-Bad.is in
          absurd (never_bad_in value text done c.next.new.self h (ap (λ (ts : List Token). done ++ ts) (sym left) ∙ c.tokens.invariant.1.2))
      | in_default w ↦ λ value h.
          let all = sym (append-nil done) ∙ ap (λ (ts : List Token). done ++ ts) (sym w.in_default.ensures.value.0) ∙ c.tokens.invariant.1.2 in
          c.tokens.invariant.1.1 ∙ ap (λ (ts : List Token). old ++ ts) all
    ]
