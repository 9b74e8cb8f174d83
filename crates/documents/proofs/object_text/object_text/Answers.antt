use Rattle.std.proofs.Common.{◌≡◌, ◌++◌, ℕ, List, false, sym, ap, ◌∙◌, subst, rules}
use Rattle.json.specs.Lex.{tokens}
use Rattle.json.specs.Print.{print}
use Rattle.serde_json.specs.Data.{object}
use Rattle.documents.specs.Text.{IsJsonOf}
use Rattle.documents.specs.Written.{AreTextsOf}
use Rattle.documents.proofs.TextsOf.{first_of, more_tokens, member_tokens, object_json}
use Rattle.documents.proofs.object_text.object_text.Goals as goal

pub loop-name-preserved : goal.loop-name-preserved
loop-name-preserved c =
    let before = c.loop-name.invariant.0 in
    let x : List ℕ × List ℕ = (c.in-Some.name.now, c.in-Some.text.now) in
    let rest = c.next.new.self in (
      c.in_ok-write_text.ensures.before ∙ c.in_ok-key.ensures.room.0 ∙ before,
      λ values h.
          let w = c.loop-name.invariant.1 values h in
          let f = first_of w.0 x rest (subst (AreTextsOf w.0) c.in-Some.ensures.steps w.1) in
          let json = subst (IsJsonOf false f.value) (sym c.as_str-in-loop-name.ensures) f.json in
          let more = more_tokens c.loop-name.out.tokens c.key.new.self.tokens c.write_text.new.out.tokens c.as_str.result.now c.as_str-in-loop-name.result.now x rest c.loop-name.name-iterator c.in_ok-key.ensures.ok (c.in_ok-write_text.ensures.tokens f.value json) c.as_str.ensures c.as_str-in-loop-name.ensures c.in-Some.ensures.steps in
          (f.behind, f.texts, more ∙ w.2),
    )

pub returns : goal.returns
returns c = λ values h.
    let w = c.loop-name.invariant.1 values h in
    let bytes = c.into_inner.result.items in
    let written = c.end_object.new.self.tokens in
    let before = c.in_ok-end_object.ensures.room.0 ∙ c.loop-name.invariant.0 in
    let is : bytes ≡ print written = c.into_inner.ensures.items ∙ ap (λ (b : List ℕ). b ++ print written) before in
    let same : tokens bytes ≡ written = ap tokens is ∙ c.into_inner.ensures.reads_back in
    let all = c.in_ok-end_object.ensures.ok ∙ ap (λ xs. c.loop-name.out.tokens ++ member_tokens xs) (sym c.in-None.ensures.steps.0) ∙ w.2 in
    subst (IsJsonOf false (object values)) (search rules)
    (object_json values c.args.members.now.entries bytes h c.iter-name-items.ensures.ordered (same ∙ all) (is ∙ ap print (sym same)))
