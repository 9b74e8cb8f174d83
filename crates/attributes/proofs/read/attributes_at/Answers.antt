use Rattle.std.proofs.Common.{◌≡◌, ◌∙◌, ◌++◌, ◌∷◌, [], ap, sym, map, arith, Ok}
use Rattle.std.proofs.lemmas.Result.{err_from_is_err_and}
use Rattle.std.proofs.lemmas.List.{map_push, append-nil}
use Rattle.words.specs.Words.{words_view}
use Rattle.attributes.specs.Attributes.{attribute_view, kept_view}
use Rattle.attributes.specs.AttributeReading.{with_before, attributes_at}
use Rattle.attributes.proofs.Whole.{attributes_done, attributes_fail, attributes_turn}
use Rattle.attributes.proofs.read.attributes_at.Goals as goal

pub returns-in_err-attribute-clause-value : goal.returns-in_err-attribute-clause-value
returns-in_err-attribute-clause-value c =
    let p = err_from_is_err_and c.from_residual.result c.from_residual.ensures.1 in
    rw (p.1, p.2)
    (attributes_fail (words_view c.args.trees.now) (map attribute_view c.attributes.attributes) (words_view c.attributes.rest.now) c.attributes.invariant.0 c.in_err-attribute.field-0.0 (sym c.begins_attribute.ensures ∙ c.attributes-test.true) c.in_err-attribute.ensures.value)

pub attributes-preserved-in_ok-push : goal.attributes-preserved-in_ok-push
attributes-preserved-in_ok-push c =
    let pushed : map attribute_view c.push.new.self ≡ map attribute_view c.attributes.attributes ++ attribute_view c.in-Some.attribute ∷ [] = rw c.in_ok-push.ensures.ok (map_push _ c.attributes.attributes c.in-Some.attribute) in
    rw pushed (
      attributes_turn (words_view c.args.trees.now) (map attribute_view c.attributes.attributes) (words_view c.attributes.rest.now) c.attributes.invariant.0 (attribute_view c.in-Some.attribute ∷ []) (words_view c.in_ok-attribute.after.now)
          (sym c.begins_attribute.ensures ∙ c.attributes-test.true) (c.in_ok-attribute.ensures.value ∙ ap (λ o. Ok (kept_view o, words_view c.in_ok-attribute.after.now)) c.in-Some.is),
      omega (arith, c.attributes.invariant.1, c.in_ok-attribute.ensures.shorter),
    )

pub attributes-preserved : goal.attributes-preserved
attributes-preserved c = (
  ap (λ front. with_before front (attributes_at (words_view c.in_ok-attribute.after.now))) (sym (append-nil (map attribute_view c.attributes.attributes)))
      ∙ attributes_turn (words_view c.args.trees.now) (map attribute_view c.attributes.attributes) (words_view c.attributes.rest.now) c.attributes.invariant.0 [] (words_view c.in_ok-attribute.after.now)
      (sym c.begins_attribute.ensures ∙ c.attributes-test.true) (c.in_ok-attribute.ensures.value ∙ ap (λ o. Ok (kept_view o, words_view c.in_ok-attribute.after.now)) c.in_default.is),
  omega (arith, c.attributes.invariant.1, c.in_ok-attribute.ensures.shorter),
)

pub returns-clause-value : goal.returns-clause-value
returns-clause-value c =
    attributes_done (words_view c.args.trees.now) (map attribute_view c.attributes.attributes) (words_view c.attributes.rest.now) c.attributes.invariant.0 (sym c.begins_attribute.ensures ∙ c.attributes-test.false)
