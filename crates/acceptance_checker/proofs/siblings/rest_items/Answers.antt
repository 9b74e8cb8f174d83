use Rattle.std.proofs.Common.{◌≡◌, ◌-◌, length, take, drop, ap, ◌∙◌, arith}
use Rattle.std.proofs.lemmas.Grind.{common_steps}
use Rattle.acceptance.specs.Json.{elements}
use Rattle.acceptance_checker.specs.Layer.{json_of_values}
use Rattle.acceptance_checker.proofs.Views.{drop-elements, drop-elements_past}
use Rattle.acceptance_checker.proofs.siblings.rest_items.Goals as goal

pub returns-then-count-items : goal.returns-then-count-items
returns-then-count-items c =
    let n = c.prefix_count-count.result in
    let items = c.args.items.now in
    let rest : take (length items - n) (drop n items) ≡ drop n items = grind (arith, common_steps) in
    ap (λ xs. elements (json_of_values xs)) rest ∙ drop-elements n items ∙ ap (λ m. drop m (elements (json_of_values items))) c.prefix_count-count.ensures

pub returns-else-count-items : goal.returns-else-count-items
returns-else-count-items c =
    drop-elements_past c.prefix_count-count.result c.args.items.now c.if-count-items.false ∙ ap (λ m. drop m (elements (json_of_values c.args.items.now))) c.prefix_count-count.ensures
