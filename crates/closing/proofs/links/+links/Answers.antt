use Rattle.std.proofs.Common.{◌≡◌, ◌++◌, ap, sym, subst, ◌∙◌, OnOk, [], drop, arith}
use Rattle.std.proofs.lemmas.Grind.{common_steps}
use Rattle.std.proofs.lemmas.List.{append-nil}
use Rattle.closing.specs.Links.{inline_of, referred_of}
use Rattle.closing.proofs.LinksFound.{all_picked, property_picked, all_picked-are, property_picked-are, object-picked, array-picked}
use Rattle.closing.proofs.links.+links.Goals as goal

pub push_object-returns-clause-targets : goal.push_object-returns-clause-targets
push_object-returns-clause-targets t c =
    let found = c.args.found.now.targets in
    subst (λ ds. OnOk c.push_values.result (c.push_values.new.found.targets ≡ ds))
    (rw (c.in_ok-push_names.ensures.targets, c.in_ok-push_properties.ensures.targets, c.as_slice.ensures) (object-picked inline_of c.args.reach.now c.args.object.now found))
    c.push_values.ensures.targets

pub push_array-returns-clause-targets : goal.push_array-returns-clause-targets
push_array-returns-clause-targets t c =
    let found = c.args.found.now.targets in
    subst (λ ds. OnOk c.push_items.result (c.push_items.new.found.targets ≡ ds))
    (rw (c.in_ok-push_all.ensures.targets, c.as_slice.ensures) (array-picked inline_of c.args.reach.now c.args.array.now found))
    c.push_items.ensures.targets

pub push_properties-returns-clause-targets : goal.push_properties-returns-clause-targets
push_properties-returns-clause-targets t c =
    let none : drop c.loop-property.property-index c.args.properties.now ≡ [] = grind (arith, common_steps) in
    sym (append-nil c.loop-property.found.targets)
    ∙ ap (λ ps. c.loop-property.found.targets ++ property_picked inline_of c.args.reach.now ps) (sym none)
    ∙ c.loop-property.invariant.targets
    ∙ ap (λ ds. c.args.found.now.targets ++ ds) (property_picked-are inline_of c.args.reach.now c.args.properties.now)

pub push_all-returns-clause-targets : goal.push_all-returns-clause-targets
push_all-returns-clause-targets t c =
    let none : drop c.loop-term.term-index c.args.terms.now ≡ [] = grind (arith, common_steps) in
    sym (append-nil c.loop-term.found.targets)
    ∙ ap (λ ts. c.loop-term.found.targets ++ all_picked inline_of c.args.reach.now ts) (sym none)
    ∙ c.loop-term.invariant.targets
    ∙ ap (λ ds. c.args.found.now.targets ++ ds) (all_picked-are inline_of c.args.reach.now c.args.terms.now)

pub push_object-returns-clause-references : goal.push_object-returns-clause-references
push_object-returns-clause-references t c =
    let found = c.args.found.now.references in
    subst (λ ds. OnOk c.push_values.result (c.push_values.new.found.references ≡ ds))
    (rw (c.in_ok-push_names.ensures.references, c.in_ok-push_properties.ensures.references, c.as_slice.ensures) (object-picked referred_of c.args.reach.now c.args.object.now found))
    c.push_values.ensures.references

pub push_array-returns-clause-references : goal.push_array-returns-clause-references
push_array-returns-clause-references t c =
    let found = c.args.found.now.references in
    subst (λ ds. OnOk c.push_items.result (c.push_items.new.found.references ≡ ds))
    (rw (c.in_ok-push_all.ensures.references, c.as_slice.ensures) (array-picked referred_of c.args.reach.now c.args.array.now found))
    c.push_items.ensures.references

pub push_properties-returns-clause-references : goal.push_properties-returns-clause-references
push_properties-returns-clause-references t c =
    let none : drop c.loop-property.property-index c.args.properties.now ≡ [] = grind (arith, common_steps) in
    sym (append-nil c.loop-property.found.references)
    ∙ ap (λ ps. c.loop-property.found.references ++ property_picked referred_of c.args.reach.now ps) (sym none)
    ∙ c.loop-property.invariant.references
    ∙ ap (λ ds. c.args.found.now.references ++ ds) (property_picked-are referred_of c.args.reach.now c.args.properties.now)

pub push_all-returns-clause-references : goal.push_all-returns-clause-references
push_all-returns-clause-references t c =
    let none : drop c.loop-term.term-index c.args.terms.now ≡ [] = grind (arith, common_steps) in
    sym (append-nil c.loop-term.found.references)
    ∙ ap (λ ts. c.loop-term.found.references ++ all_picked referred_of c.args.reach.now ts) (sym none)
    ∙ c.loop-term.invariant.references
    ∙ ap (λ ds. c.args.found.now.references ++ ds) (all_picked-are referred_of c.args.reach.now c.args.terms.now)
