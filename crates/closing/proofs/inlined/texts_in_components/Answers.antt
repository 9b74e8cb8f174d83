use Rattle.std.proofs.Common.{◌<◌, ◌∙◌, ℕ, [], IsTrue, length, map, get_or, ap, sym, subst}
use Rattle.std.proofs.lemmas.Result.{IfOk-weaker}
use Rattle.shapes.specs.Views.{declaration_view}
use Rattle.inlining.specs.Inlining.{IsAmong, targets_of}
use Rattle.inlining.specs.Marks.{mark}
use Rattle.closing.specs.Links.{inlining_of}
use Rattle.closing.proofs.InstanceNumbers.{numbers-stand}
use Rattle.closing.proofs.Made.{as-many, order-within}
use Rattle.closing.proofs.inlined.texts_in_components.Goals as goal

pub needed_until-requires-clause-targets : goal.needed_until-requires-clause-targets
needed_until-requires-clause-targets c = λ d t among.
    let ss = map declaration_view c.args.declared.now in
    let is = c.args.reach.now in
    subst (λ g. t < length g) (sym c.requires.targets) ((numbers-stand ss is).0 d t (subst (λ g. IsAmong t (targets_of g d)) c.requires.targets among))

pub needed_until-requires-clause-order : goal.needed_until-requires-clause-order
needed_until-requires-clause-order c = λ n among.
    let g = inlining_of (map declaration_view c.args.declared.now) c.args.reach.now in
    subst (λ xs. n < length xs) (sym c.requires.targets) (order-within g [] c.args.order.now c.requires.order.behind n among)

pub needed_until-requires-clause-components : goal.needed_until-requires-clause-components
needed_until-requires-clause-components c = λ n among.
    let ss = map declaration_view c.args.declared.now in
    let here : n < length c.args.reach.now = c.requires.within n (subst (IsAmong n) c.as_slice-components.ensures among) in
    subst (λ k. n < k) (sym (ap length c.requires.targets ∙ as-many ss c.args.reach.now)) here

-- the targets of a component are needed behind all turns
pub returns-clause-there : goal.returns-clause-there
returns-clause-there c =
    let ss = map declaration_view c.args.declared.now in
    let is = c.args.reach.now in
    let marks = c.args.shown.now.marks in
    let components = c.args.shown.now.components in
    let g = inlining_of ss is in
    let until = c.in_ok-until.until.items in
    let within = λ (n m : ℕ) (among : IsAmong n components) (target : IsAmong m (targets_of g n)). subst (λ k. m < k) (as-many ss is) ((numbers-stand ss is).0 n m target) in
    let marked = λ (n m : ℕ) (among : IsAmong n components) (target : IsAmong m (targets_of g n)).
    subst (λ ms. IsTrue (mark ms m)) (sym c.as_slice-marks.ensures) (c.requires.along n m (c.requires.shown n among) target) in
    let late = λ (n m : ℕ) (among : IsAmong n components) (target : IsAmong m (targets_of g n)).
    subst (λ u. length c.args.order.now < get_or u m 0) (sym c.as_slice.ensures.value)
    (c.in_ok-until.ensures.last n m (subst (IsAmong n) (sym c.as_slice-components.ensures) among) (subst (λ xs. IsAmong m (targets_of xs n)) (sym c.requires.targets) target)) in
    IfOk-weaker c.inline_texts.result _ _ (λ made there n m among target. there m (within n m among target) (marked n m among target) (late n m among target)) c.inline_texts.ensures.there
