use Rattle.std.proofs.Common.{◌≡◌, ◌<◌, ◌≤◌, ◌∙◌, length, map, inl, inr, ap, sym, subst}
use Rattle.std.proofs.lemmas.List.{length-map}
use Rattle.std.proofs.lemmas.Result.{err_from_is_err_and}
use Rattle.shapes.specs.Views.{declaration_view}
use Rattle.inlining.specs.Inlining.{IsAmong, IsAtMost, IsOrder, copies, sum_of}
use Rattle.instances.specs.Lists.{instance_at}
use Rattle.closing.specs.Closed.{most_inlined}
use Rattle.closing.specs.Links.{numbered, targets_at, inlining_of, AreComponentsOf}
use Rattle.compose.proofs.within.shown_within.Goals as goal

pub few_copies-requires-clause-within : goal.few_copies-requires-clause-within
few_copies-requires-clause-within c = λ n among.
    let ss = map declaration_view c.args.resolved.now in
    let is = c.args.reach.now in
    let here : n < length is = c.in_ok-shown.ensures.numbers n (subst (IsAmong n) c.as_slice-components.ensures among) in
    subst (λ m. n < m) (sym (ap length (c.as_slice-targets.ensures ∙ c.requires.targets) ∙ length-map is (λ t. numbered is (targets_at ss t)))) here

pub returns-in_err-order-clause-refused : goal.returns-in_err-order-clause-refused
returns-in_err-order-clause-refused c =
    let p = err_from_is_err_and c.from_residual.result c.from_residual.ensures.1 in
    rw (p.1, p.2) (elim c.in_err-order.ensures.refused [ inl memory ↦ inl memory | inr deep ↦ inr (inl deep) ])

pub returns-in_err-few_copies-clause-refused : goal.returns-in_err-few_copies-clause-refused
returns-in_err-few_copies-clause-refused c =
    let ss = map declaration_view c.args.resolved.now in
    let is = c.args.reach.now in
    let comps = c.in_ok-shown.shown.components in
    let ts = map (instance_at is) comps in
    let copies_max = c.args.config.now.copies in
    let targets : c.as_slice-targets.result.now ≡ inlining_of ss is = c.as_slice-targets.ensures ∙ c.requires.targets in
    let shallow = c.shallow_by_numbers.ensures ss is c.requires.instances (subst (IsAtMost most_inlined) targets c.in_ok-order.ensures.shallow) in
    let shown = subst (λ all. AreComponentsOf ss all ts) c.collects_all.ensures c.in_ok-shown.ensures.components in
    let same = c.copies_by_numbers.ensures ss is c.requires.instances most_inlined comps c.in_ok-shown.ensures.numbers in
    let p = err_from_is_err_and c.from_residual-in_err-few_copies.result c.from_residual-in_err-few_copies.ensures.1 in
    rw (p.1, p.2)
    (elim c.in_err-few_copies.ensures.refused [
      | inl memory ↦ inl memory
      | inr copied ↦ inr (inr (
        shallow,
        (
          ts,
          shown,
          subst (λ n. copies_max < n) same (subst (λ g. copies_max < sum_of (copies g most_inlined) comps) targets (subst (λ ns. copies_max < sum_of (copies c.as_slice-targets.result.now most_inlined) ns) c.as_slice-components.ensures copied.0)),
          copied.1,
        ),
      ))
    ])

pub returns-clause-shallow : goal.returns-clause-shallow
returns-clause-shallow c =
    let ss = map declaration_view c.args.resolved.now in
    c.shallow_by_numbers.ensures ss c.args.reach.now c.requires.instances (subst (IsAtMost most_inlined) (c.as_slice-targets.ensures ∙ c.requires.targets) c.in_ok-order.ensures.shallow)

pub returns-clause-shown : goal.returns-clause-shown
returns-clause-shown c =
    let ss = map declaration_view c.args.resolved.now in
    let ts = map (instance_at c.args.reach.now) c.in_ok-shown.shown.components in
    record {
      order = subst (λ g. IsOrder g c.in_ok-order.order) (c.as_slice-targets.ensures ∙ c.requires.targets) c.in_ok-order.ensures.order;
      marked = c.in_ok-shown.ensures.many;
      along = c.in_ok-shown.ensures.along;
      shown = c.in_ok-shown.ensures.shown;
      inside = c.in_ok-shown.ensures.numbers;
      once = c.in_ok-shown.ensures.once;
      components = subst (λ all. AreComponentsOf ss all ts) c.collects_all.ensures c.in_ok-shown.ensures.components;
    }

pub returns-clause-copied : goal.returns-clause-copied
returns-clause-copied c =
    let ss = map declaration_view c.args.resolved.now in
    let is = c.args.reach.now in
    let comps = c.in_ok-shown.shown.components in
    let copies_max = c.args.config.now.copies in
    let targets : c.as_slice-targets.result.now ≡ inlining_of ss is = c.as_slice-targets.ensures ∙ c.requires.targets in
    let same = c.copies_by_numbers.ensures ss is c.requires.instances most_inlined comps c.in_ok-shown.ensures.numbers in
    subst (λ n. n ≤ copies_max) same (subst (λ g. sum_of (copies g most_inlined) comps ≤ copies_max) targets (subst (λ ns. sum_of (copies c.as_slice-targets.result.now most_inlined) ns ≤ copies_max) c.as_slice-components.ensures c.in_ok-few_copies.ensures.few))
