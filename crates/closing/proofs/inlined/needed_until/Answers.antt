use Rattle.std.proofs.Common.{◌≡◌, ◌<◌, ◌+◌, ◌≤◌, ◌∙◌, ℕ, length, take, get_or, sym, subst, rules, arith}
use Rattle.std.proofs.lemmas.List.{take_all}
use Rattle.inlining.specs.Inlining.{IsAmong, targets_of}
use Rattle.inlining.proofs.Laws.{among_at}
use Rattle.closing.proofs.Kept.{targets-at, still_needed, still_below, needed_more, needed_to_more, no_longer_more, no_longer_on, by_components_more}
use Rattle.closing.proofs.inlined.needed_until.Goals as goal

pub offset_bounds-targets-order : goal.offset_bounds-targets-order
offset_bounds-targets-order c =
    let order = c.args.order.now in
    let i = c.loop-turn.turn in
    let within : get_or order i 0 < length c.args.targets.now = c.requires.order (get_or order i 0) (among_at order i 0 c.loop-turn-test.true) in
    search rules

pub bounds-targets-order : goal.bounds-targets-order
bounds-targets-order c = c.requires.order (get_or c.args.order.now c.loop-turn.turn 0) (among_at c.args.order.now c.loop-turn.turn 0 c.loop-turn-test.true)

pub raise-requires : goal.raise-requires
raise-requires c = λ n among.
    let g = c.args.targets.now in
    let p = get_or c.args.order.now c.loop-turn.turn 0 in
    let within : p < length g = c.requires.order p (among_at c.args.order.now c.loop-turn.turn 0 c.loop-turn-test.true) in
    let is : c.as_slice.result.now ≡ targets_of g p = c.as_slice.ensures ∙ c.index-targets-order.is ∙ sym (targets-at g p c.index-targets-order.result within) in
    subst (λ m. n < m) (sym c.loop-turn.invariant.many) (c.requires.targets p n (subst (IsAmong n) is among))

pub loop-turn-preserved : goal.loop-turn-preserved
loop-turn-preserved c =
    let g = c.args.targets.now in
    let order = c.args.order.now in
    let i = c.loop-turn.turn in
    let p = get_or order i 0 in
    let ts = c.as_slice.result.now in
    let before = c.loop-turn.until.items in
    let after = c.raise.new.until.items in
    let within : p < length g = c.requires.order p (among_at order i 0 c.loop-turn-test.true) in
    let is : ts ≡ targets_of g p = c.as_slice.ensures ∙ c.index-targets-order.is ∙ sym (targets-at g p c.index-targets-order.result within) in
    record {
      many = c.raise.ensures.many ∙ c.loop-turn.invariant.many;
      below = still_below before after ts i c.raise.ensures.targets c.raise.ensures.others c.loop-turn.invariant.below;
      needed = needed_more g order before after ts i is c.raise.ensures.targets c.raise.ensures.others c.loop-turn.invariant.needed;
      no_longer = no_longer_more g order before after ts i is c.raise.ensures.targets c.raise.ensures.others c.loop-turn.invariant.below c.loop-turn.invariant.no_longer;
    }

pub offset_bounds-targets-number : goal.offset_bounds-targets-number
offset_bounds-targets-number c =
    let components = c.args.components.now in
    let i = c.loop-number.number-index in
    let within : get_or components i 0 < length c.args.targets.now = c.requires.components (get_or components i 0) (among_at components i 0 c.loop-number-test.true) in
    search rules

pub bounds-targets-number : goal.bounds-targets-number
bounds-targets-number c = c.requires.components (get_or c.args.components.now c.loop-number.number-index 0) (among_at c.args.components.now c.loop-number.number-index 0 c.loop-number-test.true)

pub raise-requires-in-loop-number : goal.raise-requires-in-loop-number
raise-requires-in-loop-number c = λ n among.
    let g = c.args.targets.now in
    let components = c.args.components.now in
    let i = c.loop-number.number-index in
    let p = get_or components i 0 in
    let within : p < length g = c.requires.components p (among_at components i 0 c.loop-number-test.true) in
    let is : c.as_slice-in-loop-number.result.now ≡ targets_of g p = c.as_slice-in-loop-number.ensures ∙ c.index-targets-number.is ∙ sym (targets-at g p c.index-targets-number.result within) in
    subst (λ m. n < m) (sym c.loop-number.invariant.many) (c.requires.targets p n (subst (IsAmong n) is among))

pub loop-number-preserved : goal.loop-number-preserved
loop-number-preserved c =
    let g = c.args.targets.now in
    let components = c.args.components.now in
    let i = c.loop-number.number-index in
    let p = get_or components i 0 in
    let ts = c.as_slice-in-loop-number.result.now in
    let before = c.loop-number.until.items in
    let after = c.raise-in-loop-number.new.until.items in
    let l : i < length components = c.loop-number-test.true in
    let within : p < length g = c.requires.components p (among_at components i 0 l) in
    let is : ts ≡ targets_of g p = c.as_slice-in-loop-number.ensures ∙ c.index-targets-number.is ∙ sym (targets-at g p c.index-targets-number.result within) in
    let raised = c.raise-in-loop-number.ensures in
    let all = length c.args.order.now in
    record {
      many = raised.many ∙ c.loop-number.invariant.many;
      needed = λ j m h among. still_needed before after ts (all + 1) j m (omega (arith, h)) raised.targets raised.others (c.loop-number.invariant.needed j m h among);
      last = needed_to_more g components before after ts i all l is raised.targets raised.others c.loop-number.invariant.last;
      no_longer = no_longer_on g c.args.order.now before after ts all raised.targets raised.others c.loop-number.invariant.no_longer;
      by_components = by_components_more g components before after ts i all l is raised.targets raised.others c.loop-number.invariant.by_components;
    }

pub loop-number-init : goal.loop-number-init
loop-number-init c =
    let order = c.args.order.now in
    let all : c.loop-turn.turn ≡ length order = omega arith in
    let before = c.loop-turn.invariant in
    record {
      many = before.many;
      needed = λ i m h among. before.needed i m (omega (arith, h, all)) among;
      last = λ n m none target. absurd none;
      no_longer = λ i n h is. before.no_longer i n (omega (arith, h, all)) is;
      by_components = λ n h. let below : get_or c.loop-turn.until.items n 0 ≤ c.loop-turn.turn = before.below n in absurd (omega (arith, h, all, below));
    }

pub returns-clause-by_components : goal.returns-clause-by_components
returns-clause-by_components c = λ n h.
    let all : take c.loop-number.number-index c.args.components.now ≡ c.args.components.now = take_all c.loop-number.number-index c.args.components.now (omega arith) in
    subst (λ cs. (k : ℕ) × IsAmong k cs × IsAmong n (targets_of c.args.targets.now k)) all (c.loop-number.invariant.by_components n h)
