use Rattle.std.proofs.Common.{◌≡◌, ◌<◌, ◌+◌, ◌∙◌, ℕ, [], Some, IsTrue, is_some, length, map, take, get_or, ap, sym, subst, rules, arith}
use Rattle.std.proofs.lemmas.Bool.{false≢true}
use Rattle.std.proofs.lemmas.List.{take_all, length-set, get_or-map}
use Rattle.schema_trees.specs.Schema.{leaf}
use Rattle.schema_core.specs.Form.{form_by}
use Rattle.schema_core.specs.Writes.{WritesValue}
use Rattle.component.specs.Leaves.{param, term_view}
use Rattle.shapes.specs.Views.{declaration_view}
use Rattle.inlining.specs.Inlining.{IsAmong, targets_of}
use Rattle.inlining.specs.Marks.{mark}
use Rattle.closing.specs.Links.{inlining_of}
use Rattle.closing.specs.Texts.{AreTargetsTo}
use Rattle.closing.proofs.InstanceNumbers.{numbers-stand}
use Rattle.closing.proofs.Made.{as-many, fresh_at}
use Rattle.closing.proofs.Kept.{AreLetGo, AreMadeTo, targets-at, texts_none, needed_later, made_more, made_over, made_on, put_is}
use Rattle.closing.proofs.inlined.inline_texts.Goals as goal
use Rattle.closing.proofs.inlined.inline_texts.Goals.{then-marks-number+then-until-number-gt0+in_ok-text, else-marks-number, else-marks-number-via-then-marks-number+else-until-number-gt0, else-marks-number-via-else-marks-number}

pub bounds-marks-number : goal.bounds-marks-number
bounds-marks-number c =
    let ss = map declaration_view c.args.declared.now in
    let g = inlining_of ss c.args.reach.now in
    let stands = c.orders_stand.ensures g c.args.order.now c.requires.order c.loop-turn.turn c.loop-turn-test.true in
    subst (λ n. get_or c.args.order.now c.loop-turn.turn 0 < n) (as-many ss c.args.reach.now ∙ sym c.requires.marked) stands.0

pub bounds-targets-number : goal.bounds-targets-number
bounds-targets-number c =
    let ss = map declaration_view c.args.declared.now in
    let g = inlining_of ss c.args.reach.now in
    let stands = c.orders_stand.ensures g c.args.order.now c.requires.order c.loop-turn.turn c.loop-turn-test.true in
    subst (λ xs. get_or c.args.order.now c.loop-turn.turn 0 < length xs) (sym c.requires.targets) stands.0

pub offset_bounds-targets-number : goal.offset_bounds-targets-number
offset_bounds-targets-number c =
    let ss = map declaration_view c.args.declared.now in
    let g = inlining_of ss c.args.reach.now in
    let stands = c.orders_stand.ensures g c.args.order.now c.requires.order c.loop-turn.turn c.loop-turn-test.true in
    let within : get_or c.args.order.now c.loop-turn.turn 0 < length c.args.marks.now = subst (λ n. get_or c.args.order.now c.loop-turn.turn 0 < n) (as-many ss c.args.reach.now ∙ sym c.requires.marked) stands.0 in
    search rules

-- the targets of the instance of a turn are among the targets of all
pub drop_done-requires-clause-until : goal.drop_done-requires-clause-until
drop_done-requires-clause-until c = λ n among.
    let ss = map declaration_view c.args.declared.now in
    let is = c.args.reach.now in
    let g = inlining_of ss is in
    let order = c.args.order.now in
    let p = get_or order c.loop-turn.turn 0 in
    let stands = c.orders_stand.ensures g order c.requires.order c.loop-turn.turn c.loop-turn-test.true in
    let place : p < length c.args.targets.now = subst (λ xs. p < length xs) (sym c.requires.targets) stands.0 in
    let targets : c.as_slice-in-loop-turn.result.now ≡ targets_of g p = c.as_slice-in-loop-turn.ensures ∙ c.index-targets-number.is ∙ sym (targets-at c.args.targets.now p c.index-targets-number.result place) ∙ ap (λ xs. targets_of xs p) c.requires.targets in
    subst (λ k. n < k) (as-many ss is ∙ sym c.requires.until) ((numbers-stand ss is).0 p n (subst (IsAmong n) targets among))

pub drop_done-requires-clause-made : goal.drop_done-requires-clause-made
drop_done-requires-clause-made c = λ n among.
    let ss = map declaration_view c.args.declared.now in
    let is = c.args.reach.now in
    let g = inlining_of ss is in
    let order = c.args.order.now in
    let p = get_or order c.loop-turn.turn 0 in
    let stands = c.orders_stand.ensures g order c.requires.order c.loop-turn.turn c.loop-turn-test.true in
    let place : p < length c.args.targets.now = subst (λ xs. p < length xs) (sym c.requires.targets) stands.0 in
    let targets : c.as_slice-in-loop-turn.result.now ≡ targets_of g p = c.as_slice-in-loop-turn.ensures ∙ c.index-targets-number.is ∙ sym (targets-at c.args.targets.now p c.index-targets-number.result place) ∙ ap (λ xs. targets_of xs p) c.requires.targets in
    let many : length c.if-marks-number.made.items ≡ length is =
    elim c.if-marks-number.branch [
      | then-marks-number+then-until-number-gt0+in_ok-text w ↦ ap (λ v. length v.items) w.made-is ∙ length-set c.loop-turn.made.items p (Some w.in_ok-text.text) ∙ c.loop-turn.invariant.many
      | else-marks-number w ↦ ap (λ v. length v.items) w.made-is ∙ c.loop-turn.invariant.many
    ] in
    subst (λ k. n < k) (as-many ss is ∙ sym many) ((numbers-stand ss is).0 p n (subst (IsAmong n) targets among))

pub loop-turn-init : goal.loop-turn-init
loop-turn-init c =
    record {
      many = omega (arith, c.loop.invariant.many, c.len-end.ensures);
      texts = texts_none (map declaration_view c.args.declared.now) c.args.reach.now c.args.by c.loop.made.items c.loop.invariant.none;
      kept = λ n none marked late. absurd none;
      needed = λ n there. absurd (false≢true (subst (λ o. IsTrue (is_some o)) (c.loop.invariant.none n) there));
    }

pub loop-turn-preserved : goal.loop-turn-preserved
loop-turn-preserved c =
    let ss = map declaration_view c.args.declared.now in
    let is = c.args.reach.now in
    let g = inlining_of ss is in
    let marks = c.args.marks.now in
    let until = c.args.until.now in
    let order = c.args.order.now in
    let i = c.loop-turn.turn in
    let made = c.loop-turn.made.items in
    let p = get_or order i 0 in
    let at : i < length order = c.loop-turn-test.true in
    let stands = c.orders_stand.ensures g order c.requires.order i at in
    let here : p < length is = subst (λ n. p < n) (as-many ss is) stands.0 in
    let within : p < length c.args.terms.now = subst (λ n. p < n) (sym c.requires.as_many) here in
    let all = λ (marked : IsTrue (mark marks p)) (m : ℕ) (among : IsAmong m (targets_of g p)).
    c.loop-turn.invariant.kept m (stands.1 m among) (c.requires.along p m marked among) (c.requires.needed i m at (subst (λ xs. IsAmong m (targets_of xs p)) (sym c.requires.targets) among)) in
    let no_longer : AreTargetsTo g order (length order) until = subst (λ xs. AreTargetsTo xs order (length order) until) c.requires.targets c.requires.no_longer in
    let place : p < length c.args.targets.now = subst (λ xs. p < length xs) (sym c.requires.targets) stands.0 in
    let targets : c.as_slice-in-loop-turn.result.now ≡ targets_of g p = c.as_slice-in-loop-turn.ensures ∙ c.index-targets-number.is ∙ sym (targets-at c.args.targets.now p c.index-targets-number.result place) ∙ ap (λ xs. targets_of xs p) c.requires.targets in
    let middle : AreMadeTo ss is c.args.by marks until c.if-marks-number.made.items (take (i + 1) order) i =
    elim c.if-marks-number.branch [
      | then-marks-number+then-until-number-gt0+in_ok-text w ↦
          made_more ss is c.args.by marks until order i made c.if-marks-number.made.items w.in_ok-text.text at here (needed_later ss is c.args.by marks until order i g at (fresh_at order i c.requires.order.once at) no_longer (λ k h. (c.orders_stand.ensures g order c.requires.order k h).1) w.if-until-number-gt0.true)
          (subst (λ s. WritesValue (form_by c.args.by s) [] w.in_ok-text.text)
          (put_is c.same_types_are_equal.ensures c.types_stay_without_arguments.ensures ss is c.requires.instances c.requires.shallow made w.as_slice.result.now p (term_view w.index-terms-number.result) here w.as_slice.ensures.value
          (ap term_view w.index-terms-number.is ∙ sym (get_or-map term_view c.args.terms.now p w.index-terms-number.result (leaf (param 0)) within) ∙ c.requires.terms p here w.if-marks-number.true) (all w.if-marks-number.true))
          w.in_ok-text.ensures)
          (ap (λ v. v.items) w.made-is) c.loop-turn.invariant
      | else-marks-number w ↦
          made_over ss is c.args.by marks until order i made c.if-marks-number.made.items at
          (elim w.else-marks-number.branch [
            | else-marks-number-via-then-marks-number+else-until-number-gt0 v ↦ (λ marked. v.if-until-number-gt0.false)
            | else-marks-number-via-else-marks-number v ↦ (λ marked. absurd (false≢true (sym v.if-marks-number.false ∙ marked)))
          ]) (ap (λ v. v.items) w.made-is) c.loop-turn.invariant
    ] in
    let gone : AreLetGo c.if-marks-number.made.items c.drop_done.new.made.items until c.as_slice-in-loop-turn.result.now (i + 1) =
    record { many = c.drop_done.ensures.many; done = c.drop_done.ensures.done; others = c.drop_done.ensures.others } in
    made_on ss is c.args.by marks until order i g c.if-marks-number.made.items c.drop_done.new.made.items (take (i + 1) order) c.as_slice-in-loop-turn.result.now at targets no_longer gone middle

pub returns-clause-needed : goal.returns-clause-needed
returns-clause-needed c = λ n there.
    let last : c.loop-turn.turn ≡ length c.args.order.now = omega arith in
    subst (λ k. k < get_or c.args.until.now n 0) last (c.loop-turn.invariant.needed n there)

pub returns-clause-there : goal.returns-clause-there
returns-clause-there c = λ n here marked late.
    let ss = map declaration_view c.args.declared.now in
    let order = c.args.order.now in
    let last : c.loop-turn.turn ≡ length order = omega arith in
    let all : take c.loop-turn.turn order ≡ order = take_all c.loop-turn.turn order (omega arith) in
    c.loop-turn.invariant.kept n (subst (IsAmong n) (sym all) (c.requires.order.all n (subst (λ k. n < k) (sym (as-many ss c.args.reach.now)) here))) marked (omega (arith, late))
