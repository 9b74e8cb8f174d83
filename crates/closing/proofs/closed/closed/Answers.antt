use Rattle.std.proofs.Common.{◌<◌, ◌+◌, ◌∙◌, length, map, take, get_or, ap, sym, subst, arith}
use Rattle.std.proofs.lemmas.Bool.{false≢true}
use Rattle.std.proofs.lemmas.List.{take_all, length-set, get_or_default}
use Rattle.schema_trees.specs.Schema.{schema_view}
use Rattle.shapes.specs.Views.{declaration_view}
use Rattle.closing.specs.Links.{inlining_of}
use Rattle.closing.proofs.Made.{AreMade, made_more, made_over, waiting_more, fresh_at, as-many, next_schema}
use Rattle.closing.proofs.closed.closed.Goals as goal
use Rattle.closing.proofs.closed.closed.Goals.{then-marks-number+in_ok-schema, else-marks-number}

pub loop-number-preserved : goal.loop-number-preserved
loop-number-preserved c =
    let ss = map declaration_view c.args.declared.now in
    let is = c.args.reach.now in
    let marks = c.args.marks.now in
    let order = c.args.order.now in
    let i = c.loop-number.number-index in
    let terms = c.loop-number.terms.items in
    let made = c.loop-number.made.items in
    let place = get_or order i 0 in
    let at : i < length order = omega arith in
    let stands = c.orders_stand.ensures (inlining_of ss is) order c.requires.order i at in
    let within : place < length is = subst (λ n. place < n) (as-many ss is) stands.0 in
    elim c.if-marks-number.branch [
      | then-marks-number+in_ok-schema w ↦ record {
        terms = length-set terms place c.replace-term.new.dest ∙ c.loop-number.invariant.terms;
        waiting = waiting_more ss is marks terms order i c.replace-term.new.dest at c.loop-number.invariant.waiting;
        many = ap (λ v. length v.items) w.made-is ∙ length-set made place w.in_ok-schema.schema ∙ c.loop-number.invariant.many;
        made = subst (λ xs. AreMade ss is marks xs (take (i + 1) order)) (sym (ap (λ v. v.items) w.made-is)) (
            made_more ss is marks made order i w.in_ok-schema.schema at (subst (λ n. place < n) (sym c.loop-number.invariant.many) within) (
            next_schema c.same_types_are_equal.ensures c.types_stay_without_arguments.ensures ss is c.requires.instances c.requires.shallow marks c.requires.along terms made w.as_slice.result.now (take i order) place c.replace-term.result (schema_view w.in_ok-schema.schema) c.loop-number.invariant.waiting
            (fresh_at order i c.requires.order.once at) (subst (λ n. place < n) (sym c.loop-number.invariant.terms) within) within w.if-marks-number.true (λ n among m. c.loop-number.invariant.made n (stands.1 n among) m)
            w.as_slice.ensures.value (c.replace-term.ensures.value ∙ c.index_mut.ensures.value ∙ get_or_default terms place c.index_mut.result.now c.replace-term.result (subst (λ n. place < n) (sym c.loop-number.invariant.terms) within)) w.in_ok-schema.ensures
            ) c.loop-number.invariant.made
            );
      }
      | else-marks-number w ↦ record {
        terms = length-set terms place c.replace-term.new.dest ∙ c.loop-number.invariant.terms;
        waiting = waiting_more ss is marks terms order i c.replace-term.new.dest at c.loop-number.invariant.waiting;
        many = ap (λ v. length v.items) w.made-is ∙ c.loop-number.invariant.many;
        made = subst (λ xs. AreMade ss is marks xs (take (i + 1) order)) (sym (ap (λ v. v.items) w.made-is)) (made_over ss is marks made order i at (λ m. false≢true (sym w.if-marks-number.false ∙ m)) c.loop-number.invariant.made);
      }
    ]

pub returns-clause-schemas : goal.returns-clause-schemas
returns-clause-schemas c = λ n l m.
    let ss = map declaration_view c.args.declared.now in
    let order = c.args.order.now in
    let many : n < length (inlining_of ss c.args.reach.now) =
    subst (λ k. n < k) (sym (as-many ss c.args.reach.now)) l in
    let all : AreMade ss c.args.reach.now c.args.marks.now c.loop-number.made.items order = subst (AreMade ss c.args.reach.now c.args.marks.now c.loop-number.made.items) (take_all c.loop-number.number-index order (omega arith)) c.loop-number.invariant.made in
    all n (c.requires.order.all n many) m
