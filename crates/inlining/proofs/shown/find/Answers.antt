use Rattle.std.proofs.Common.{◌≡◌, ◌<◌, ◌∙◌, ℕ, List, length, get_or, ap, sym, subst, arith, rules}
use Rattle.inlining.specs.Found.{IsGrown}
use Rattle.inlining.specs.Inlining.{targets_of}
use Rattle.inlining.proofs.Among.{links_read, linked_below}
use Rattle.inlining.proofs.Found.{found_most, read_below}
use Rattle.inlining.proofs.Walks.{walked_first, walked_on, marked_shown, all_components}
use Rattle.inlining.proofs.shown.find.Goals as goal

pub add_all-requires-clause-within : goal.add_all-requires-clause-within
add_all-requires-clause-within c = λ n i. omega (arith, c.requires.first n i, c.requires.found.many)

pub add_all-requires-2-clause-within : goal.add_all-requires-2-clause-within
add_all-requires-2-clause-within c = λ n i. omega (arith, c.requires.first n i, c.requires.components.many)

pub loop-place-init : goal.loop-place-init
loop-place-init c = record {
  many = c.in_ok-add_all.ensures.many ∙ c.requires.found.many;
  found = c.in_ok-add_all.ensures.found;
  many_parts = c.in_ok-add_all-2.ensures.many ∙ c.requires.components.many;
  parts = c.in_ok-add_all-2.ensures.found;
  walked = walked_first c.args.first.now c.args.targets.now c.args.references.now c.add_all.new.self.numbers c.add_all-2.new.self.numbers
      (subst (λ (ns : List ℕ). IsGrown ns c.args.first.now c.add_all.new.self.numbers) c.requires.found.none c.in_ok-add_all.ensures.grown)
      (subst (λ (ns : List ℕ). IsGrown ns c.args.first.now c.add_all-2.new.self.numbers) c.requires.components.none c.in_ok-add_all-2.ensures.grown);
}

pub bounds-references-number : goal.bounds-references-number
bounds-references-number c =
    subst (λ k. get_or c.as_slice.result.now c.loop-place.place 0 < k) (sym c.requires.many)
    (read_below c.loop-place.found.marks.items c.loop-place.found.numbers c.as_slice.result.now c.loop-place.place (length c.args.targets.now) c.loop-place.invariant.found c.loop-place.invariant.many c.as_slice.ensures (omega arith))

pub offset_bounds-references-number : goal.offset_bounds-references-number
offset_bounds-references-number c = let within : get_or c.as_slice.result.now c.loop-place.place 0 < length c.args.references.now = bounds-references-number c in search rules

pub bounds-targets-number : goal.bounds-targets-number
bounds-targets-number c = read_below c.loop-place.found.marks.items c.loop-place.found.numbers c.as_slice.result.now c.loop-place.place (length c.args.targets.now) c.loop-place.invariant.found c.loop-place.invariant.many c.as_slice.ensures (omega arith)

pub offset_bounds-targets-number : goal.offset_bounds-targets-number
offset_bounds-targets-number c = let within : get_or c.as_slice.result.now c.loop-place.place 0 < length c.args.targets.now = bounds-targets-number c in search rules

pub add_all-requires-in-loop-place-clause-within : goal.add_all-requires-in-loop-place-clause-within
add_all-requires-in-loop-place-clause-within c = λ n i.
    let number = get_or c.as_slice.result.now c.loop-place.place 0 in
    let many = length c.args.targets.now in
    let within = read_below c.loop-place.found.marks.items c.loop-place.found.numbers c.as_slice.result.now c.loop-place.place many c.loop-place.invariant.found c.loop-place.invariant.many c.as_slice.ensures (omega arith) in
    let below = linked_below c.args.targets.now number many n c.index-targets-number.result c.as_slice-in-loop-place.result.now within (c.as_slice-in-loop-place.ensures ∙ c.index-targets-number.is) c.requires.targets i in
    omega (arith, below, c.loop-place.invariant.many)

pub add_all-requires-in-loop-place-2-clause-within : goal.add_all-requires-in-loop-place-2-clause-within
add_all-requires-in-loop-place-2-clause-within c = λ n i.
    let number = get_or c.as_slice.result.now c.loop-place.place 0 in
    let within = read_below c.loop-place.found.marks.items c.loop-place.found.numbers c.as_slice.result.now c.loop-place.place (length c.args.references.now) c.loop-place.invariant.found (c.loop-place.invariant.many ∙ sym c.requires.many) c.as_slice.ensures (omega arith) in
    let below = linked_below c.args.references.now number (length c.args.targets.now) n c.index-references-number.result c.as_slice-referred.result.now within (c.as_slice-referred.ensures ∙ c.index-references-number.is) c.requires.references i in
    omega (arith, below, c.loop-place.invariant.many, c.in_ok-add_all-3.ensures.many)

pub add_all-requires-in-loop-place-3-clause-within : goal.add_all-requires-in-loop-place-3-clause-within
add_all-requires-in-loop-place-3-clause-within c = λ n i.
    let number = get_or c.as_slice.result.now c.loop-place.place 0 in
    let within = read_below c.loop-place.found.marks.items c.loop-place.found.numbers c.as_slice.result.now c.loop-place.place (length c.args.references.now) c.loop-place.invariant.found (c.loop-place.invariant.many ∙ sym c.requires.many) c.as_slice.ensures (omega arith) in
    let below = linked_below c.args.references.now number (length c.args.targets.now) n c.index-references-number.result c.as_slice-referred.result.now within (c.as_slice-referred.ensures ∙ c.index-references-number.is) c.requires.references i in
    omega (arith, below, c.loop-place.invariant.many_parts)

pub loop-place-smaller : goal.loop-place-smaller
loop-place-smaller c = omega (arith, found_most c.loop-place.found.marks.items c.loop-place.found.numbers c.loop-place.invariant.found, c.loop-place.invariant.many)

pub loop-place-preserved : goal.loop-place-preserved
loop-place-preserved c =
    let place = c.loop-place.place in
    let found = c.loop-place.found.numbers in
    let number = get_or c.as_slice.result.now place 0 in
    let same : number ≡ get_or found place 0 = ap (λ (ns : List ℕ). get_or ns place 0) c.as_slice.ensures in
    let within = read_below c.loop-place.found.marks.items found c.as_slice.result.now place (length c.args.targets.now) c.loop-place.invariant.found c.loop-place.invariant.many c.as_slice.ensures (omega arith) in
    let inlined : c.as_slice-in-loop-place.result.now ≡ targets_of c.args.targets.now (get_or found place 0) =
    links_read c.args.targets.now number (get_or found place 0) c.index-targets-number.result c.as_slice-in-loop-place.result.now within same (c.as_slice-in-loop-place.ensures ∙ c.index-targets-number.is) in
    let referred : c.as_slice-referred.result.now ≡ targets_of c.args.references.now (get_or found place 0) =
    links_read c.args.references.now number (get_or found place 0) c.index-references-number.result c.as_slice-referred.result.now (subst (λ k. number < k) (sym c.requires.many) within) same (c.as_slice-referred.ensures ∙ c.index-references-number.is) in
    record {
      many = c.in_ok-add_all-4.ensures.many ∙ c.in_ok-add_all-3.ensures.many ∙ c.loop-place.invariant.many;
      found = c.in_ok-add_all-4.ensures.found;
      many_parts = c.in_ok-add_all-5.ensures.many ∙ c.loop-place.invariant.many_parts;
      parts = c.in_ok-add_all-5.ensures.found;
      walked = walked_on c.args.first.now c.args.targets.now c.args.references.now place found c.loop-place.components.numbers c.add_all-in-loop-place.new.self.numbers c.add_all-in-loop-place-2.new.self.numbers c.add_all-in-loop-place-3.new.self.numbers c.loop-place.invariant.walked (omega arith)
          (subst (λ (ns : List ℕ). IsGrown found ns c.add_all-in-loop-place.new.self.numbers) inlined c.in_ok-add_all-3.ensures.grown)
          (subst (λ (ns : List ℕ). IsGrown c.add_all-in-loop-place.new.self.numbers ns c.add_all-in-loop-place-2.new.self.numbers) referred c.in_ok-add_all-4.ensures.grown)
          (subst (λ (ns : List ℕ). IsGrown c.loop-place.components.numbers ns c.add_all-in-loop-place-3.new.self.numbers) referred c.in_ok-add_all-5.ensures.grown);
    }

pub returns-clause-shown : goal.returns-clause-shown
returns-clause-shown c = marked_shown c.args.first.now c.args.targets.now c.args.references.now c.loop-place.place c.loop-place.found.marks.items c.loop-place.found.numbers c.loop-place.components.numbers c.loop-place.invariant.walked c.loop-place.invariant.found (omega arith)

pub returns-clause-components : goal.returns-clause-components
returns-clause-components c = all_components c.args.first.now c.args.targets.now c.args.references.now c.loop-place.place c.loop-place.found.numbers c.loop-place.components.numbers c.loop-place.invariant.walked (omega arith)
