use Rattle.std.proofs.Common.{arith, rules, ◌≡◌, ◌∙◌, ◌<◌, ◌-◌, sym, ap, subst, ℕ, suc, List, IfOk, length, drop}
use denote.Param.Weighed.{at_most}
use Rattle.open_types.specs.Open.{Open, Opens, tuple, map_of, more_types, open_view, opens_view, substituted, all_substituted}
use Rattle.type_table.specs.Nodes.{items_of, IsTuple}
use Rattle.type_table.specs.Types.{type_at, types_at}
use Rattle.type_table.proofs.Fronts.{below_front, types_front, type_front, within_front, front_twice, none_behind, one_behind, over_item}
use Rattle.type_table.proofs.substitution.+substitute.Goals as goal

pub substitute_map-returns-clause-value : goal.substitute_map-returns-clause-value
substitute_map-returns-clause-value t c =
    let one : List Open = c.args.types.now in
    let two : List Open = c.substitute_type.new.types in
    let key : type_at two c.args.key ≡ type_at one c.args.key = type_front one two c.args.key c.substitute_type.ensures.front c.requires.key in
    subst (λ q. IfOk c.add.result (λ id. type_at c.add.new.self id ≡ q)) (λ i. map_of c.args.head (key i) (c.in_ok-value.ensures.value i)) c.add.ensures.found

pub substitute_types-loop-left-init : goal.substitute_types-loop-left-init
substitute_types-loop-left-init t c =
    let args : Opens = types_at c.args.types.now c.args.arguments.now in
    record {
      left = omega arith;
      front = c.add.ensures.front;
      numbers = below_front c.args.types.now c.add.new.self c.args.arguments.now c.add.ensures.front c.requires.numbers;
      same = types_front c.args.types.now c.add.new.self c.args.arguments.now c.add.ensures.front c.requires.numbers;
      within = c.in_ok-list.ensures.within;
      value = c.in_ok-list.ensures.found ∙ sym (ap (λ ts. tuple (all_substituted args ts)) (none_behind c.args.items.now));
    }

pub substitute_types-substitute_type-requires : goal.substitute_types-substitute_type-requires
substitute_types-substitute_type-requires t c =
    let at : c.loop-left.left - 1 < length c.args.items.now = omega (arith, c.loop-left.invariant.left, c.loop-left-test.true) in
    (search (rules, at_most), (over_item (length c.args.arguments.now) c.args.items.now (c.loop-left.left - 1) c.index-items-left.result at c.index-items-left.is c.requires.over, c.loop-left.invariant.numbers))

pub substitute_types-add-requires-in-loop-left : goal.substitute_types-add-requires-in-loop-left
substitute_types-add-requires-in-loop-left t c =
    let known : List Open = c.args.types.now in
    let before : List Open = c.loop-left.types in
    let after : List Open = c.substitute_type.new.types in
    let args : Opens = types_at known c.args.arguments.now in
    let list : type_at after c.loop-left.list ≡ tuple (all_substituted args (opens_view (drop c.loop-left.left c.args.items.now))) =
    type_front before after c.loop-left.list c.substitute_type.ensures.front c.loop-left.invariant.within ∙ c.loop-left.invariant.value in
    ((c.in_ok-first.ensures.within, (within_front before after c.loop-left.list c.substitute_type.ensures.front c.loop-left.invariant.within, tt)), subst IsTuple (sym list) tt)

pub substitute_types-loop-left-preserved : goal.substitute_types-loop-left-preserved
substitute_types-loop-left-preserved t c =
    let known : List Open = c.args.types.now in
    let before : List Open = c.loop-left.types in
    let after : List Open = c.substitute_type.new.types in
    let last : List Open = c.add-in-loop-left.new.self in
    let is : List ℕ = c.args.arguments.now in
    let args : Opens = types_at known is in
    let n : ℕ = c.loop-left.left - 1 in
    let some : c.loop-left.left ≡ suc n = omega (arith, c.loop-left-test.true) in
    let at : n < length c.args.items.now = omega (arith, c.loop-left.invariant.left, c.loop-left-test.true) in
    let list : type_at after c.loop-left.list ≡ tuple (all_substituted args (opens_view (drop c.loop-left.left c.args.items.now))) =
    type_front before after c.loop-left.list c.substitute_type.ensures.front c.loop-left.invariant.within ∙ c.loop-left.invariant.value in
    let first : type_at after c.in_ok-first.first ≡ substituted args (open_view c.index-items-left.result) =
    c.in_ok-first.ensures.value ∙ ap (λ ts. substituted ts (open_view c.index-items-left.result)) c.loop-left.invariant.same in
    let here : opens_view (drop n c.args.items.now) ≡ more_types (open_view c.index-items-left.result) (opens_view (drop c.loop-left.left c.args.items.now)) =
    one_behind c.args.items.now n c.index-items-left.result at ∙ (λ i. more_types (open_view (sym c.index-items-left.is i)) (opens_view (drop (sym some i) c.args.items.now))) in
    record {
      left = omega (arith, at);
      front = front_twice known before last c.loop-left.invariant.front (front_twice before after last c.substitute_type.ensures.front c.add-in-loop-left.ensures.front);
      numbers = below_front after last is c.add-in-loop-left.ensures.front c.substitute_type.ensures.numbers;
      same = types_front after last is c.add-in-loop-left.ensures.front c.substitute_type.ensures.numbers ∙ c.substitute_type.ensures.same ∙ c.loop-left.invariant.same;
      within = c.in_ok-list-2.ensures.within;
      value = c.in_ok-list-2.ensures.found ∙ (λ i. tuple (more_types (first i) (items_of (list i)))) ∙ sym (ap (λ ts. tuple (all_substituted args ts)) here);
    }
