use Rattle.std.proofs.Common.{arith, ◌≡◌, ◌∙◌, ◌<◌, ◌-◌, sym, ap, subst, ℕ, suc, List, [], ◌∷◌, Some, None, length, drop, refl}
use Rattle.open_types.specs.Open.{Open, Opens, tuple, items, set, map_of, option, through, open_view, opens_view}
use Rattle.open_types.specs.declared.open_type.OpenType.{OpenType}
use Rattle.type_table.specs.Types.{type_at, parts_of, IsFound}
use Rattle.type_table.proofs.Finds.{found_within, found_is, found_tuple, found_part, chained, chain_is, missing_first, missing_second, missing_param, missing_behind}
use Rattle.type_table.proofs.Fronts.{none_behind}
use Rattle.type_table.proofs.Views.{items_view, set_view, option_view, through_view, map_view, param_view, named_view}
use Rattle.type_table.proofs.find.+find.Goals as goal

pub find_type-returns-in_err-item-in-Items : goal.find_type-returns-in_err-item-in-Items
find_type-returns-in_err-item-in-Items t c =
    let known : List Open = c.args.types.now in
    let whole : open_view c.args.ty.now ≡ items c.in-Items.head (open_view c.deref.result.now) = items_view c.args.ty.now c.deref.result.now c.in-Items.head c.in-Items.item c.in-Items.is c.deref.ensures in
    subst (IsFound known (open_view c.args.ty.now)) (sym c.from_residual.ensures) (missing_first known c.stand_apart.ensures (open_view c.args.ty.now) (open_view c.deref.result.now) [] (ap parts_of whole) c.in_err-item-in-Items.ensures)

pub find_type-returns-in_ok-item-in-Items : goal.find_type-returns-in_ok-item-in-Items
find_type-returns-in_ok-item-in-Items t c =
    let known : List Open = c.args.types.now in
    let whole : open_view c.args.ty.now ≡ items c.in-Items.head (open_view c.deref.result.now) = items_view c.args.ty.now c.deref.result.now c.in-Items.head c.in-Items.item c.in-Items.is c.deref.ensures in
    found_part known (items c.in-Items.head) (open_view c.args.ty.now) (open_view c.deref.result.now) c.in_ok-item-in-Items.item c.find_node-in-Items.result c.in_ok-item-in-Items.ensures whole c.find_node-in-Items.ensures

pub find_type-returns-in_err-item-in-Set : goal.find_type-returns-in_err-item-in-Set
find_type-returns-in_err-item-in-Set t c =
    let known : List Open = c.args.types.now in
    let whole : open_view c.args.ty.now ≡ set c.in-Set.head (open_view c.deref-in-Set.result.now) = set_view c.args.ty.now c.deref-in-Set.result.now c.in-Set.head c.in-Set.item c.in-Set.is c.deref-in-Set.ensures in
    subst (IsFound known (open_view c.args.ty.now)) (sym c.from_residual-in_err-item-in-Set.ensures) (missing_first known c.stand_apart.ensures (open_view c.args.ty.now) (open_view c.deref-in-Set.result.now) [] (ap parts_of whole) c.in_err-item-in-Set.ensures)

pub find_type-returns-in_ok-item-in-Set : goal.find_type-returns-in_ok-item-in-Set
find_type-returns-in_ok-item-in-Set t c =
    let known : List Open = c.args.types.now in
    let whole : open_view c.args.ty.now ≡ set c.in-Set.head (open_view c.deref-in-Set.result.now) = set_view c.args.ty.now c.deref-in-Set.result.now c.in-Set.head c.in-Set.item c.in-Set.is c.deref-in-Set.ensures in
    found_part known (set c.in-Set.head) (open_view c.args.ty.now) (open_view c.deref-in-Set.result.now) c.in_ok-item-in-Set.item c.find_node-in-Set.result c.in_ok-item-in-Set.ensures whole c.find_node-in-Set.ensures

pub find_type-returns-in_err-of-in-Option : goal.find_type-returns-in_err-of-in-Option
find_type-returns-in_err-of-in-Option t c =
    let known : List Open = c.args.types.now in
    let whole : open_view c.args.ty.now ≡ option (open_view c.deref-in-Option.result.now) = option_view c.args.ty.now c.deref-in-Option.result.now c.in-Option.of c.in-Option.is c.deref-in-Option.ensures in
    subst (IsFound known (open_view c.args.ty.now)) (sym c.from_residual-in_err-of-in-Option.ensures) (missing_first known c.stand_apart.ensures (open_view c.args.ty.now) (open_view c.deref-in-Option.result.now) [] (ap parts_of whole) c.in_err-of-in-Option.ensures)

pub find_type-returns-in_ok-of-in-Option : goal.find_type-returns-in_ok-of-in-Option
find_type-returns-in_ok-of-in-Option t c =
    let known : List Open = c.args.types.now in
    let whole : open_view c.args.ty.now ≡ option (open_view c.deref-in-Option.result.now) = option_view c.args.ty.now c.deref-in-Option.result.now c.in-Option.of c.in-Option.is c.deref-in-Option.ensures in
    found_part known option (open_view c.args.ty.now) (open_view c.deref-in-Option.result.now) c.in_ok-of-in-Option.of c.find_node-in-Option.result c.in_ok-of-in-Option.ensures whole c.find_node-in-Option.ensures

pub find_type-returns-in_err-of-in-Through : goal.find_type-returns-in_err-of-in-Through
find_type-returns-in_err-of-in-Through t c =
    let known : List Open = c.args.types.now in
    let whole : open_view c.args.ty.now ≡ through c.in-Through.head (open_view c.deref-in-Through.result.now) = through_view c.args.ty.now c.deref-in-Through.result.now c.in-Through.head c.in-Through.of c.in-Through.is c.deref-in-Through.ensures in
    subst (IsFound known (open_view c.args.ty.now)) (sym c.from_residual-in_err-of-in-Through.ensures) (missing_first known c.stand_apart.ensures (open_view c.args.ty.now) (open_view c.deref-in-Through.result.now) [] (ap parts_of whole) c.in_err-of-in-Through.ensures)

pub find_type-returns-in_ok-of-in-Through : goal.find_type-returns-in_ok-of-in-Through
find_type-returns-in_ok-of-in-Through t c =
    let known : List Open = c.args.types.now in
    let whole : open_view c.args.ty.now ≡ through c.in-Through.head (open_view c.deref-in-Through.result.now) = through_view c.args.ty.now c.deref-in-Through.result.now c.in-Through.head c.in-Through.of c.in-Through.is c.deref-in-Through.ensures in
    found_part known (through c.in-Through.head) (open_view c.args.ty.now) (open_view c.deref-in-Through.result.now) c.in_ok-of-in-Through.of c.find_node-in-Through.result c.in_ok-of-in-Through.ensures whole c.find_node-in-Through.ensures

pub find_type-returns-in_err-key-in-Map : goal.find_type-returns-in_err-key-in-Map
find_type-returns-in_err-key-in-Map t c =
    let known : List Open = c.args.types.now in
    let whole = map_view c.args.ty.now c.deref-in-Map.result.now c.in-Map.value.value c.in-Map.head c.in-Map.key c.in-Map.value c.in-Map.is c.deref-in-Map.ensures refl in
    subst (IsFound known (open_view c.args.ty.now)) (sym c.from_residual-in_err-key-in-Map.ensures)
    (missing_first known c.stand_apart.ensures (open_view c.args.ty.now) (open_view c.deref-in-Map.result.now) (open_view c.in-Map.value.value ∷ []) (ap parts_of whole) c.in_err-key-in-Map.ensures)

pub find_type-returns-in_err-value-in-Map : goal.find_type-returns-in_err-value-in-Map
find_type-returns-in_err-value-in-Map t c =
    let known : List Open = c.args.types.now in
    let whole = map_view c.args.ty.now c.deref-in-Map.result.now c.deref-in-Map-2.result.now c.in-Map.head c.in-Map.key c.in-Map.value c.in-Map.is c.deref-in-Map.ensures c.deref-in-Map-2.ensures in
    subst (IsFound known (open_view c.args.ty.now)) (sym c.from_residual-in_err-value-in-Map.ensures)
    (missing_second known c.stand_apart.ensures (open_view c.args.ty.now) (open_view c.deref-in-Map.result.now) (open_view c.deref-in-Map-2.result.now) [] (ap parts_of whole) c.in_err-value-in-Map.ensures)

pub find_type-returns-in_ok-value-in-Map : goal.find_type-returns-in_ok-value-in-Map
find_type-returns-in_ok-value-in-Map t c =
    let known : List Open = c.args.types.now in
    let whole = map_view c.args.ty.now c.deref-in-Map.result.now c.deref-in-Map-2.result.now c.in-Map.head c.in-Map.key c.in-Map.value c.in-Map.is c.deref-in-Map.ensures c.deref-in-Map-2.ensures in
    let key : type_at known c.in_ok-key-in-Map.key ≡ open_view c.deref-in-Map.result.now = found_is known (open_view c.deref-in-Map.result.now) c.in_ok-key-in-Map.key c.in_ok-key-in-Map.ensures in
    found_part known (map_of c.in-Map.head (type_at known c.in_ok-key-in-Map.key)) (open_view c.args.ty.now) (open_view c.deref-in-Map-2.result.now) c.in_ok-value-in-Map.value c.find_node-in-Map.result
    c.in_ok-value-in-Map.ensures (whole ∙ ap (λ k. map_of c.in-Map.head k (open_view c.deref-in-Map-2.result.now)) (sym key)) c.find_node-in-Map.ensures

pub find_type-returns-in-Param : goal.find_type-returns-in-Param
find_type-returns-in-Param t c =
    subst (λ u. IsFound c.args.types.now u None) (sym (param_view c.args.ty.now c.in-Param.field-0 c.in-Param.is)) (missing_param c.args.types.now c.stand_apart.ensures c.in-Param.field-0)

pub find_type-returns-in_err-items-in-Named : goal.find_type-returns-in_err-items-in-Named
find_type-returns-in_err-items-in-Named t c =
    let known : List Open = c.args.types.now in
    let arguments : Open = tuple (opens_view c.as_slice-in-Named.result.now) in
    let whole = named_view c.args.ty.now c.as_slice-in-Named.result.now c.in-Named.place c.in-Named.items c.in-Named.is c.as_slice-in-Named.ensures in
    subst (IsFound known (open_view c.args.ty.now)) (sym c.from_residual-in_err-items-in-Named.ensures)
    (missing_first known c.stand_apart.ensures (open_view c.args.ty.now) arguments [] (ap parts_of whole) c.in_err-items-in-Named.ensures)

pub find_types-returns-in_err-list : goal.find_types-returns-in_err-list
find_types-returns-in_err-list t c =
    let known : List Open = c.args.types.now in
    let all : List OpenType = c.args.items.now in
    subst (IsFound known (tuple (opens_view all))) (sym c.from_residual.ensures)
    (missing_behind known c.stand_apart.ensures all (length all) (omega arith) (subst (λ ts. IsFound known (tuple ts) None) (sym (none_behind all)) c.in_err-list.ensures))

pub find_types-returns-in_err-first : goal.find_types-returns-in_err-first
find_types-returns-in_err-first t c =
    let known : List Open = c.args.types.now in
    let all : List OpenType = c.args.items.now in
    let n : ℕ = c.loop-left.left - 1 in
    let some : c.loop-left.left ≡ suc n = omega (arith, c.loop-left-test.true) in
    let at : n < length all = omega (arith, c.loop-left.invariant.left, c.loop-left-test.true) in
    let first : Open = open_view c.index-items-left.result in
    let here = chained all n c.loop-left.left c.index-items-left.result at some c.index-items-left.is in
    subst (IsFound known (tuple (opens_view all))) (sym c.from_residual-in_err-first.ensures)
    (missing_behind known c.stand_apart.ensures all n (omega (arith, at))
    (missing_first known c.stand_apart.ensures (tuple (opens_view (drop n all))) first (tuple (opens_view (drop c.loop-left.left all)) ∷ []) (ap (λ ts. parts_of (tuple ts)) here) c.in_err-first.ensures))

pub find_types-find_node-requires-in-loop-left : goal.find_types-find_node-requires-in-loop-left
find_types-find_node-requires-in-loop-left t c =
    let known : List Open = c.args.types.now in
    let others : Opens = opens_view (drop c.loop-left.left c.args.items.now) in (
      (found_within known (open_view c.index-items-left.result) c.in_ok-first.first c.in_ok-first.ensures, (found_within known (tuple others) c.loop-left.list c.loop-left.invariant.found, tt)),
      found_tuple known others c.loop-left.list c.loop-left.invariant.found,
    )

pub find_types-returns-in_err-list-2 : goal.find_types-returns-in_err-list-2
find_types-returns-in_err-list-2 t c =
    let known : List Open = c.args.types.now in
    let all : List OpenType = c.args.items.now in
    let n : ℕ = c.loop-left.left - 1 in
    let some : c.loop-left.left ≡ suc n = omega (arith, c.loop-left-test.true) in
    let at : n < length all = omega (arith, c.loop-left.invariant.left, c.loop-left-test.true) in
    let chain = chain_is known all n c.loop-left.left c.index-items-left.result c.in_ok-first.first c.loop-left.list at some c.index-items-left.is c.in_ok-first.ensures c.loop-left.invariant.found in
    subst (IsFound known (tuple (opens_view all))) (sym c.from_residual-in_err-list-2.ensures)
    (missing_behind known c.stand_apart.ensures all n (omega (arith, at)) (subst (λ u. IsFound known u None) chain c.in_err-list-2.ensures))

pub find_types-loop-left-preserved : goal.find_types-loop-left-preserved
find_types-loop-left-preserved t c =
    let known : List Open = c.args.types.now in
    let all : List OpenType = c.args.items.now in
    let n : ℕ = c.loop-left.left - 1 in
    let some : c.loop-left.left ≡ suc n = omega (arith, c.loop-left-test.true) in
    let at : n < length all = omega (arith, c.loop-left.invariant.left, c.loop-left-test.true) in
    let chain = chain_is known all n c.loop-left.left c.index-items-left.result c.in_ok-first.first c.loop-left.list at some c.index-items-left.is c.in_ok-first.ensures c.loop-left.invariant.found in
    record { left = omega (arith, at); found = subst (λ u. IsFound known u (Some c.in_ok-list-2.list)) chain c.in_ok-list-2.ensures }
