use Rattle.std.proofs.Common.{◌≡◌, ◌<◌, ◌≤◌, ◌+◌, ◌∙◌, ℕ, List, [], length, map, take, drop, get_or, set, IsTrue, ap, sym, subst, rules, arith}
use Rattle.std.proofs.lemmas.List.{drop_all, length-set, length-map, get_or-map, get_or_default}
use Rattle.open_types.specs.Open.{unit}
use Rattle.schema_trees.specs.Schema.{schema_view}
use Rattle.shapes.specs.InstanceNames.{instance_name}
use Rattle.shapes.specs.Views.{declaration_view}
use Rattle.inlining.specs.Inlining.{IsAmong}
use Rattle.inlining.specs.Marks.{mark}
use Rattle.inlining.proofs.Laws.{among_at}
use Rattle.instances.specs.Names.{instance_names}
use Rattle.closing.specs.Made.{entries_from}
use Rattle.closing.proofs.Made.{AreLeft, schema_at, left_more, fresh_at}
use Rattle.closing.proofs.Entered.{AreKnown, name_at, its_schema, known_none, known_more}
use Rattle.closing.proofs.EntriesAt.{entries_more}
use Rattle.closing.proofs.components.components_of.Goals as goal

pub loop-number-init : goal.loop-number-init
loop-number-init c =
    let ss = map declaration_view c.args.declared.now in
    let is = c.args.reach.now in
    record {
      many = c.in_ok-made.ensures.many;
      left = λ n l m none. c.in_ok-made.ensures.schemas n l (subst (λ ms. IsTrue (mark ms n)) (sym c.as_slice-marks.ensures) m);
      entries = ap (λ es. entries_from ss is es c.args.shown.now.components) c.new-components.ensures;
      known = subst (AreKnown (name_at ss is) (its_schema ss is) (take 0 c.args.shown.now.components)) (sym c.new-components.ensures) (known_none (name_at ss is) (its_schema ss is));
    }

pub index_mut-requires : goal.index_mut-requires
index_mut-requires c =
    let items = c.as_slice-number-items.result.now in
    let i = c.loop-number.number-index in
    let among : IsAmong (get_or items i 0) items = among_at items i 0 c.loop-number-test.true in
    let here : get_or items i 0 < length c.args.reach.now = c.requires.within (get_or items i 0) (subst (IsAmong (get_or items i 0)) c.as_slice-number-items.ensures among) in
    let within : get_or items i 0 < length c.loop-number.made.items = subst (λ n. get_or items i 0 < n) (sym c.loop-number.invariant.many) here in
    search rules

pub bounds-names-number : goal.bounds-names-number
bounds-names-number c =
    let ss = map declaration_view c.args.declared.now in
    let items = c.as_slice-number-items.result.now in
    let i = c.loop-number.number-index in
    let among : IsAmong (get_or items i 0) items = among_at items i 0 c.loop-number-test.true in
    let here : get_or items i 0 < length c.args.reach.now = c.requires.within (get_or items i 0) (subst (IsAmong (get_or items i 0)) c.as_slice-number-items.ensures among) in
    subst (λ n. get_or items i 0 < n) (sym (ap length c.requires.names ∙ length-map c.args.reach.now (instance_name ss))) here

pub offset_bounds-names-number : goal.offset_bounds-names-number
offset_bounds-names-number c =
    let ss = map declaration_view c.args.declared.now in
    let items = c.as_slice-number-items.result.now in
    let i = c.loop-number.number-index in
    let among : IsAmong (get_or items i 0) items = among_at items i 0 c.loop-number-test.true in
    let here : get_or items i 0 < length c.args.reach.now = c.requires.within (get_or items i 0) (subst (IsAmong (get_or items i 0)) c.as_slice-number-items.ensures among) in
    let lt : get_or items i 0 < length c.args.names.now = subst (λ n. get_or items i 0 < n) (sym (ap length c.requires.names ∙ length-map c.args.reach.now (instance_name ss))) here in
    search rules

pub loop-number-preserved : goal.loop-number-preserved
loop-number-preserved c =
    let ss = map declaration_view c.args.declared.now in
    let is = c.args.reach.now in
    let comps = c.args.shown.now.components in
    let items = c.as_slice-number-items.result.now in
    let i = c.loop-number.number-index in
    let made = c.loop-number.made.items in
    let same : items ≡ comps = c.as_slice-number-items.ensures in
    let at : i < length comps = subst (λ xs. i < length xs) same c.loop-number-test.true in
    let place = get_or comps i 0 in
    let where_is : get_or items i 0 ≡ place = ap (λ xs. get_or xs i 0) same in
    let among : IsAmong place comps = among_at comps i 0 at in
    let here : place < length is = c.requires.within place among in
    let there : place < length made = subst (λ n. place < n) (sym c.loop-number.invariant.many) here in
    let marked : IsTrue (mark c.args.shown.now.marks place) = c.requires.shown place among in
    let fresh = fresh_at comps i c.requires.once at in
    let taken : c.replace-schema.result ≡ get_or made place c.replace-schema.result =
    c.replace-schema.ensures.value ∙ c.index_mut.ensures.value ∙ ap (λ n. get_or made n c.index_mut.result.now) where_is ∙ get_or_default made place c.index_mut.result.now c.replace-schema.result there in
    let schema : schema_view c.replace-schema.result ≡ its_schema ss is place =
    ap schema_view taken ∙ sym (schema_at made place c.replace-schema.result there) ∙ c.loop-number.invariant.left place here marked fresh in
    let names : c.args.names.now ≡ instance_names ss is = c.requires.names in
    let named : c.in_ok-name.name ≡ name_at ss is place =
    c.in_ok-name.ensures ∙ c.index-names-number.is ∙ ap (λ n. get_or c.args.names.now n c.index-names-number.result) where_is ∙ ap (λ ns. get_or ns place c.index-names-number.result) names ∙ get_or-map (instance_name ss) is place unit c.index-names-number.result here in
    record {
      many = length-set made (get_or items i 0) c.replace-schema.new.dest ∙ c.loop-number.invariant.many;
      left = subst (λ n. AreLeft ss is c.args.shown.now.marks (set made n c.replace-schema.new.dest) (take (i + 1) comps)) (sym where_is) (left_more ss is c.args.shown.now.marks made comps i c.replace-schema.new.dest at c.loop-number.invariant.left);
      entries = entries_more ss is c.requires.instances c.requires.differ comps i c.in_ok-name.name (schema_view c.replace-schema.result) c.in_ok-insert.field-0 c.loop-number.components c.insert.new.self at c.requires.once c.requires.within named schema c.in_ok-insert.ensures.new c.in_ok-insert.ensures.entries c.loop-number.invariant.known ∙ c.loop-number.invariant.entries;
      known = known_more (name_at ss is) (its_schema ss is) comps i c.in_ok-name.name (schema_view c.replace-schema.result) c.in_ok-insert.field-0 c.loop-number.components c.insert.new.self at named schema c.in_ok-insert.ensures.new c.in_ok-insert.ensures.entries c.loop-number.invariant.known;
    }

pub returns : goal.returns
returns c =
    let ss = map declaration_view c.args.declared.now in
    let is = c.args.reach.now in
    let comps = c.args.shown.now.components in
    let none : drop c.loop-number.number-index comps ≡ [] = drop_all c.loop-number.number-index comps (subst (λ (xs : List ℕ). length xs ≤ c.loop-number.number-index) c.as_slice-number-items.ensures (omega arith)) in
    ap (entries_from ss is c.loop-number.components) (sym none) ∙ c.loop-number.invariant.entries
