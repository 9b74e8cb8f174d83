use Rattle.std.proofs.Common.{◌≡◌, ◌<◌, ◌∙◌, ℕ, [], ◌∷◌, ◌++◌, IsTrue, length, map, ap, sym, subst, rules}
use Rattle.std.specs.List.{AllByRecursion}
use Rattle.std.proofs.lemmas.List.{append-nil, append_assoc, length-map, get_or-map}
use Rattle.schema_trees.specs.Schema.{leaf, bind}
use Rattle.schema_core.specs.Document.{Entry}
use Rattle.schema_core.specs.Form.{form_by}
use Rattle.schema_core.specs.Writes.{WritesValue}
use Rattle.component.specs.Leaves.{param, term_view}
use Rattle.shapes.specs.InstanceNames.{instance_name}
use Rattle.shapes.specs.Views.{declaration_view}
use Rattle.inlining.specs.Inlining.{IsAmong, targets_of}
use Rattle.inlining.specs.Marks.{mark}
use Rattle.instances.specs.Names.{instance_names}
use Rattle.closing.specs.Closed.{put}
use Rattle.closing.specs.Links.{inlining_of}
use Rattle.closing.specs.Made.{entries_at}
use Rattle.closing.specs.Texts.{AreSchemaTexts, numbers_from, there_at}
use Rattle.closing.proofs.Entered.{its_schema}
use Rattle.closing.proofs.EntriesAt.{place_of, with_schema, all_numbers, numbers_are}
use Rattle.closing.proofs.Kept.{put_is}
use Rattle.closing.proofs.SchemaTexts.{texts_and_one}
use Rattle.closing.proofs.document.schema_texts.Goals as goal

pub by_name-requires : goal.by_name-requires
by_name-requires c = λ n among.
    let ss = map declaration_view c.args.declared.now in
    let here : n < length c.args.reach.now = c.requires.within n (subst (IsAmong n) c.as_slice-2.ensures among) in
    subst (λ k. n < k) (sym (ap length c.requires.names ∙ length-map c.args.reach.now (instance_name ss))) here

-- the numbers that are gone through are those of all under their names
pub loop-name-init : goal.loop-name-init
loop-name-init c =
    let ss = map declaration_view c.args.declared.now in
    let is = c.args.reach.now in
    let comps = c.args.shown.now.components in
    let names = instance_names ss is in
    let places : map place_of c.into_iter-name-iterator.result ≡ numbers_from names [] comps =
    ap (map place_of) (c.into_iter-name-iterator.ensures.into_iter_gives ∙ c.iter-name-items.ensures.rest) ∙ c.in_ok-by_name.ensures ∙ ap (λ ks. numbers_from ks [] c.as_slice-2.result.now) c.requires.names ∙ ap (numbers_from names []) c.as_slice-2.ensures in
    record {
      written = ([], subst (AreSchemaTexts c.args.by []) (sym c.new-texts.ensures) tt, ap (map (with_schema (its_schema ss is))) places ∙ numbers_are ss is c.requires.instances c.requires.differ comps c.requires.once c.requires.within);
      among = subst (AllByRecursion (λ p. IsAmong p.1 comps)) (sym places) (all_numbers (λ n. IsAmong n comps) names [] comps tt (λ n among. among));
    }

pub bounds-terms-number : goal.bounds-terms-number
bounds-terms-number c =
    let comps = c.args.shown.now.components in
    let n = c.in-Some.number.now in
    let here : c.loop-name.name-iterator ≡ (c.in-Some.name.now, n) ∷ c.next.new.self = search rules in
    let among = subst (λ l. AllByRecursion (λ p. IsAmong p.1 comps) (map place_of l)) here c.loop-name.invariant.among in
    subst (λ k. n < k) (sym c.requires.as_many) (c.requires.within n among.0)

pub offset_bounds-terms-number : goal.offset_bounds-terms-number
offset_bounds-terms-number c =
    let comps = c.args.shown.now.components in
    let n = c.in-Some.number.now in
    let here : c.loop-name.name-iterator ≡ (c.in-Some.name.now, n) ∷ c.next.new.self = search rules in
    let among = subst (λ l. AllByRecursion (λ p. IsAmong p.1 comps) (map place_of l)) here c.loop-name.invariant.among in
    let within : n < length c.args.terms.now = subst (λ k. n < k) (sym c.requires.as_many) (c.requires.within n among.0) in
    search rules

pub loop-name-preserved : goal.loop-name-preserved
loop-name-preserved c =
    let ss = map declaration_view c.args.declared.now in
    let is = c.args.reach.now in
    let marks = c.args.shown.now.marks in
    let comps = c.args.shown.now.components in
    let made = c.in_ok-made.made.items in
    let rest = c.next.new.self in
    let n = c.in-Some.number.now in
    let term = c.index-terms-number.result in
    let its = its_schema ss is in
    let here : c.loop-name.name-iterator ≡ (c.in-Some.name.now, n) ∷ rest = search rules in
    let among = subst (λ l. AllByRecursion (λ p. IsAmong p.1 comps) (map place_of l)) here c.loop-name.invariant.among in
    let within : n < length is = c.requires.within n among.0 in
    let marked : IsTrue (mark marks n) = c.requires.shown n among.0 in
    let all = λ (m : ℕ) (target : IsAmong m (targets_of (inlining_of ss is) n)). c.in_ok-made.ensures.there n m among.0 target in
    let is_term : term_view term ≡ _ =
    ap term_view c.index-terms-number.is ∙ sym (get_or-map term_view c.args.terms.now n term (leaf (param 0)) (subst (λ k. n < k) (sym c.requires.as_many) within)) ∙ c.requires.terms n within marked in
    let is_schema : bind (put ss (there_at ss is c.as_slice.result.now)) (term_view term) ≡ its n =
    put_is c.same_types_are_equal.ensures c.types_stay_without_arguments.ensures ss is c.requires.instances c.requires.shallow made c.as_slice.result.now n (term_view term) within c.as_slice.ensures.value is_term all in
    let before = c.loop-name.invariant.written in
    let entry : Entry = (c.in-Some.name.now.now, its n) in
    let text : WritesValue (form_by c.args.by (its n)) [] c.in_ok-text.text = subst (λ s. WritesValue (form_by c.args.by s) [] c.in_ok-text.text) is_schema c.in_ok-text.ensures in
    record {
      written = (
        before.0 ++ entry ∷ [],
        subst (AreSchemaTexts c.args.by (before.0 ++ entry ∷ [])) (sym c.in_ok-push.ensures.ok) (texts_and_one c.args.by before.0 c.loop-name.texts entry (c.in_ok-new.field-0, c.in_ok-text.text) before.1 c.in_ok-new.ensures text),
        append_assoc before.0 (entry ∷ []) (map (with_schema its) (map place_of rest)) ∙ ap (λ l. before.0 ++ map (with_schema its) (map place_of l)) (sym here) ∙ before.2,
      );
      among = among.1;
    }

pub returns : goal.returns
returns c =
    let ss = map declaration_view c.args.declared.now in
    let is = c.args.reach.now in
    let its = its_schema ss is in
    let w = c.loop-name.invariant.written in
    let none : c.loop-name.name-iterator ≡ [] = search rules in
    let same : w.0 ≡ entries_at ss is c.args.shown.now.components = sym (append-nil w.0) ∙ ap (λ l. w.0 ++ map (with_schema its) (map place_of l)) (sym none) ∙ w.2 in
    subst (λ es. AreSchemaTexts c.args.by es c.loop-name.texts) same w.1
