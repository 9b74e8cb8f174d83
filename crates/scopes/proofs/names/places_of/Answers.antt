use Rattle.std.proofs.Common.{◌≡◌, ◌++◌, ℕ, List, map, IfOk, OnOk, string_bytes, ◌+◌, ◌<◌, length, [], ◌∷◌, Ok, Some, None, take, drop, get_or, ap, sym, ◌∙◌, arith, subst, inl, inr, suc, nat_cmp, bytes_eq}
use Rattle.std.specs.BTreeMap.{get_by_text, UpdatesBy}
use Rattle.std.specs.String.{string_cmp}
use Rattle.std.specs.Map.{update}
use Rattle.std.specs.Cmp.Lexicographic.{slice_cmp}
use Rattle.std.proofs.lemmas.List.{length-map, length-take-le}
use Rattle.std.proofs.lemmas.Grind.{common_steps}
use Rattle.std.proofs.lemmas.Map.Text.{btree_map_updates_text}
use Rattle.diag.specs.Refusal.{IsRefusal}
use Rattle.diag.specs.declared.kind.Kind.TheVariants.{DuplicateName}
use Rattle.texts.specs.Names.{IsDistinct, place_in}
use Rattle.texts.proofs.Laws.{places_more, distinct-push, ok_before, none_from}
use Rattle.scopes.specs.Names.{texts, duplicate_message}
use Rattle.scopes.proofs.PlaceLaws.{is_in-from_place, texts_grown, length-texts, map-split, distinct_once}
use Rattle.scopes.proofs.names.places_of.Goals as goal

pub returns-in-Some-clause-refused : goal.returns-in-Some-clause-refused
returns-in-Some-clause-refused g c =
    let f = g.T.Named.ident_of in
    let at = c.loop-at.at in
    let items = c.args.items.now in
    let x = f c.index-items-at.result in
    let lt : at < length items = omega arith in
    let ok : c.insert.result ≡ Ok c.in_ok-map_err.field-0 = ok_before c.insert.result c.map_err.result c.in_ok-map_err.field-0 _ c.map_err.ensures.cases c.map_err.ensures.variant c.in_ok-map_err.was in
    let same : f (get_or items at c.index-items-at.result) ≡ x = ap f (sym c.index-items-at.is) in
    let split : map f items ≡ map f (take at items) ++ x ∷ map f (drop (suc at) items) =
    subst (λ y. map f items ≡ map f (take at items) ++ y ∷ map f (drop (suc at) items)) same (map-split f items at c.index-items-at.result lt) in
    let name : string_bytes c.in_ok-name.name ≡ x.text = c.in_ok-name.ensures.ok ∙ c.as_str.ensures ∙ ap (λ i. i.text) c.ident-ident.ensures in
    let old : get_by_text c.loop-at.places (string_bytes c.in_ok-name.name) ≡ Some c.in-Some.field-0 = sym (subst (λ r. IfOk r (λ o. o ≡ get_by_text c.loop-at.places (string_bytes c.in_ok-name.name))) ok c.insert.ensures.old) ∙ c.in-Some.is in
    let placed : place_in x.text (texts (map f (take at items))) ≡ Some c.in-Some.field-0 = sym (c.loop-at.invariant.0 x.text) ∙ ap (get_by_text c.loop-at.places) (sym name) ∙ old in
    elim c.in_ok-duplicate_name.ensures [
      | inl memory ↦ inl memory
      | inr refusal ↦ inr (
        x,
        (map f (take at items), map f (drop (suc at) items), split, c.loop-at.invariant.1, is_in-from_place x.text _ _ placed),
        subst (λ i. IsRefusal DuplicateName i.span (duplicate_message i.text) c.in_ok-duplicate_name.field-0) c.ident-ident.ensures refusal,
      )
    ]

pub returns-clause-once : goal.returns-clause-once
returns-clause-once g c =
    let items = c.args.items.now in
    let f = g.T.Named.ident_of in
    let whole : take c.loop-at.at items ≡ items = grind (arith, common_steps) in
    distinct_once (map f items) (subst (λ is. IsDistinct (texts (map f is))) whole c.loop-at.invariant.1)

pub loop-at-preserved : goal.loop-at-preserved
loop-at-preserved g c =
    let f = g.T.Named.ident_of in
    let at = c.loop-at.at in
    let items = c.args.items.now in
    let ns = texts (map f (take at items)) in
    let x = f c.index-items-at.result in
    let lt : at < length items = omega arith in
    let ok : c.insert.result ≡ Ok c.in_ok-map_err.field-0 = ok_before c.insert.result c.map_err.result c.in_ok-map_err.field-0 _ c.map_err.ensures.cases c.map_err.ensures.variant c.in_ok-map_err.was in
    let name : string_bytes c.in_ok-name.name ≡ x.text = c.in_ok-name.ensures.ok ∙ c.as_str.ensures ∙ ap (λ i. i.text) c.ident-ident.ensures in
    let none : c.in_ok-map_err.field-0 ≡ None = none_from c.in_ok-map_err.field-0 c.in_default.not-Some in
    let old : get_by_text c.loop-at.places (string_bytes c.in_ok-name.name) ≡ None = sym (subst (λ r. IfOk r (λ o. o ≡ get_by_text c.loop-at.places (string_bytes c.in_ok-name.name))) ok c.insert.ensures.old) ∙ none in
    let here : texts (map f (take (at + 1) items)) ≡ ns ++ x.text ∷ [] = texts_grown f items at c.index-items-at.result lt c.index-items-at.is in
    let many : length ns ≡ at = length-texts (map f (take at items)) ∙ length-map (take at items) f ∙ length-take-le at items (omega arith) in
    let new : get_by_text c.loop-at.places x.text ≡ None = ap (get_by_text c.loop-at.places) (sym name) ∙ old in
    let after : (k : List ℕ) → get_by_text c.insert.new.self k ≡ update bytes_eq (get_by_text c.loop-at.places) x.text (Some (length ns)) k =
    subst (λ n. (k : List ℕ) → get_by_text c.insert.new.self k ≡ update bytes_eq (get_by_text c.loop-at.places) x.text (Some n) k) (sym many)
    (subst (λ bs. (k : List ℕ) → get_by_text c.insert.new.self k ≡ update bytes_eq (get_by_text c.loop-at.places) bs (Some at) k) name
    (btree_map_updates_text (string_bytes c.in_ok-name.name) c.loop-at.places c.insert.new.self (Some at) (subst (λ r. OnOk r (UpdatesBy string_cmp (λ k. slice_cmp nat_cmp (string_bytes c.in_ok-name.name) (string_bytes k)) c.loop-at.places c.insert.new.self (Some at))) ok c.insert.ensures.updates))) in
    subst (λ ms. ((k : List ℕ) → get_by_text c.insert.new.self k ≡ place_in k ms) × IsDistinct ms) (sym here)
    (places_more ns x.text (get_by_text c.loop-at.places) (get_by_text c.insert.new.self) c.loop-at.invariant.0 new after, distinct-push ns x.text c.loop-at.invariant.1 (sym (c.loop-at.invariant.0 x.text) ∙ new))
