use Rattle.std.proofs.Common.{◌≡◌, ◌++◌, ℕ, List, map, OnOk, string_bytes, ◌+◌, ◌<◌, length, [], ◌∷◌, Ok, Some, None, take, ap, sym, ◌∙◌, arith, subst, nat_cmp, bytes_eq}
use Rattle.std.specs.BTreeMap.{get_by_text, UpdatesBy}
use Rattle.std.specs.String.{string_cmp}
use Rattle.std.specs.Map.{update}
use Rattle.std.specs.Cmp.Lexicographic.{slice_cmp}
use Rattle.std.proofs.lemmas.List.{length-map, length-take-le}
use Rattle.std.proofs.lemmas.Map.Text.{btree_map_updates_text}
use Rattle.texts.specs.Names.{place_in}
use Rattle.texts.proofs.Laws.{places_more, places_stay, ok_before}
use Rattle.scopes.specs.Names.{texts}
use Rattle.scopes.proofs.PlaceLaws.{texts_grown, length-texts}
use Rattle.scopes.proofs.names.first_places.Goals as goal

pub loop-at-preserved-in-Some : goal.loop-at-preserved-in-Some
loop-at-preserved-in-Some g c =
    let f = g.T.Named.ident_of in
    let at = c.loop-at.at in
    let items = c.args.items.now in
    let ns = texts (map f (take at items)) in
    let x = f c.index-items-at.result in
    let lt : at < length items = omega arith in
    let name : c.as_str-name.result.now ≡ x.text = c.as_str-name.ensures ∙ ap (λ i. i.text) c.ident.ensures in
    let here : texts (map f (take (at + 1) items)) ≡ ns ++ x.text ∷ [] = texts_grown f items at c.index-items-at.result lt c.index-items-at.is in
    let old : get_by_text c.loop-at.places x.text ≡ Some c.in-Some.field-0.now = ap (get_by_text c.loop-at.places) (sym name) ∙ sym c.in-Some.ensures.value in
    subst (λ ms. (k : List ℕ) → get_by_text c.loop-at.places k ≡ place_in k ms) (sym here)
    (places_stay ns x.text c.in-Some.field-0.now (get_by_text c.loop-at.places) c.loop-at.invariant old)

pub loop-at-preserved : goal.loop-at-preserved
loop-at-preserved g c =
    let f = g.T.Named.ident_of in
    let at = c.loop-at.at in
    let items = c.args.items.now in
    let ns = texts (map f (take at items)) in
    let x = f c.index-items-at.result in
    let lt : at < length items = omega arith in
    let ok : c.insert.result ≡ Ok c.in_ok-map_err.field-0 = ok_before c.insert.result c.map_err.result c.in_ok-map_err.field-0 _ c.map_err.ensures.cases c.map_err.ensures.variant c.in_ok-map_err.was in
    let asked : c.as_str-name.result.now ≡ x.text = c.as_str-name.ensures ∙ ap (λ i. i.text) c.ident.ensures in
    let name : string_bytes c.in_ok-name.name ≡ x.text = c.in_ok-name.ensures.ok ∙ asked in
    let here : texts (map f (take (at + 1) items)) ≡ ns ++ x.text ∷ [] = texts_grown f items at c.index-items-at.result lt c.index-items-at.is in
    let many : length ns ≡ at = length-texts (map f (take at items)) ∙ length-map (take at items) f ∙ length-take-le at items (omega arith) in
    let new : get_by_text c.loop-at.places x.text ≡ None = ap (get_by_text c.loop-at.places) (sym asked) ∙ sym c.in_default.ensures.value in
    let after : (k : List ℕ) → get_by_text c.insert.new.self k ≡ update bytes_eq (get_by_text c.loop-at.places) x.text (Some (length ns)) k =
    subst (λ n. (k : List ℕ) → get_by_text c.insert.new.self k ≡ update bytes_eq (get_by_text c.loop-at.places) x.text (Some n) k) (sym many)
    (subst (λ bs. (k : List ℕ) → get_by_text c.insert.new.self k ≡ update bytes_eq (get_by_text c.loop-at.places) bs (Some at) k) name
    (btree_map_updates_text (string_bytes c.in_ok-name.name) c.loop-at.places c.insert.new.self (Some at) (subst (λ r. OnOk r (UpdatesBy string_cmp (λ k. slice_cmp nat_cmp (string_bytes c.in_ok-name.name) (string_bytes k)) c.loop-at.places c.insert.new.self (Some at))) ok c.insert.ensures.updates))) in
    subst (λ ms. (k : List ℕ) → get_by_text c.insert.new.self k ≡ place_in k ms) (sym here)
    (places_more ns x.text (get_by_text c.loop-at.places) (get_by_text c.insert.new.self) c.loop-at.invariant new after)
