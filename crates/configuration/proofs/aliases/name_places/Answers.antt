use Rattle.std.proofs.Common.{◌≡◌, ◌++◌, ℕ, List, OnOk, string_bytes, ◌+◌, ◌<◌, length, [], ◌∷◌, Ok, Some, None, take, ap, sym, ◌∙◌, arith, subst, nat_cmp, bytes_eq}
use Rattle.std.specs.BTreeMap.{get_by_text, UpdatesBy}
use Rattle.std.specs.String.{string_cmp}
use Rattle.std.specs.Map.{update}
use Rattle.std.specs.Cmp.Lexicographic.{slice_cmp}
use Rattle.std.proofs.lemmas.List.{take_more, length-take-le}
use Rattle.std.proofs.lemmas.Map.Text.{btree_map_updates_text}
use Rattle.texts.specs.Names.{place_in}
use Rattle.texts.proofs.Laws.{places_more, places_stay, ok_before}
use Rattle.configuration.proofs.aliases.name_places.Goals as goal

pub loop-at-preserved-in-Some : goal.loop-at-preserved-in-Some
loop-at-preserved-in-Some c =
    let at = c.loop-at.at in
    let names = c.args.names.now in
    let ns = take at names in
    let x = c.index-names-at.result in
    let lt : at < length names = omega arith in
    let here : take (at + 1) names ≡ ns ++ x ∷ [] = take_more names at x lt ∙ ap (λ y. ns ++ y ∷ []) (sym c.index-names-at.is) in
    let old : get_by_text c.loop-at.places x ≡ Some c.in-Some.field-0.now = ap (get_by_text c.loop-at.places) (sym c.as_str-name.ensures) ∙ sym c.in-Some.ensures.value in
    subst (λ ms. (k : List ℕ) → get_by_text c.loop-at.places k ≡ place_in k ms) (sym here)
    (places_stay ns x c.in-Some.field-0.now (get_by_text c.loop-at.places) c.loop-at.invariant old)

pub loop-at-preserved : goal.loop-at-preserved
loop-at-preserved c =
    let at = c.loop-at.at in
    let names = c.args.names.now in
    let ns = take at names in
    let x = c.index-names-at.result in
    let lt : at < length names = omega arith in
    let ok : c.insert.result ≡ Ok c.in_ok-map_err.field-0 = ok_before c.insert.result c.map_err.result c.in_ok-map_err.field-0 _ c.map_err.ensures.cases c.map_err.ensures.variant c.in_ok-map_err.was in
    let name : string_bytes c.in_ok-name.name ≡ x = c.in_ok-name.ensures.ok ∙ c.as_str-name.ensures in
    let here : take (at + 1) names ≡ ns ++ x ∷ [] = take_more names at x lt ∙ ap (λ y. ns ++ y ∷ []) (sym c.index-names-at.is) in
    let many : length ns ≡ at = length-take-le at names (omega arith) in
    let new : get_by_text c.loop-at.places x ≡ None = ap (get_by_text c.loop-at.places) (sym c.as_str-name.ensures) ∙ sym c.in_default.ensures.value in
    let after : (k : List ℕ) → get_by_text c.insert.new.self k ≡ update bytes_eq (get_by_text c.loop-at.places) x (Some (length ns)) k =
    subst (λ n. (k : List ℕ) → get_by_text c.insert.new.self k ≡ update bytes_eq (get_by_text c.loop-at.places) x (Some n) k) (sym many)
    (subst (λ bs. (k : List ℕ) → get_by_text c.insert.new.self k ≡ update bytes_eq (get_by_text c.loop-at.places) bs (Some at) k) name
    (btree_map_updates_text (string_bytes c.in_ok-name.name) c.loop-at.places c.insert.new.self (Some at) (subst (λ r. OnOk r (UpdatesBy string_cmp (λ k. slice_cmp nat_cmp (string_bytes c.in_ok-name.name) (string_bytes k)) c.loop-at.places c.insert.new.self (Some at))) ok c.insert.ensures.updates))) in
    subst (λ ms. (k : List ℕ) → get_by_text c.insert.new.self k ≡ place_in k ms) (sym here)
    (places_more ns x (get_by_text c.loop-at.places) (get_by_text c.insert.new.self) c.loop-at.invariant new after)
