use Rattle.std.proofs.Common.{◌≡◌, ◌∙◌, ℕ, List, Ok, Some, None, IfOk, OnOk, string_bytes, length, ap, sym, subst, nat_cmp, bytes_eq}
use Rattle.std.specs.BTreeMap.{get_by_text, UpdatesBy}
use Rattle.std.specs.String.{string_cmp}
use Rattle.std.specs.Map.{update}
use Rattle.std.specs.Cmp.Lexicographic.{slice_cmp}
use Rattle.std.proofs.lemmas.Map.Text.{btree_map_updates_text}
use Rattle.texts.proofs.Laws.{ok_before, none_from}
use Rattle.instances.specs.Numbers.{AreNamed}
use Rattle.instances.proofs.Places.{named-more}
use Rattle.instances.proofs.names.add_name.Goals as goal

pub returns-in-Some-clause-earlier : goal.returns-in-Some-clause-earlier
returns-in-Some-clause-earlier c =
    let look = get_by_text c.args.numbers.now in
    let name : string_bytes c.in_ok-key.key ≡ c.args.name = c.in_ok-key.ensures.ok ∙ c.as_str.ensures in
    let ok : c.insert.result ≡ Ok c.in_ok-earlier.field-0 = ok_before c.insert.result c.map_err.result c.in_ok-earlier.field-0 _ c.map_err.ensures.cases c.map_err.ensures.variant c.in_ok-earlier.was in
    let old : look (string_bytes c.in_ok-key.key) ≡ Some c.in-Some.earlier = sym (subst (λ r. IfOk r (λ o. o ≡ look (string_bytes c.in_ok-key.key))) ok c.insert.ensures.old) ∙ c.in-Some.is in
    sym old ∙ ap look name ∙ c.requires.placed c.args.name

pub returns-clause-earlier : goal.returns-clause-earlier
returns-clause-earlier c =
    let look = get_by_text c.args.numbers.now in
    let name : string_bytes c.in_ok-key.key ≡ c.args.name = c.in_ok-key.ensures.ok ∙ c.as_str.ensures in
    let ok : c.insert.result ≡ Ok c.in_ok-earlier.field-0 = ok_before c.insert.result c.map_err.result c.in_ok-earlier.field-0 _ c.map_err.ensures.cases c.map_err.ensures.variant c.in_ok-earlier.was in
    let none : c.in_ok-earlier.field-0 ≡ None = none_from c.in_ok-earlier.field-0 c.in_default.not-Some in
    let old : look (string_bytes c.in_ok-key.key) ≡ None = sym (subst (λ r. IfOk r (λ o. o ≡ look (string_bytes c.in_ok-key.key))) ok c.insert.ensures.old) ∙ none in
    sym old ∙ ap look name ∙ c.requires.placed c.args.name

pub returns-clause-named : goal.returns-clause-named
returns-clause-named c = λ _.
    let ns = c.args.names.now in
    let look = get_by_text c.args.numbers.now in
    let after = get_by_text c.insert.new.self in
    let name : string_bytes c.in_ok-key.key ≡ c.args.name = c.in_ok-key.ensures.ok ∙ c.as_str.ensures in
    let ok : c.insert.result ≡ Ok c.in_ok-earlier.field-0 = ok_before c.insert.result c.map_err.result c.in_ok-earlier.field-0 _ c.map_err.ensures.cases c.map_err.ensures.variant c.in_ok-earlier.was in
    let none : c.in_ok-earlier.field-0 ≡ None = none_from c.in_ok-earlier.field-0 c.in_default.not-Some in
    let old : look (string_bytes c.in_ok-key.key) ≡ None = sym (subst (λ r. IfOk r (λ o. o ≡ look (string_bytes c.in_ok-key.key))) ok c.insert.ensures.old) ∙ none in
    let updated : (k : List ℕ) → after k ≡ update bytes_eq look c.args.name (Some (length ns)) k =
    subst (λ i. (k : List ℕ) → after k ≡ update bytes_eq look c.args.name (Some i) k) c.len.ensures
    (subst (λ bs. (k : List ℕ) → after k ≡ update bytes_eq look bs (Some c.len.result) k) name
    (btree_map_updates_text (string_bytes c.in_ok-key.key) c.args.numbers.now c.insert.new.self (Some c.len.result) (subst (λ r. OnOk r (UpdatesBy string_cmp (λ k. slice_cmp nat_cmp (string_bytes c.in_ok-key.key) (string_bytes k)) c.args.numbers.now c.insert.new.self (Some c.len.result))) ok c.insert.ensures.updates))) in
    subst (AreNamed after) (sym c.in_ok-push.ensures.ok) (named-more ns c.args.name look after c.requires (sym (ap look name) ∙ old) updated)
