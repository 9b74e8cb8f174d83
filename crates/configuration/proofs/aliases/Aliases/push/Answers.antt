use Rattle.std.proofs.Common.{arith, ◌≡◌, ◌++◌, ◌∙◌, ℕ, List, [], ◌∷◌, length, true, Option, Some, None, Result, Ok, Err, is_ok, OnOk, bytes_eq, string_bytes, refl, sym, ap, subst}
use Rattle.std.proofs.lemmas.Grind.{common_steps}
use Rattle.std.specs.BTreeMap.{get_by_text}
use Rattle.std.specs.Map.{update}
use Rattle.std.proofs.lemmas.Bool.{false≢true}
use Rattle.texts.specs.Names.{place_in}
use Rattle.written_types.specs.declared.written.WrittenType.{WrittenType}
use Rattle.written_types.specs.Written.{written_view}
use Rattle.configuration.specs.Configuration.{Alias}
use Rattle.configuration.specs.Aliases.{alias_names}
use Rattle.configuration.specs.Stored.{aliases_of, AreStored}
use Rattle.configuration.proofs.AliasLaws.{places-of, aliases-push, stored-push}
use Rattle.configuration.proofs.aliases.Aliases.push.Goals as goal

when_ok : {T E : Type 0} (r : Result T E) (P : Type 0) → is_ok r ≡ true → OnOk r P → P
when_ok (Ok x) P t h = h
when_ok (Err e) P t h = absurd (false≢true t)

-- where the name stands, by the places that are stored
placed : (ns : List (List ℕ)) (ts bares : List WrittenType) (f : List ℕ → Option ℕ) (xs : List Alias) (name : List ℕ) (p : Option ℕ) → AreStored ns ts bares f → aliases_of ns ts ≡ xs → p ≡ f name → place_in name (alias_names xs) ≡ p
placed ns ts bares f xs name p s view at = sym (at ∙ places-of ns ts bares f s name ∙ ap (λ ys. place_in name (alias_names ys)) view)

pub returns-in-Some-clause-new : goal.returns-in-Some-clause-new
returns-in-Some-clause-new c =
    let self = c.self.inside in
    let known : place_in c.args.name.now (alias_names c.args.self.now) ≡ Some c.in-Some.field-0.now = placed self.names self.types self.bare (get_by_text self.places) c.args.self.now c.args.name.now _ c.self.invariant c.self.view_is c.in-Some.ensures.value in
    (λ t. absurd (false≢true t), λ none. let both : Some c.in-Some.field-0.now ≡ None = sym known ∙ none in cc)

pub invariant_of-self-then-is_ok : goal.invariant_of-self-then-is_ok
invariant_of-self-then-is_ok c =
    let self = c.self.inside in
    let old = get_by_text self.places in
    let ok : is_ok c.push_placed.result ≡ true = sym c.is_ok.ensures.value ∙ c.if-is_ok.true in
    let key : string_bytes c.in_ok-key.key ≡ c.in_ok-name.name = c.in_ok-key.ensures.ok ∙ sym c.in_ok-name.ensures in
    let grown : (k : List ℕ) → get_by_text c.push_placed.new.places k ≡ update bytes_eq old c.in_ok-name.name (Some (length self.names)) k =
    subst (λ n. (k : List ℕ) → get_by_text c.push_placed.new.places k ≡ update bytes_eq old c.in_ok-name.name (Some n) k) c.len-at.ensures
    (subst (λ bs. (k : List ℕ) → get_by_text c.push_placed.new.places k ≡ update bytes_eq old bs (Some c.len-at.result) k) key (when_ok c.push_placed.result _ ok c.push_placed.ensures.places)) in
    let new : old c.in_ok-name.name ≡ None = ap old c.in_ok-name.ensures ∙ sym c.in_default.ensures.value in
    rw (c.in_ok-push_both.ensures.ones, c.in_ok-push_both.ensures.others, when_ok c.push_placed.result _ ok c.push_placed.ensures.bare)
    (stored-push self.names self.types self.bare old (get_by_text c.push_placed.new.places) c.in_ok-name.name c.args.ty c.in_ok-bare.bare c.self.invariant new c.in_ok-bare.ensures grown)

pub returns-then-is_ok-clause-ok : goal.returns-then-is_ok-clause-ok
returns-then-is_ok-clause-ok c =
    let self = c.self.inside in
    let names : c.push_both.new.ones ≡ self.names ++ c.args.name.now ∷ [] = c.in_ok-push_both.ensures.ones ∙ ap (λ n. self.names ++ n ∷ []) c.in_ok-name.ensures in
    let one : Alias = record { name = c.args.name.now; of = written_view c.args.ty } in
    (λ i. aliases_of (names i) (c.in_ok-push_both.ensures.others i)) ∙ aliases-push self.names self.types c.args.name.now c.args.ty c.self.invariant.many ∙ ap (λ xs. xs ++ one ∷ []) c.self.view_is

pub returns-then-is_ok-clause-new : goal.returns-then-is_ok-clause-new
returns-then-is_ok-clause-new c =
    let self = c.self.inside in
    let new : place_in c.args.name.now (alias_names c.args.self.now) ≡ None = placed self.names self.types self.bare (get_by_text self.places) c.args.self.now c.args.name.now None c.self.invariant c.self.view_is c.in_default.ensures.value in
    (λ _. new, λ _. refl)

pub take_last-requires : goal.take_last-requires
take_last-requires c = grind (arith, common_steps)

pub take_last-requires-2 : goal.take_last-requires-2
take_last-requires-2 c = grind (arith, common_steps)

pub invariant_of-self-2 : goal.invariant_of-self-2
invariant_of-self-2 c = grind (arith, common_steps)

pub returns-clause-err : goal.returns-clause-err
returns-clause-err c = grind (arith, common_steps)
