-- Laws of predicates of which one holds wherever another does, for other crates.
use Rattle.std.proofs.Common.{ℕ, List, [], ◌∷◌, Bool, true, false, ◌&&◌, ◌||◌, Option, Some, None, ◌≡◌, ◌∙◌, refl, ap}
use Rattle.std.specs.List.{list_all}
use Rattle.acceptance.specs.Json.{Json, null, text, list, map, elements, entries, on_map, on_list, if_there}
use Rattle.texts.specs.Names.{is_in}
use Rattle.acceptance.specs.Acceptance.{others_pass, names_pass}

-- q holds wherever p does
abbrev pub Below : {A : Type 0} → (A → Bool) → (A → Bool) → Type 0
Below {A} p q = (x : A) → p x ≡ true → q x ≡ true

-- where both parts hold wherever others do, both together hold wherever the others do
pub and-below : (a b c d : Bool) → (a ≡ true → c ≡ true) → (b ≡ true → d ≡ true) → (a && b) ≡ true → (c && d) ≡ true
and-below true true c d f g e = ap (λ x. x && d) (f refl) ∙ g refl
and-below true false c d f g e = cc
and-below false b c d f g e = cc

-- and one of them holds wherever one of the others does
pub or-below : (a b c d : Bool) → (a ≡ true → c ≡ true) → (b ≡ true → d ≡ true) → (a || b) ≡ true → (c || d) ≡ true
or-below true b c d f g e = ap (λ x. x || d) (f refl)
or-below false true true d f g e = refl
or-below false true false d f g e = g refl
or-below false false c d f g e = cc

-- so do all items of a list
pub list_all-below : {A : Type 0} (p q : A → Bool) → Below p q → (xs : List A) → list_all p xs ≡ true → list_all q xs ≡ true
list_all-below p q h [] e = refl
list_all-below p q h (x ∷ xs) e = and-below (p x) (list_all p xs) (q x) (list_all q xs) (h x) (list_all-below p q h xs) e

-- what is asked of members, of items and of a value that may be there
pub on_map-below : (p q : List (List ℕ × Json) → Bool) → Below p q → (v : Json) → on_map v p ≡ true → on_map v q ≡ true
on_map-below p q h (map ms) e = h (entries ms) e
on_map-below p q h null e = refl
on_map-below p q h _ e = refl

pub on_list-below : (p q : List Json → Bool) → Below p q → (v : Json) → on_list v p ≡ true → on_list v q ≡ true
on_list-below p q h (list vs) e = h (elements vs) e
on_list-below p q h null e = refl
on_list-below p q h _ e = refl

pub if_there-below : (p q : Json → Bool) → Below p q → (o : Option Json) → if_there o p ≡ true → if_there o q ≡ true
if_there-below p q h (Some v) e = h v e
if_there-below p q h None e = refl

-- what is asked of members with other names, and of names
pub others-below : (ks : List (List ℕ)) (p q : Json → Bool) → Below p q → Below (others_pass ks p) (others_pass ks q)
others-below ks p q h = list_all-below (λ e. is_in e.0 ks || p e.1) (λ e. is_in e.0 ks || q e.1)
    (λ x. or-below (is_in x.0 ks) (p x.1) (is_in x.0 ks) (q x.1) (λ y. y) (h x.1))

pub names-below : (p q : Json → Bool) → Below p q → Below (names_pass p) (names_pass q)
names-below p q h = list_all-below (λ e. p (text e.0)) (λ e. q (text e.0)) (λ x. h (text x.0))
