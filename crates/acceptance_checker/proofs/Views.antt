-- Looking into a map of serde_json is looking into the map of JSON values.
use Rattle.std.proofs.Common.{◌≡◌, ℕ, zero, suc, ◌≤◌, length, drop, arith, ◌≢◌, ◌&&◌, List, [], ◌∷◌, Bool, true, false, cond, ◌||◌, Option, Some, None, option_map, is_some, String, Global, string_bytes, bytes_eq, nat_cmp, is_eq, refl, sym, ap, ◌∙◌}
use Rattle.std.proofs.Math.Bool.{and-false}
use Rattle.std.proofs.lemmas.Map.Text.{is_eq-slice_cmp}
use Rattle.std.specs.BTreeMap.{is_at}
use Rattle.std.specs.Cmp.Lexicographic.{slice_cmp}
use Rattle.std.specs.Map.{lookup}
use Rattle.serde_json.specs.View.{view}
use Rattle.serde_json.specs.declared.value.Value.{Value}
use Rattle.acceptance.specs.Json.{Json, elements, entries, look, names, same, same_items}
use Rattle.texts.specs.Names.{is_in}
use Rattle.acceptance.specs.Data.{json_of}
use Rattle.acceptance_checker.specs.Layer.{json_of_values, json_of_entries}

abbrev pub Entry : Type 0
Entry = String Global × Value

abbrev pub pairs : List Entry → List (List ℕ × Json)
pairs es = entries (json_of_entries es)

found-cond : (b : Bool) (v : Value) (rest : Option Value) (d : Option Json) → option_map (λ x. json_of (view x)) rest ≡ d → option_map (λ x. json_of (view x)) (cond b (Some v) rest) ≡ cond b (Some (json_of (view v))) d
found-cond true v rest d e = refl
found-cond false v rest d e = e

pub look-pairs : (name : List ℕ) (es : List Entry) → option_map (λ v. json_of (view v)) (lookup (is_at (λ k. slice_cmp nat_cmp name (string_bytes k))) es) ≡ look name (pairs es)
look-pairs name [] = refl
look-pairs name (e ∷ es) = found-cond (is_eq (slice_cmp nat_cmp name (string_bytes e.0))) e.1 _ _ (look-pairs name es)
    ∙ ap (λ b. cond b (Some (json_of (view e.1))) (look name (pairs es))) (is_eq-slice_cmp name (string_bytes e.0))

is_some-cond : {A : Type 0} (b : Bool) (x : A) (o : Option A) → is_some (cond b (Some x) o) ≡ (b || is_some o)
is_some-cond true x o = refl
is_some-cond false x o = refl

pub is_some-look : (name : List ℕ) (es : List (List ℕ × Json)) → is_some (look name es) ≡ is_in name (names es)
is_some-look name [] = refl
is_some-look name (e ∷ es) = is_some-cond (bytes_eq name e.0) e.1 (look name es) ∙ ap (λ b. bytes_eq name e.0 || b) (is_some-look name es)

pub is_some-map : {A B : Type 0} (f : A → B) (o : Option A) → is_some (option_map f o) ≡ is_some o
is_some-map f None = refl
is_some-map f (Some x) = refl

pub has-pairs : (name : List ℕ) (es : List Entry) → is_some (lookup (is_at (λ k. slice_cmp nat_cmp name (string_bytes k))) es) ≡ is_in name (names (pairs es))
has-pairs name es = sym (is_some-map (λ v. json_of (view v)) _) ∙ ap is_some (look-pairs name es) ∙ is_some-look name (pairs es)

-- lists of different lengths are not equal
pub same_items-lengths : (xs ys : List Value) → length xs ≢ length ys → false ≡ same_items (json_of_values xs) (json_of_values ys)
same_items-lengths [] [] h = absurd (h refl)
same_items-lengths [] (y ∷ ys) h = refl
same_items-lengths (x ∷ xs) [] h = refl
same_items-lengths (x ∷ xs) (y ∷ ys) h =
    let b = same (json_of (view x)) (json_of (view y)) in
    sym (and-false b) ∙ ap (λ r. b && r) (same_items-lengths xs ys (λ e. h (ap suc e)))

pub length-items : (xs : List Value) → length xs ≡ length (elements (json_of_values xs))
length-items [] = refl
length-items (x ∷ xs) = ap suc (length-items xs)

pub length-pairs : (es : List Entry) → length es ≡ length (pairs es)
length-pairs [] = refl
length-pairs (e ∷ es) = ap suc (length-pairs es)

pub drop-elements : (n : ℕ) (xs : List Value) → elements (json_of_values (drop n xs)) ≡ drop n (elements (json_of_values xs))
drop-elements zero xs = refl
drop-elements (suc n) [] = refl
drop-elements (suc n) (x ∷ xs) = drop-elements n xs

pub drop-elements_past : (n : ℕ) (xs : List Value) → length xs ≤ n → [] ≡ drop n (elements (json_of_values xs))
drop-elements_past zero [] h = refl
drop-elements_past (suc n) [] h = refl
drop-elements_past zero (x ∷ xs) h = absurd (omega arith)
drop-elements_past (suc n) (x ∷ xs) h = drop-elements_past n xs (omega arith)
