-- Aliases as they are stored, and how deep they stand in each other.
use Rattle.std.proofs.Common.{◌≡◌, ◌<◌, ◌≤◌, ◌+◌, inl, inr, ◌↔◌, ℕ, zero, suc, List, [], ◌∷◌, ◌++◌, true, false, Option, Some, None, IsTrue, map, length, bytes_eq, refl, sym, ap, ◌∙◌, subst, arith}
use Rattle.std.specs.List.{filter_map, cons_option}
use Rattle.std.specs.Map.{update}
use Rattle.std.proofs.lemmas.Bool.{false≢true}
use Rattle.std.proofs.lemmas.List.{length-map, length_push, map_push}
use Rattle.texts.specs.Names.{place_in}
use Rattle.texts.proofs.Laws.{place-found, places_more}
use Rattle.inlining.specs.declared.order.Depth.{Depth}
use Rattle.inlining.specs.declared.order.Depth.TheVariants.{Within, Beyond}
use Rattle.inlining.specs.Depths.{IsDepth}
use Rattle.inlining.specs.Inlining.{targets_of, IsAmong, AreTargets}
use Rattle.written_types.specs.declared.written.WrittenType.{WrittenType}
use Rattle.written_types.specs.Written.{Written, written_view}
use Rattle.configuration.specs.Configuration.{Alias}
use Rattle.configuration.specs.Aliases.{alias_names, alias_types, last_names, targets, AreDeep, bare}
use Rattle.configuration.specs.Stored.{aliases_of, AreStored}

-- ---- as they are stored

-- the aliases of lists of one length have these names and these types
pub names-of : (ns : List (List ℕ)) (ts : List WrittenType) → length ns ≡ length ts → alias_names (aliases_of ns ts) ≡ ns
names-of [] ts e = refl
names-of (n ∷ ns) [] e = absurd (omega arith)
names-of (n ∷ ns) (t ∷ ts) e = ap (λ ms. n ∷ ms) (names-of ns ts (omega arith))

pub types-of : (ns : List (List ℕ)) (ts : List WrittenType) → length ns ≡ length ts → alias_types (aliases_of ns ts) ≡ map written_view ts
types-of [] [] e = refl
types-of [] (t ∷ ts) e = absurd (omega arith)
types-of (n ∷ ns) [] e = absurd (omega arith)
types-of (n ∷ ns) (t ∷ ts) e = ap (λ us. written_view t ∷ us) (types-of ns ts (omega arith))

map-twice : (f : Written → Written) (ts : List WrittenType) → map (λ t. f (written_view t)) ts ≡ map f (map written_view ts)
map-twice f [] = refl
map-twice f (t ∷ ts) = ap (λ us. f (written_view t) ∷ us) (map-twice f ts)

pub bare-of : (ns : List (List ℕ)) (ts bares : List WrittenType) (place_of : List ℕ → Option ℕ) → AreStored ns ts bares place_of → map written_view bares ≡ map bare (alias_types (aliases_of ns ts))
bare-of ns ts bares place_of s = s.without ∙ map-twice bare ts ∙ ap (map bare) (sym (types-of ns ts s.many))

pub places-of : (ns : List (List ℕ)) (ts bares : List WrittenType) (place_of : List ℕ → Option ℕ) → AreStored ns ts bares place_of → (name : List ℕ) → place_of name ≡ place_in name (alias_names (aliases_of ns ts))
places-of ns ts bares place_of s name = s.places name ∙ ap (place_in name) (sym (names-of ns ts s.many))

-- one alias more
pub aliases-push : (ns : List (List ℕ)) (ts : List WrittenType) (n : List ℕ) (t : WrittenType) → length ns ≡ length ts →
    aliases_of (ns ++ n ∷ []) (ts ++ t ∷ []) ≡ aliases_of ns ts ++ record { name = n; of = written_view t } ∷ []
aliases-push [] [] n t e = refl
aliases-push [] (u ∷ ts) n t e = absurd (omega arith)
aliases-push (m ∷ ns) [] n t e = absurd (omega arith)
aliases-push (m ∷ ns) (u ∷ ts) n t e = ap (λ xs. record { name = m; of = written_view u } ∷ xs) (aliases-push ns ts n t (omega arith))

-- they are stored with one more, whose name is new
pub stored-push : (ns : List (List ℕ)) (ts bares : List WrittenType) (f g : List ℕ → Option ℕ) (n : List ℕ) (t b : WrittenType) → AreStored ns ts bares f → f n ≡ None → written_view b ≡ bare (written_view t) →
    ((k : List ℕ) → g k ≡ update bytes_eq f n (Some (length ns)) k) → AreStored (ns ++ n ∷ []) (ts ++ t ∷ []) (bares ++ b ∷ []) g
stored-push ns ts bares f g n t b s new same grown = record {
  many = length_push ns n ∙ ap (λ m. m + 1) s.many ∙ sym (length_push ts t);
  without = map_push written_view bares b ∙ (λ i. s.without i ++ same i ∷ []) ∙ sym (map_push (λ u. bare (written_view u)) ts t);
  places = places_more ns n f g s.places new grown;
}

-- ---- which stand in which

filter_map-like : (f g : List ℕ → Option ℕ) (ks : List (List ℕ)) → ((k : List ℕ) → f k ≡ g k) → filter_map f ks ≡ filter_map g ks
filter_map-like f g [] e = refl
filter_map-like f g (k ∷ ks) e = λ i. cons_option (e k i) (filter_map-like f g ks e i)

targets-among : (f g : List ℕ → Option ℕ) (ns : List (List ℕ)) (ts : List WrittenType) → ((k : List ℕ) → f k ≡ g k) → length ns ≡ length ts →
    map (λ a. filter_map g (last_names a.of)) (aliases_of ns ts) ≡ map (λ t. filter_map f (last_names (written_view t))) ts
targets-among f g [] [] e l = refl
targets-among f g [] (t ∷ ts) e l = absurd (omega arith)
targets-among f g (n ∷ ns) [] e l = absurd (omega arith)
targets-among f g (n ∷ ns) (t ∷ ts) e l = λ i. sym (filter_map-like f g (last_names (written_view t)) e) i ∷ targets-among f g ns ts e (omega arith) i

-- what is found by the places that are stored
pub targets-stored : (ns : List (List ℕ)) (ts bares given : List WrittenType) (place_of : List ℕ → Option ℕ) (found : List (List ℕ)) (xs : List Alias) → AreStored ns ts bares place_of → aliases_of ns ts ≡ xs → given ≡ ts →
    found ≡ map (λ t. filter_map place_of (last_names (written_view t))) given → targets xs ≡ found
targets-stored ns ts bares given place_of found xs s view same is =
    ap targets (sym view)
    ∙ targets-among place_of (λ name. place_in name (alias_names (aliases_of ns ts))) ns ts (places-of ns ts bares place_of s) s.many
    ∙ ap (map (λ t. filter_map place_of (last_names (written_view t)))) (sym same)
    ∙ sym is

found_for : (f : List ℕ → Option ℕ) (ks : List (List ℕ)) (t : ℕ) → IsAmong t (filter_map f ks) → (k : List ℕ) × (f k ≡ Some t)
found_for f [] t h = absurd h
found_for f (k ∷ ks) t h = by (f k) refl h (found_for f ks t)
  where
    by : (o : Option ℕ) → f k ≡ o → IsAmong t (cons_option o (filter_map f ks)) → (IsAmong t (filter_map f ks) → (k : List ℕ) × (f k ≡ Some t)) → (k : List ℕ) × (f k ≡ Some t)
    by None is h all = all h
    by (Some u) is (inl e) all = (k, is ∙ ap Some (sym e))
    by (Some u) is (inr h) all = all h

target_of : (f : Alias → List ℕ) (xs : List Alias) (d t : ℕ) → IsAmong t (targets_of (map f xs) d) → (a : Alias) × IsAmong t (f a)
target_of f [] d t h = absurd h
target_of f (a ∷ xs) zero t h = (a, h)
target_of f (a ∷ xs) (suc d) t h = target_of f xs d t h

-- what stands in the type of an alias is an alias
pub are_targets : (xs : List Alias) → AreTargets (targets xs)
are_targets xs d t h =
    let f : Alias → List ℕ = λ a. filter_map (λ name. place_in name (alias_names xs)) (last_names a.of) in
    let at : (a : Alias) × IsAmong t (f a) = target_of f xs d t h in
    let found : (k : List ℕ) × (place_in k (alias_names xs) ≡ Some t) = found_for (λ name. place_in name (alias_names xs)) (last_names at.0.of) t at.1 in
    let low : t < length (alias_names xs) = (place-found found.0 (alias_names xs) t found.1).0 in
    let all : length (targets xs) ≡ length xs = length-map xs f in
    let named : length (alias_names xs) ≡ length xs = length-map xs (λ a. a.name) in
    omega arith

-- ---- how deep

-- no deeper than 32, by the targets that were found
pub within : (xs : List Alias) (found : List (List ℕ)) (depth : Depth) (order : List ℕ) → targets xs ≡ found → depth ≡ Within order → IsDepth 32 found depth → IsTrue false ↔ AreDeep xs
within xs found depth order same is h =
    let low : IsDepth 32 (targets xs) (Within order) = subst (λ g. IsDepth 32 g (Within order)) (sym same) (subst (IsDepth 32 found) is h) in
    (λ t. absurd (false≢true t), λ deep. let few : length deep.0 ≤ 32 = low.0 deep.0 deep.1 in absurd (omega (arith, deep.2)))

-- deeper, by these aliases
pub beyond : (xs : List Alias) (found : List (List ℕ)) (depth : Depth) (chain : List ℕ) → targets xs ≡ found → depth ≡ Beyond chain → IsDepth 32 found depth → IsTrue true ↔ AreDeep xs
beyond xs found depth chain same is h =
    let high : IsDepth 32 (targets xs) (Beyond chain) = subst (λ g. IsDepth 32 g (Beyond chain)) (sym same) (subst (IsDepth 32 found) is h) in
    (λ _. (chain, high.0, high.1), λ _. refl)
