-- The members of a map, written at the places of their names.
use Rattle.std.proofs.Common.{ℕ, zero, suc, ◌+◌, ◌<◌, ◌≤◌, arith, Bool, true, false, List, [], ◌∷◌, ◌++◌, Bor, ◌≡◌, refl, ap, sym, subst, ◌∙◌, length, map, drop, get_or, nat_cmp, Ordering, Less, Equal, Greater}
use Rattle.std.specs.BTreeMap.{insert_entry}
use Rattle.std.specs.Cmp.Lexicographic.{slice_cmp}
use Rattle.std.specs.List.{AllByRecursion}
use Rattle.std.specs.Ordering.{match_ordering}
use Rattle.std.proofs.lemmas.List.{append_assoc, length-append}
use Rattle.json.specs.Print.{quoted}
use Rattle.serde_json.specs.Written.{compact_text, members_text, comma_if}
use Rattle.acceptance.specs.Json.{Json, null, Members, no_members, member, put, put_all, map_of}
use Rattle.acceptance.specs.Data.{data_of, members_data}
use Rattle.schema_trees.specs.Held.{IsHeld}
use Rattle.schema_core.specs.Writes.{places_from}
use Rattle.schema_core.proofs.Held.{AreValuesHeld, values_held}

abbrev Place : Type 0
Place = List ℕ × ℕ

abbrev pub place_of : Bor (List ℕ) × ℕ → List ℕ × ℕ
place_of e = (e.0.now, e.1)

abbrev pub compare_names : Bor (List ℕ) → Bor (List ℕ) → Ordering
compare_names k l = slice_cmp nat_cmp k.now l.now

-- the value at a place
abbrev pub value_at : List (List ℕ × Json) → ℕ → Json
value_at [] i = null
value_at (e ∷ es) zero = e.1
value_at (e ∷ es) (suc i) = value_at es i

-- the entries at the places, as members of an object, with the closing bracket
abbrev pub placed_text : Bool → List (List ℕ × Json) → List (List ℕ × ℕ) → List ℕ
placed_text later es [] = 125 ∷ []
placed_text later es (p ∷ ps) = comma_if later ++ (quoted p.0 ++ 58 ∷ (compact_text (data_of (value_at es p.1)) ++ placed_text true es ps))

pub placed_step : (later : Bool) (es : List (List ℕ × Json)) (p : Place) (rest : List Place) (a b c d e : List ℕ) → b ≡ a ++ comma_if later → c ≡ b ++ quoted p.0 → d ≡ c ++ 58 ∷ [] →
    e ≡ d ++ compact_text (data_of (value_at es p.1)) → e ++ placed_text true es rest ≡ a ++ placed_text later es (p ∷ rest)
placed_step later es p rest a b c d e f g h k =
    let comma = comma_if later in
    let key = quoted p.0 in
    let value = compact_text (data_of (value_at es p.1)) in
    let more = placed_text true es rest in
    ap (λ t. t ++ more) (k ∙ ap (λ t. t ++ value) (h ∙ ap (λ t. t ++ 58 ∷ []) (g ∙ ap (λ t. t ++ key) f)))
    ∙ append_assoc (((a ++ comma) ++ key) ++ 58 ∷ []) value more ∙ append_assoc ((a ++ comma) ++ key) (58 ∷ []) (value ++ more)
    ∙ append_assoc (a ++ comma) key (58 ∷ (value ++ more)) ∙ append_assoc a comma (key ++ 58 ∷ (value ++ more))

abbrev placed_members : List (List ℕ × Json) → List Place → Members
placed_members es [] = no_members
placed_members es (p ∷ ps) = member p.0 (value_at es p.1) (placed_members es ps)

members-placed : (later : Bool) (es : List (List ℕ × Json)) (ps : List Place) → placed_text later es ps ≡ members_text later (members_data (placed_members es ps))
members-placed later es [] = refl
members-placed later es (p ∷ ps) = ap (λ t. comma_if later ++ (quoted p.0 ++ 58 ∷ (compact_text (data_of (value_at es p.1)) ++ t))) (members-placed true es ps)

placed-insert : (es : List (List ℕ × Json)) (ps : List Place) (k : List ℕ) (i : ℕ) → placed_members es (insert_entry (slice_cmp nat_cmp) ps k i) ≡ put k (value_at es i) (placed_members es ps)
placed-insert es [] k i = refl
placed-insert es (p ∷ ps) k i = by (slice_cmp nat_cmp k p.0) (placed-insert es ps k i)
  where
    x : Json
    x = value_at es i

    y : Json
    y = value_at es p.1

    ms : Members
    ms = placed_members es ps

    by : (o : Ordering) → placed_members es (insert_entry (slice_cmp nat_cmp) ps k i) ≡ put k x ms →
        placed_members es (match_ordering o ((k, i) ∷ p ∷ ps) ((p.0, i) ∷ ps) (p ∷ insert_entry (slice_cmp nat_cmp) ps k i))
        ≡ match_ordering o (member k x (member p.0 y ms)) (member p.0 x ms) (member p.0 y (put k x ms))
    by Less h = refl
    by Equal h = refl
    by Greater h = ap (member p.0 y) h

value_at-middle : (before : List (List ℕ × Json)) (e : List ℕ × Json) (rest : List (List ℕ × Json)) → value_at (before ++ e ∷ rest) (length before) ≡ e.1
value_at-middle [] e rest = refl
value_at-middle (b ∷ before) e rest = value_at-middle before e rest

placed-all : (es before rest : List (List ℕ × Json)) (n : ℕ) (ps : List Place) → es ≡ before ++ rest → n ≡ length before →
    placed_members es (places_from n (map (λ e. e.0) rest) ps) ≡ put_all rest (placed_members es ps)
placed-all es before [] n ps w l = refl
placed-all es before (e ∷ rest) n ps w l =
    let here : value_at es n ≡ e.1 = ap (λ xs. value_at xs n) w ∙ ap (value_at (before ++ e ∷ rest)) l ∙ value_at-middle before e rest in
    placed-all es (before ++ e ∷ []) rest (suc n) (insert_entry (slice_cmp nat_cmp) ps e.0 n) (w ∙ sym (append_assoc before (e ∷ []) rest)) (omega (arith, length-append before (e ∷ []), l))
    ∙ ap (put_all rest) (placed-insert es ps e.0 n ∙ ap (λ x. put e.0 x (placed_members es ps)) here)

pub places_text : (es : List (List ℕ × Json)) → placed_text false es (places_from 0 (map (λ e. e.0) es) []) ≡ members_text false (members_data (put_all es no_members))
places_text es =
    members-placed false es (places_from 0 (map (λ e. e.0) es) []) ∙ ap (λ ms. members_text false (members_data ms)) (placed-all es [] es 0 [] refl refl)

-- each value at the places can be held
abbrev pub ArePlacedHeld : List (List ℕ × Json) → List (List ℕ × ℕ) → Type 0
ArePlacedHeld es ps = AllByRecursion (λ p. IsHeld (value_at es p.1)) ps

placed_held : (es : List (List ℕ × Json)) (ps : List Place) → ArePlacedHeld es ps → AreValuesHeld (placed_members es ps)
placed_held es [] h = (tt, tt)
placed_held es (p ∷ ps) h = let rest = placed_held es ps h.1 in ((h.0.0, rest.0), (h.0.1, rest.1))

pub places_held : (es : List (List ℕ × Json)) → ArePlacedHeld es (places_from 0 (map (λ e. e.0) es) []) → IsHeld (map_of es)
places_held es h = values_held es (subst AreValuesHeld (placed-all es [] es 0 [] refl refl) (placed_held es (places_from 0 (map (λ e. e.0) es) []) h))

-- ---- each place is one of the list

inserted_below : (n : ℕ) (ps : List Place) (k : List ℕ) (i : ℕ) → AllByRecursion (λ p. p.1 < n) ps → i < n → AllByRecursion (λ p. p.1 < n) (insert_entry (slice_cmp nat_cmp) ps k i)
inserted_below n [] k i h l = (l, tt)
inserted_below n (p ∷ ps) k i h l = by (slice_cmp nat_cmp k p.0) (inserted_below n ps k i h.1 l)
  where
    by : (o : Ordering) → AllByRecursion (λ p. p.1 < n) (insert_entry (slice_cmp nat_cmp) ps k i) →
        AllByRecursion (λ p. p.1 < n) (match_ordering o ((k, i) ∷ p ∷ ps) ((p.0, i) ∷ ps) (p ∷ insert_entry (slice_cmp nat_cmp) ps k i))
    by Less g = (l, h)
    by Equal g = (l, h.1)
    by Greater g = (h.0, g)

pub places_below : (n i : ℕ) (ks : List (List ℕ)) (ps : List Place) → AllByRecursion (λ p. p.1 < n) ps → i + length ks ≤ n → AllByRecursion (λ p. p.1 < n) (places_from i ks ps)
places_below n i [] ps h l = h
places_below n i (k ∷ ks) ps h l = places_below n (suc i) ks (insert_entry (slice_cmp nat_cmp) ps k i) (inserted_below n ps k i h (omega arith)) (omega arith)

-- ---- the map that keeps them

places-insert : (es : List (Bor (List ℕ) × ℕ)) (k : Bor (List ℕ)) (i : ℕ) → map place_of (insert_entry compare_names es k i) ≡ insert_entry (slice_cmp nat_cmp) (map place_of es) k.now i
places-insert [] k i = refl
places-insert (e ∷ es) k i = by (compare_names k e.0) (places-insert es k i)
  where
    by : (o : Ordering) → map place_of (insert_entry compare_names es k i) ≡ insert_entry (slice_cmp nat_cmp) (map place_of es) k.now i →
        map place_of (match_ordering o ((k, i) ∷ e ∷ es) ((e.0, i) ∷ es) (e ∷ insert_entry compare_names es k i))
        ≡ match_ordering o ((k.now, i) ∷ place_of e ∷ map place_of es) ((e.0.now, i) ∷ map place_of es) (place_of e ∷ insert_entry (slice_cmp nat_cmp) (map place_of es) k.now i)
    by Less h = refl
    by Equal h = refl
    by Greater h = ap (λ t. place_of e ∷ t) h

drop_one : {V : Type 0} (ps : List (List ℕ × V)) (i : ℕ) (p : List ℕ × V) → i < length ps → p ≡ get_or ps i p → map (λ q. q.0) (drop i ps) ≡ p.0 ∷ map (λ q. q.0) (drop (suc i) ps)
drop_one [] i p l h = absurd (omega arith)
drop_one (q ∷ ps) zero p l h = ap (λ r. r.0 ∷ map (λ q. q.0) ps) (sym h)
drop_one (q ∷ ps) (suc i) p l h = drop_one ps i p (omega arith) h

pub places_step : {V : Type 0} (ps : List (List ℕ × V)) (i : ℕ) (p : List ℕ × V) → i < length ps → p ≡ get_or ps i p → (k : Bor (List ℕ)) → k.now ≡ p.0 → (old new : List (Bor (List ℕ) × ℕ)) →
    new ≡ insert_entry compare_names old k i → places_from (i + 1) (map (λ q. q.0) (drop (i + 1) ps)) (map place_of new) ≡ places_from i (map (λ q. q.0) (drop i ps)) (map place_of old)
places_step ps i p l h k named old new e =
    let next : i + 1 ≡ suc i = omega arith in
    ap (λ n. places_from n (map (λ q. q.0) (drop n ps)) (map place_of new)) next
    ∙ ap (places_from (suc i) (map (λ q. q.0) (drop (suc i) ps))) (ap (map place_of) e ∙ places-insert old k i ∙ ap (λ m. insert_entry (slice_cmp nat_cmp) (map place_of old) m i) named)
    ∙ ap (λ ks. places_from i ks (map place_of old)) (sym (drop_one ps i p l h))
