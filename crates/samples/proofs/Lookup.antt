-- Where the names of a sample are looked up.
use Rattle.std.proofs.Common.{◌≡◌, ℕ, zero, suc, ◌+◌, ◌<◌, ◌≤◌, ◌^◌, map, refl, ap, ◌∙◌, arith, true, false, ◌||◌, cond, bytes_eq, Some, option_map}
use Rattle.std.specs.Fmt.{decimal}
use Rattle.std.specs.List.{range_with_len}
use Rattle.std.proofs.lemmas.Bool.{false_from_ne_true}
use Rattle.std.proofs.lemmas.Fmt.{decimal_injective}
use Rattle.std.proofs.lemmas.Slice.Eq.{bytes_eq-Decides}
use Rattle.texts.specs.Names.{is_in, IsDistinct, place_in}
use Rattle.samples.specs.Rings.{name}

-- a name is of one number
one_name : (i j : ℕ) → i < 2 ^ 64 → j < 2 ^ 64 → name i ≡ name j → i ≡ j
one_name i j few less same = decimal_injective i j few less (let digits : decimal i ≡ decimal j = cc in digits)

same_name : (i : ℕ) → bytes_eq (name i) (name i) ≡ true
same_name i = (bytes_eq-Decides (name i) (name i)).1 refl

other_name : (i j : ℕ) → ¬ (i ≡ j) → i ≤ 1000 → j ≤ 1000 → bytes_eq (name i) (name j) ≡ false
other_name i j differ few less =
    false_from_ne_true (bytes_eq (name i) (name j))
    (λ same. differ (one_name i j (omega arith) (omega arith) ((bytes_eq-Decides (name i) (name j)).0 same)))

-- the name of a number is found at its place
pub name_placed : (a n k : ℕ) → a + n ≤ 1000 → k < n → place_in (name (a + k)) (map name (range_with_len a n)) ≡ Some k
name_placed a zero k few less = absurd (omega arith)
name_placed a (suc n) zero few less =
    let here : a + 0 ≡ a = omega arith in
    ap (λ v. cond (bytes_eq (name v) (name a)) (Some 0) (option_map suc (place_in (name v) (map name (range_with_len (a + 1) n))))) here
    ∙ ap (λ b. cond b (Some 0) (option_map suc (place_in (name a) (map name (range_with_len (a + 1) n))))) (same_name a)
name_placed a (suc n) (suc k) few less =
    let others = place_in (name (a + suc k)) (map name (range_with_len (a + 1) n)) in
    let behind : a + suc k ≡ a + 1 + k = omega arith in
    ap (λ b. cond b (Some 0) (option_map suc others)) (other_name (a + suc k) a (λ e. omega (arith, e)) (omega arith) (omega arith))
    ∙ ap (option_map suc) (ap (λ v. place_in (name v) (map name (range_with_len (a + 1) n))) behind ∙ name_placed (a + 1) n k (omega arith) (omega arith))

not_behind : (i a n : ℕ) → i < a → a + n ≤ 1000 → is_in (name i) (map name (range_with_len a n)) ≡ false
not_behind i a zero less few = refl
not_behind i a (suc n) less few =
    ap (λ b. b || is_in (name i) (map name (range_with_len (a + 1) n))) (other_name i a (λ e. omega (arith, e)) (omega arith) (omega arith)) ∙ not_behind i (a + 1) n (omega arith) (omega arith)

-- no name is given twice
pub names_distinct : (a n : ℕ) → a + n ≤ 1000 → IsDistinct (map name (range_with_len a n))
names_distinct a zero few = tt
names_distinct a (suc n) few = (not_behind a (a + 1) n (omega arith) (omega arith), names_distinct (a + 1) n (omega arith))
