-- Lists of three words.
use Rattle.std.proofs.Common.{◌≡◌, ℕ, List, [], ◌∷◌, length, map, get_or, Bool, true, false, not, IsTrue, bytes_eq, String, Global, string_bytes, refl, ap, ◌∙◌, arith}
use Rattle.std.proofs.lemmas.Slice.Eq.{bytes_eq-Decides}
use Rattle.std.proofs.lemmas.List.{length-map}

three_texts : (words : List (String Global)) (a b c : String Global) → length words ≡ 3 → a ≡ get_or words 0 a → b ≡ get_or words 1 b → c ≡ get_or words 2 c
    → map string_bytes words ≡ string_bytes a ∷ string_bytes b ∷ string_bytes c ∷ []
three_texts [] a b c three first second third = absurd (omega arith)
three_texts (x ∷ []) a b c three first second third = absurd (omega arith)
three_texts (x ∷ y ∷ []) a b c three first second third = absurd (omega arith)
three_texts (x ∷ y ∷ z ∷ []) a b c three first second third = cc
three_texts (x ∷ y ∷ z ∷ w ∷ ws) a b c three first second third = absurd (omega arith)

-- a list of three words is known by their bytes
pub three_words : (words : List (String Global)) (texts : List (List ℕ)) (a b c : String Global) (x y z : List ℕ) → map string_bytes words ≡ texts → length words ≡ 3
    → a ≡ get_or words 0 a → b ≡ get_or words 1 b → c ≡ get_or words 2 c → string_bytes a ≡ x → string_bytes b ≡ y → z ≡ string_bytes c → texts ≡ x ∷ y ∷ z ∷ []
three_words words texts a b c x y z view three first second third a_is b_is c_is =
    let whole : map string_bytes words ≡ string_bytes a ∷ string_bytes b ∷ string_bytes c ∷ [] = three_texts words a b c three first second third in
    cc

-- a list of another length is not three words
pub not_three : (words : List (String Global)) (texts : List (List ℕ)) (a b c : List ℕ) → map string_bytes words ≡ texts → ¬ (length words ≡ 3) → texts ≡ a ∷ b ∷ c ∷ [] → ⊥
not_three words texts a b c view other e = other (simp length-map at (ap length (view ∙ e)))

-- the first and the second word's bytes
pub first_text : (words : List (String Global)) (a : String Global) (x : List ℕ) (rest : List (List ℕ)) → a ≡ get_or words 0 a → map string_bytes words ≡ x ∷ rest → string_bytes a ≡ x
first_text [] a x rest first e = cc
first_text (w ∷ ws) a x rest first e = cc

pub second_text : (words : List (String Global)) (b : String Global) (x y : List ℕ) (rest : List (List ℕ)) → b ≡ get_or words 1 b → map string_bytes words ≡ x ∷ y ∷ rest → string_bytes b ≡ y
second_text [] b x y rest second e = cc
second_text (w ∷ []) b x y rest second e = cc
second_text (w ∷ v ∷ ws) b x y rest second e = cc

not_false : (same differ : Bool) → differ ≡ not same → differ ≡ false → IsTrue same
not_false true differ e f = refl
not_false false differ e f = cc

not_true : (same differ : Bool) → differ ≡ not same → IsTrue differ → IsTrue same → ⊥
not_true true differ e t s = cc
not_true false differ e t s = cc

-- what a test that two texts differ says
pub same_bytes : (a b : List ℕ) (differ : Bool) → differ ≡ not (bytes_eq a b) → differ ≡ false → a ≡ b
same_bytes a b differ test unlike = (bytes_eq-Decides a b).0 (not_false (bytes_eq a b) differ test unlike)

pub other_bytes : (a b : List ℕ) (differ : Bool) → differ ≡ not (bytes_eq a b) → IsTrue differ → a ≡ b → ⊥
other_bytes a b differ test differs same = not_true (bytes_eq a b) differ test differs ((bytes_eq-Decides a b).1 same)
