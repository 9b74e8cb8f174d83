-- Lists of one word.
use Rattle.std.proofs.Common.{ℕ, List, [], ◌∷◌, length, map, get_or, Bool, false, IsTrue, bytes_eq, String, Global, string_bytes, ◌≡◌, ◌↔◌, sym, ap, ◌∙◌, arith}
use Rattle.std.proofs.lemmas.Slice.Eq.{bytes_eq-Decides}
use Rattle.std.proofs.lemmas.List.{length-map}

-- a list of one word is known by the word's bytes
texts-one : (words : List (String Global)) (word : String Global) → length words ≡ 1 → word ≡ get_or words 0 word → map string_bytes words ≡ string_bytes word ∷ []
texts-one [] word one is = absurd (omega arith)
texts-one (w ∷ []) word one is = ap (λ v. string_bytes v ∷ []) (sym is)
texts-one (v ∷ w ∷ ws) word one is = absurd (omega arith)

same_head : (a b : List ℕ) → a ∷ [] ≡ b ∷ [] → a ≡ b
same_head a b e = cc

-- the test of the one word's bytes decides
pub one_word : (words : List (String Global)) (texts : List (List ℕ)) (word : String Global) (bytes text : List ℕ) (same : Bool) → map string_bytes words ≡ texts → length words ≡ 1
    → word ≡ get_or words 0 word → bytes ≡ string_bytes word → same ≡ bytes_eq bytes text → IsTrue same ↔ (texts ≡ text ∷ [])
one_word words texts word bytes text same view one is bytes_are test =
    let one_text : texts ≡ bytes ∷ [] = sym view ∙ texts-one words word one is ∙ ap (λ b. b ∷ []) (sym bytes_are) in
    (λ t. one_text ∙ ap (λ b. b ∷ []) ((bytes_eq-Decides bytes text).0 (sym test ∙ t)), λ e. test ∙ (bytes_eq-Decides bytes text).1 (same_head bytes text (sym one_text ∙ e)))

-- a list of none or several words is not one word
pub not_one : (words : List (String Global)) (texts : List (List ℕ)) (text : List ℕ) → map string_bytes words ≡ texts → ¬ (length words ≡ 1) → IsTrue false ↔ (texts ≡ text ∷ [])
not_one words texts text view other = (λ t. cc, λ e. absurd (other (simp length-map at (ap length (view ∙ e)))))
