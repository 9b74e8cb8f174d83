-- Lists of two words.
use Rattle.std.proofs.Common.{◌≡◌, ◌∙◌, ◌<◌, ◌≤◌, ℕ, List, [], ◌∷◌, length, map, get_or, sym, ap, codes, Option, None, Some, MatchOption, String, Global, string_bytes, arith}
use Rattle.std.specs.Fmt.{decimal}
use Rattle.std.proofs.lemmas.List.{length-map}
use Rattle.samples.specs.Samples.{most_declarations}
use Rattle.schema_gen.specs.declared.size.SampleSize.{SampleSize}
use Rattle.schema_gen.specs.Words.{IsSample}

two_texts : (words : List (String Global)) (a b : String Global) → length words ≡ 2 → a ≡ get_or words 0 a → b ≡ get_or words 1 b → map string_bytes words ≡ string_bytes a ∷ string_bytes b ∷ []
two_texts [] a b two first second = absurd (omega arith)
two_texts (x ∷ []) a b two first second = absurd (omega arith)
two_texts (x ∷ y ∷ []) a b two first second = cc
two_texts (x ∷ y ∷ z ∷ ws) a b two first second = absurd (omega arith)

-- a list of two words is known by their bytes
pub two_words : (words : List (String Global)) (texts : List (List ℕ)) (a b : String Global) (x y : List ℕ) → map string_bytes words ≡ texts → length words ≡ 2
    → a ≡ get_or words 0 a → b ≡ get_or words 1 b → string_bytes a ≡ x → y ≡ string_bytes b → texts ≡ x ∷ y ∷ []
two_words words texts a b x y view two first second a_is b_is =
    let whole : map string_bytes words ≡ string_bytes a ∷ string_bytes b ∷ [] = two_texts words a b two first second in
    cc

-- a list of another length is not two words
pub not_two : (words : List (String Global)) (texts : List (List ℕ)) (a b : List ℕ) → map string_bytes words ≡ texts → ¬ (length words ≡ 2) → texts ≡ a ∷ b ∷ [] → ⊥
not_two words texts a b view other e = other (simp length-map at (ap length (view ∙ e)))

-- behind `sample`, the size that the second word says
pub sized : (words : List (List ℕ)) (text : List ℕ) (found : Option SampleSize) → words ≡ codes "sample" ∷ text ∷ []
    → MatchOption found ((n : ℕ) → 0 < n → n ≤ most_declarations → ¬ (text ≡ decimal n)) (λ size. text ≡ decimal size.many) → MatchOption found ((n : ℕ) → ¬ (IsSample words n)) (λ size. IsSample words size.many)
unfolding IsSample
sized words text None are said = λ n samples. said n samples.1 samples.2 (let same = sym are ∙ samples.0 in cc)
sized words text (Some size) are said = (are ∙ ap (λ t. codes "sample" ∷ t ∷ []) said, size.some, size.few)
