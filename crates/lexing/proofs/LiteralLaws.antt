-- Literals beside the other pieces.
use Rattle.std.proofs.Common.{◌≡◌, ℕ, ◌<◌, ◌⊎◌, inl, inr, List, [], ◌∷◌, ◌++◌, length, refl, ap, sym, ◌∙◌, arith, Bool, true, false, ◌||◌, Option, Some, None, length-append}
use Rattle.std.specs.List.{list_any}
use Rattle.literals.specs.Literals.{IsLiteral, is_digit, is_quote, begins_literal}
use Rattle.literals.specs.Scanning.{literal_at}
use Rattle.literals.proofs.Laws.{literal_sound, literal_begins}

-- ---- no literal begins with the character
no_front : (c : ℕ) (cs front rest : List ℕ) → begins_literal c ≡ false → c ∷ cs ≡ front ++ rest → IsLiteral front → ⊥
no_front c cs [] rest b e h = literal_begins [] h
no_front c cs (d ∷ ds) rest b e h =
    let heads : c ≡ d = cc in
    let begins : begins_literal d ≡ true = (literal_begins (d ∷ ds) h).1 in
    let fails : begins_literal d ≡ false = ap begins_literal (sym heads) ∙ b in
    cc

none_found : (c : ℕ) (cs : List ℕ) → begins_literal c ≡ false → (found : Option (List ℕ)) → literal_at (c ∷ cs) ≡ found → literal_at (c ∷ cs) ≡ None
none_found c cs b None e = e
none_found c cs b (Some rest) e = let sound = literal_sound (c ∷ cs) rest e in absurd (no_front c cs sound.0 rest b sound.1 sound.2)

pub no_literal_at : (c : ℕ) (cs : List ℕ) → begins_literal c ≡ false → literal_at (c ∷ cs) ≡ None
no_literal_at c cs b = none_found c cs b (literal_at (c ∷ cs)) refl

-- ---- a literal that begins with a word is longer than it
-- of two fronts of a text, either the first is longer or it begins the second
two_fronts : (front rest long less : List ℕ) → front ++ rest ≡ long ++ less → (length rest < length less) ⊎ ((tail : List ℕ) × (long ≡ front ++ tail))
two_fronts [] rest long less e = inr (long, refl)
two_fronts (c ∷ cs) rest [] less e = let longer = ap length e in inl (omega (arith, longer, length-append cs rest))
two_fronts (c ∷ cs) rest (d ∷ ds) less e =
    let heads : c ≡ d = cc in
    let tails : cs ++ rest ≡ ds ++ less = cc in
    elim (two_fronts cs rest ds less tails) [
      | inl h ↦ inl h
      | inr h ↦ inr (h.0, ap (λ v. d ∷ v) h.1 ∙ ap (λ v. v ∷ (cs ++ h.0)) (sym heads))
    ]

or_kept : (a b c : Bool) → (a || b) ≡ true → (b ≡ true → c ≡ true) → (a || c) ≡ true
or_kept true b c h k = refl
or_kept false b c h k = k h

any_in_front : (q : ℕ → Bool) (front rest : List ℕ) → list_any q front ≡ true → list_any q (front ++ rest) ≡ true
any_in_front q [] rest h = cc
any_in_front q (c ∷ cs) rest h = or_kept (q c) (list_any q cs) (list_any q (cs ++ rest)) h (any_in_front q cs rest)

no_start : (c : ℕ) (cs front tail : List ℕ) → is_digit c ≡ false → list_any is_quote cs ≡ false → IsLiteral front → c ∷ cs ≡ front ++ tail → ⊥
no_start c cs [] tail d q h e = literal_begins [] h
no_start c cs (x ∷ xs) tail d q h e =
    let heads : c ≡ x = cc in
    let tails : cs ≡ xs ++ tail = cc in
    elim ((literal_begins (x ∷ xs) h).0) [
      | inl k ↦ let no : is_digit x ≡ false = ap is_digit (sym heads) ∙ d in cc
      | inr k ↦ let yes : list_any is_quote cs ≡ true = ap (list_any is_quote) tails ∙ any_in_front is_quote xs tail k in cc
    ]

pub literal_longer : (c : ℕ) (cs less rest : List ℕ) → is_digit c ≡ false → list_any is_quote cs ≡ false → literal_at ((c ∷ cs) ++ less) ≡ Some rest → length rest < length less
literal_longer c cs less rest d q e =
    let sound = literal_sound ((c ∷ cs) ++ less) rest e in
    elim (two_fronts sound.0 rest (c ∷ cs) less (sym sound.1)) [
      | inl h ↦ h
      | inr h ↦ absurd (no_start c cs sound.0 h.0 d q sound.2 h.1)
    ]
