-- Characters in single quotes: the scanner and the definition.
use Rattle.std.proofs.Common.{◌≡◌, ℕ, inl, inr, List, [], ◌∷◌, ◌++◌, refl, ap, sym, subst, ◌∙◌, true, not, ◌||◌, ◌&&◌, ◌==◌, Some, None, append_assoc}
use Rattle.std.proofs.lemmas.Bool.{not-true, eqb-true, and_parts, or_parts}
use Rattle.std.specs.List.{list_all}
use Rattle.literals.specs.Literals.{IsCharacter, plain, escaped, is_not_apostrophe}
use Rattle.literals.specs.Scanning.{after_apostrophe, after_escaped, closed, after_character}
use Rattle.literals.proofs.RunLaws.{neither, either, cond_false, some_same}

-- what stands before the next '
abbrev UpTo : List ℕ → List ℕ → Type 0
UpTo cs rest = (front : List ℕ) × (cs ≡ front ++ 39 ∷ rest) × (list_all is_not_apostrophe front ≡ true)

apostrophe_sound : (cs rest : List ℕ) → after_apostrophe cs ≡ Some rest → UpTo cs rest
apostrophe_sound [] rest e = cc
apostrophe_sound (c ∷ cs) rest e =
    elim (either (c == 39) e) [
      | inl h ↦ let same : cs ≡ rest = some_same h.1 in ([], ap (λ v. v ∷ cs) (eqb-true c 39 h.0) ∙ ap (λ v. 39 ∷ v) same, refl)
      | inr h ↦ let r = apostrophe_sound cs rest h.1 in (c ∷ r.0, ap (λ v. c ∷ v) r.1, ap (λ v. not v && list_all is_not_apostrophe r.0) h.0 ∙ r.2)
    ]

pub apostrophe_reads : (cs rest : List ℕ) → list_all is_not_apostrophe cs ≡ true → after_apostrophe (cs ++ 39 ∷ rest) ≡ Some rest
apostrophe_reads [] rest h = refl
apostrophe_reads (c ∷ cs) rest h =
    let both = and_parts (is_not_apostrophe c) (list_all is_not_apostrophe cs) h in
    cond_false (Some (cs ++ 39 ∷ rest)) (after_apostrophe (cs ++ 39 ∷ rest)) (c == 39) (not-true (c == 39) both.0) ∙ apostrophe_reads cs rest both.1

-- the character whose first ' stands before the text
abbrev Quoted : List ℕ → List ℕ → Type 0
Quoted cs rest = (front : List ℕ) × (39 ∷ cs ≡ front ++ rest) × IsCharacter front

closed_sound : (cs rest : List ℕ) → closed cs ≡ Some rest → cs ≡ 39 ∷ rest
closed_sound [] rest e = cc
closed_sound (c ∷ cs) rest e =
    elim (either (c == 39) e) [
      | inl h ↦ ap (λ v. v ∷ cs) (eqb-true c 39 h.0) ∙ ap (λ v. 39 ∷ v) (some_same h.1)
      | inr h ↦ cc
    ]

escaped_sound : (cs rest : List ℕ) → after_escaped cs ≡ Some rest → Quoted (92 ∷ cs) rest
escaped_sound [] rest e = cc
escaped_sound (c ∷ cs) rest e =
    let r = apostrophe_sound cs rest e in
    (39 ∷ 92 ∷ c ∷ (r.0 ++ 39 ∷ []), ap (λ v. 39 ∷ 92 ∷ c ∷ v) (r.1 ∙ sym (append_assoc r.0 (39 ∷ []) rest)), escaped r.0 r.2)

pub character_sound : (cs rest : List ℕ) → after_character cs ≡ Some rest → Quoted cs rest
character_sound [] rest e = cc
character_sound (c ∷ cs) rest e =
    elim (either (c == 39) e) [
      | inl h ↦ cc
      | inr h ↦
          elim (either (c == 92) h.1) [
            | inl g ↦ subst (λ v. Quoted (v ∷ cs) rest) (sym (eqb-true c 92 g.0)) (escaped_sound cs rest g.1)
            | inr g ↦ (39 ∷ c ∷ 39 ∷ [], ap (λ v. 39 ∷ c ∷ v) (closed_sound cs rest g.1), plain (neither (c == 39) (c == 92) h.0 g.0))
          ]
    ]

-- the text after a first '
abbrev pub AfterQuote : (List ℕ → Type 0) → List ℕ → Type 0
AfterQuote P [] = ⊥
AfterQuote P (c ∷ cs) = (c ≡ 39) × P cs

pub character_reads : (front rest : List ℕ) → IsCharacter front → AfterQuote (λ cs. after_character (cs ++ rest) ≡ Some rest) front
character_reads front rest (plain {c = c} h) =
    let both = or_parts (c == 39) (c == 92) (not-true ((c == 39) || (c == 92)) h) in
    (refl, cond_false None _ (c == 39) both.0 ∙ cond_false (after_escaped (39 ∷ rest)) (closed (39 ∷ rest)) (c == 92) both.1)
character_reads front rest (escaped {c = c} cs h) = (refl, ap (λ v. after_escaped (c ∷ v)) (append_assoc cs (39 ∷ []) rest) ∙ apostrophe_reads cs rest h)
