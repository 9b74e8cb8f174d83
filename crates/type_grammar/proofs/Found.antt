-- What a reading gave, taken apart.
use Rattle.std.proofs.Common.{◌≡◌, ◌⊎◌, inl, inr, List, [], ◌∷◌, refl, ap, subst, ◌∙◌, cond, Bool, true, false, Option, Some, Ok, Err, Result}
use Rattle.words.specs.Words.{Word}
use Rattle.words.specs.Reading.{Read, Fault}
use Rattle.type_grammar.specs.Reading.{is_end, all}

pub either : {A : Type 0} {x y z : A} → (b : Bool) → cond b x y ≡ z → ((b ≡ true) × (x ≡ z)) ⊎ ((b ≡ false) × (y ≡ z))
either true e = inl (refl, e)
either false e = inr (refl, e)

pub along : {A B : Type 0} (P : A → B → Type 0) (a c : A) (b d : B) → ◌≡◌ {A = Result (A × B) Fault} (Ok (a, b)) (Ok (c, d)) → P a b → P c d
along {A = A} {B = B} P a c b d e h =
    let pairs : ◌≡◌ {A = A × B} (a, b) (c, d) = cc in
    let first : a ≡ c = ap (λ p. p.0) pairs in
    let second : b ≡ d = ap (λ p. p.1) pairs in
    subst (λ v. P v d) first (subst (λ w. P a w) second h)

pub along_some : {A B : Type 0} (P : A → B → Type 0) (a c : A) (b d : B) → ◌≡◌ {A = Option (A × B)} (Some (a, b)) (Some (c, d)) → P a b → P c d
along_some {A = A} {B = B} P a c b d e h =
    let pairs : ◌≡◌ {A = A × B} (a, b) (c, d) = cc in
    let first : a ≡ c = ap (λ p. p.0) pairs in
    let second : b ≡ d = ap (λ p. p.1) pairs in
    subst (λ v. P v d) first (subst (λ w. P a w) second h)

-- at a value of two parts
pub along_three : {A B C : Type 0} (P : A → B → C → Type 0) (a c : A) (i j : B) (b d : C) → ◌≡◌ {A = Result ((A × B) × C) Fault} (Ok ((a, i), b)) (Ok ((c, j), d)) → P a i b → P c j d
along_three {A = A} {B = B} {C = C} P a c i j b d e h = along (λ v w. P v.0 v.1 w) (a, i) (c, j) b d e h

pub is_end-is : (ws : List Word) → is_end ws ≡ true → ws ≡ []
is_end-is [] e = refl
is_end-is (w ∷ ws) e = cc

pub goes_on-is : (ws : List Word) → is_end ws ≡ false → (w : Word) × (us : List Word) × (ws ≡ w ∷ us)
goes_on-is [] e = cc
goes_on-is (w ∷ ws) e = (w, ws, refl)

pub all-is : {A : Type 0} (r : Read A) (x : A) → all r ≡ Ok x → r ≡ Ok (x, [])
all-is (Err k) x e = cc
all-is (Ok p) x e =
    elim (either (is_end p.1) e) [
      | inl h ↦ let ended = is_end-is p.1 h.0 in let same : p.0 ≡ x = cc in ap (λ v. Ok (v, p.1)) same ∙ ap (λ v. Ok (x, v)) ended
      | inr h ↦ cc
    ]
