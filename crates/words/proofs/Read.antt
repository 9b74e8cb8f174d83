-- Parts of readers that went well, and of readers that did not.
use Rattle.std.proofs.Common.{◌≡◌, ◌<◌, ◌⊎◌, inl, inr, List, [], ◌∷◌, length, refl, ap, subst, arith, Option, Some, None, Result, Ok, Err}
use Rattle.texts.specs.declared.span.Span.{Span}
use Rattle.words.specs.Words.{Word}
use Rattle.words.specs.Reading.{Fault, deep, ◌>>=◌, taken, first_as}

pub bind_ok : {A B : Type 0} {f : A → Result B Fault} {y : B} → (r : Result A Fault) → (r >>= f) ≡ Ok y → (x : A) × (r ≡ Ok x) × (f x ≡ Ok y)
bind_ok (Err e) h = cc
bind_ok (Ok x) h = (x, refl, h)

pub bind_err : {A B : Type 0} {f : A → Result B Fault} {y : Fault} → (r : Result A Fault) → (r >>= f) ≡ Err y → (r ≡ Err y) ⊎ ((x : A) × (r ≡ Ok x) × (f x ≡ Err y))
bind_err (Err e) h = inl cc
bind_err (Ok x) h = inr (x, refl, h)

pub ok_is : {A : Type 0} {x y : A} → ◌≡◌ {A = Result A Fault} (Ok x) (Ok y) → x ≡ y
ok_is e = cc

-- what holds of a pair's parts holds of the parts of a pair like it
pub along : {A B : Type 0} (P : A → B → Type 0) (p q : A × B) → ◌≡◌ {A = Result (A × B) Fault} (Ok p) (Ok q) → P p.0 p.1 → P q.0 q.1
along P p q e h = subst (λ v. P v.0 v.1) (ok_is e) h

taken_is : {A : Type 0} (o : Option A) (ws : List Word) (p : A × List Word) → taken o ws ≡ Ok p → (o ≡ Some p.0) × (ws ≡ p.1)
taken_is None ws p e = cc
taken_is (Some x) ws p e = let same : (x, ws) ≡ p = ok_is e in (ap (λ q. Some q.0) same, ap (λ q. q.1) same)

-- the first word is of the kind, and the others follow
pub first_is : {A : Type 0} {kind : Word → Option A} (ws : List Word) (p : A × List Word) → first_as kind ws ≡ Ok p → (w : Word) × (ws ≡ w ∷ p.1) × (kind w ≡ Some p.0)
first_is [] p e = cc
first_is {kind = kind} (w ∷ ws) p e = let h = taken_is (kind w) ws p e in (w, ap (λ v. w ∷ v) h.1, h.0)

pub first_shortens : {A : Type 0} (kind : Word → Option A) (ws : List Word) (p : A × List Word) → first_as kind ws ≡ Ok p → length p.1 < length ws
first_shortens kind ws p e = let h = first_is {kind = kind} ws p e in let l = ap length h.1 in omega arith

taken_shallow : {A : Type 0} (o : Option A) (ws : List Word) (at : Span) → taken o ws ≡ Err (deep at) → ⊥
taken_shallow None ws at e = cc
taken_shallow (Some x) ws at e = cc

-- a single word is never too deep
pub first_shallow : {A : Type 0} (kind : Word → Option A) (ws : List Word) (at : Span) → first_as kind ws ≡ Err (deep at) → ⊥
first_shallow kind [] at e = cc
first_shallow kind (w ∷ ws) at e = taken_shallow (kind w) ws at e
