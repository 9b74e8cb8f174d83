-- What is kept of items up to the end of the words, turn by turn.
use Rattle.std.proofs.Common.{◌≡◌, ℕ, zero, suc, ◌<◌, List, [], ◌∷◌, ◌++◌, length, refl, ap, sym, ◌∙◌, arith, ◌==◌, true, false, Result, Ok, Err, append_assoc}
use Rattle.std.proofs.lemmas.Bool.{eqb-true}
use Rattle.std.proofs.lemmas.List.{append-nil}
use Rattle.tokens.specs.declared.token.TokenTree.{TokenTree}
use Rattle.words.specs.declared.stopping.Stop.{Stop}
use Rattle.words.specs.declared.stopping.Stop.TheVariants as stop
use Rattle.words.specs.Words.{Word, words_view}
use Rattle.words.specs.Reading.{Fault, deep, wrong, Read, ◌>>=◌, Fails}
use Rattle.words.specs.Lists.{many_at, many_of, with_front}
use Rattle.words.proofs.Turns.{length_view}

pub ends : (ts : List TokenTree) → (length ts == 0) ≡ true → length (words_view ts) ≡ 0
ends ts e = length_view ts ∙ eqb-true (length ts) 0 e

pub goes_on : (ts : List TokenTree) → (length ts == 0) ≡ false → 0 < length (words_view ts)
goes_on [] e = cc
goes_on (t ∷ ts) e = omega arith

-- what is read leaves fewer words
abbrev pub Shortens : {A : Type 0} → (List Word → Read A) → Type 0
Shortens {A} item = (ws : List Word) (x : A) (rest : List Word) → item ws ≡ Ok (x, rest) → length rest < length ws

module _ {A B : Type 0} (keep : A → List B) (item : List Word → Read A) (shortens : Shortens item) where
  same_turn : (again other : List Word → Result (List B) Fault) (ws : List Word) (r : Read A) → item ws ≡ r → ((mid : List Word) → length mid < length ws → again mid ≡ other mid)
      → (r >>= λ p. again p.1 >>= λ xs. Ok (keep p.0 ++ xs)) ≡ (r >>= λ p. other p.1 >>= λ xs. Ok (keep p.0 ++ xs))
  same_turn again other ws (Err f) e h = refl
  same_turn again other ws (Ok p) e h = ap (λ v. v >>= λ xs. Ok (keep p.0 ++ xs)) (h p.1 (shortens ws p.0 p.1 e))

  enough : (n m : ℕ) (ws : List Word) → length ws < n → length ws < m → many_at keep item n ws ≡ many_at keep item m ws
  unfolding many_at
  enough zero m ws a b = absurd (omega arith)
  enough (suc n) zero ws a b = absurd (omega arith)
  enough (suc n) (suc m) [] a b = refl
  enough (suc n) (suc m) (w ∷ ws) a b = same_turn (many_at keep item n) (many_at keep item m) (w ∷ ws) (item (w ∷ ws)) refl (λ mid less. enough n m mid (omega arith) (omega arith))

  pub many_none : (ws : List Word) → length ws ≡ 0 → many_of keep item ws ≡ Ok []
  unfolding many_of many_at
  many_none [] e = refl
  many_none (w ∷ ws) e = absurd (omega arith)

  pub many_more : (ws : List Word) → 0 < length ws → many_of keep item ws ≡ (item ws >>= λ p. many_of keep item p.1 >>= λ xs. Ok (keep p.0 ++ xs))
  unfolding many_of many_at
  many_more [] h = absurd (omega arith)
  many_more (w ∷ ws) h =
      same_turn (many_at keep item (suc (length ws))) (many_of keep item) (w ∷ ws) (item (w ∷ ws)) refl (λ mid less. enough (suc (length ws)) (suc (length mid)) mid (omega arith) (omega arith))

-- a loop over items, turn by turn: what it has, and then what is read of the words that are left, is what is read of all
pub record SoFar {A B : Type 0} (keep : A → List B) (item : List Word → Read A) (front : List B) (ws : List Word) (whole : Result (List B) Fault) : Type 0 where
  pub bound : ℕ
  pub fits : length ws < bound
  pub reads : with_front front (many_at keep item bound ws) ≡ whole

module _ {A B : Type 0} (keep : A → List B) (item : List Word → Read A) where
  abbrev behind : ℕ → Read A → Result (List B) Fault
  behind n r = r >>= λ p. many_at keep item n p.1 >>= λ xs. Ok (keep p.0 ++ xs)

  front_nothing : (r : Result (List B) Fault) → with_front [] r ≡ r
  front_nothing (Ok xs) = refl
  front_nothing (Err f) = refl

  regroup : (front ys : List B) (r : Result (List B) Fault) → with_front (front ++ ys) r ≡ with_front front (r >>= λ xs. Ok (ys ++ xs))
  regroup front ys (Ok xs) = ap (λ v. Ok v) (append_assoc front ys xs)
  regroup front ys (Err f) = refl

  pub many_start : (ws : List Word) → SoFar keep item [] ws (many_of keep item ws)
  unfolding many_of
  many_start ws = record { bound = suc (length ws); fits = omega arith; reads = front_nothing (many_at keep item (suc (length ws)) ws) }

  module _ (front : List B) (ws : List Word) (whole : Result (List B) Fault) where
    turned : (n : ℕ) (r : Read A) → length ws < n → 0 < length ws → item ws ≡ r → with_front front (many_at keep item n ws) ≡ whole → (m : ℕ) × (n ≡ suc m) × (with_front front (behind m r) ≡ whole)
    unfolding many_at
    turned n r l h f so = at n ws l h f so
      where
        at : (n : ℕ) (us : List Word) → length us < n → 0 < length us → item us ≡ r → with_front front (many_at keep item n us) ≡ whole → (m : ℕ) × (n ≡ suc m) × (with_front front (behind m r) ≡ whole)
        at n [] l h f so = absurd (omega arith)
        at zero (w ∷ us) l h f so = absurd (omega arith)
        at (suc m) (w ∷ us) l h f so = (m, refl, ap (λ v. with_front front (behind m v)) (sym f) ∙ so)

    pub many_done : SoFar keep item front ws whole → length ws ≡ 0 → whole ≡ Ok front
    unfolding many_at
    many_done so e = at so.bound ws so.fits e so.reads
      where
        at : (n : ℕ) (us : List Word) → length us < n → length us ≡ 0 → with_front front (many_at keep item n us) ≡ whole → whole ≡ Ok front
        at zero us l e so = absurd (omega arith)
        at (suc n) (w ∷ us) l e so = absurd (omega arith)
        at (suc n) [] l e so = sym so ∙ ap (λ v. Ok v) (append-nil front)

    failed : (f : Fault) → SoFar keep item front ws whole → 0 < length ws → item ws ≡ Err f → whole ≡ Err f
    failed f so h e = sym (turned so.bound (Err f) so.fits h e so.reads).2

    pub many_fails : (s : Stop) → SoFar keep item front ws whole → 0 < length ws → Fails s (item ws) → Fails s whole
    many_fails stop.Memory so h e = tt
    many_fails stop.Ended so h e = failed wrong so h e
    many_fails (stop.Unexpected at) so h e = failed wrong so h e
    many_fails (stop.Deep at) so h e = failed (deep at) so h e

    pub many_turn : (x : A) (us : List Word) → SoFar keep item front ws whole → length us < length ws → item ws ≡ Ok (x, us) → SoFar keep item (front ++ keep x) us whole
    many_turn x us so less e =
        let r = turned so.bound (Ok (x, us)) so.fits (omega (arith, less)) e so.reads in
        record { bound = r.0; fits = omega (arith, less, so.fits, r.1); reads = regroup front (keep x) (many_at keep item r.0 us) ∙ r.2 }
