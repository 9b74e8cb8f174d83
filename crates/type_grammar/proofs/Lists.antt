-- The reader of a list that ends before a token, turn by turn.
use Rattle.std.proofs.Common.{◌≡◌, ℕ, zero, suc, ◌<◌, List, [], ◌∷◌, ◌++◌, length, refl, ap, sym, ◌∙◌, arith, cond, Bool, true, false, Option, Some, None, Ok, Err, append_assoc}
use Rattle.std.proofs.lemmas.List.{append-nil}
use Rattle.words.specs.declared.vocabulary.Sign.TheVariants.{Comma}
use Rattle.words.specs.declared.stopping.Stop.{Stop}
use Rattle.words.specs.declared.stopping.Stop.TheVariants as stop
use Rattle.words.specs.Words.{Word}
use Rattle.words.specs.Reading.{Read, Fault, deep, wrong, ◌>>=◌, Fails}
use Rattle.words.proofs.Laws.{Shortens}
use Rattle.type_grammar.specs.Reading.{after_sign, list_after, list_step, list_at, list_until, with_front}
use Rattle.type_grammar.proofs.Firsts.{after_sign-shorter}

module _ {A : Type 0} (ends : List Word → Bool) (item : List Word → Read A) (shortens : Shortens item) where
  same_after : (again other : List Word → Read (List A)) (x : A) (us : List Word) (o : Option (List Word)) → ((mid : List Word) → o ≡ Some mid → again mid ≡ other mid) → list_after again x us o ≡ list_after other x us o
  same_after again other x us None h = refl
  same_after again other x us (Some mid) h = ap (λ r. r >>= λ p. Ok (x ∷ p.0, p.1)) (h mid refl)

  same_item : (again other : List Word → Read (List A)) (ws : List Word) (r : Read A) → item ws ≡ r → ((mid : List Word) → length mid < length ws → again mid ≡ other mid)
      → (r >>= λ p. list_after again p.0 p.1 (after_sign Comma p.1)) ≡ (r >>= λ p. list_after other p.0 p.1 (after_sign Comma p.1))
  same_item again other ws (Ok p) e h =
      same_after again other p.0 p.1 (after_sign Comma p.1)
      (λ mid found. let less : length mid < length p.1 = after_sign-shorter Comma p.1 mid found in let fewer : length p.1 < length ws = shortens ws p.0 p.1 e in h mid (omega arith))
  same_item again other ws (Err k) e h = refl

  same_step : (again other : List Word → Read (List A)) (ws : List Word) → ((mid : List Word) → length mid < length ws → again mid ≡ other mid) → list_step ends item again ws ≡ list_step ends item other ws
  same_step again other ws h = ap (λ r. cond (ends ws) (Ok ([], ws)) r) (same_item again other ws (item ws) refl h)

  enough : (n m : ℕ) (ws : List Word) → length ws < n → length ws < m → list_at ends item n ws ≡ list_at ends item m ws
  unfolding list_at
  enough zero m ws a b = absurd (omega arith)
  enough (suc n) zero ws a b = absurd (omega arith)
  enough (suc n) (suc m) ws a b = same_step (list_at ends item n) (list_at ends item m) ws (λ mid less. enough n m mid (omega arith) (omega arith))

  pub list_until_step : (ws : List Word) → list_until ends item ws ≡ list_step ends item (list_until ends item) ws
  unfolding list_until list_at
  list_until_step ws = same_step (list_at ends item (length ws)) (list_until ends item) ws (λ mid less. enough (length ws) (suc (length mid)) mid less (omega arith))

pub list_ends : {A : Type 0} (ends : List Word → Bool) (item : List Word → Read A) (ws : List Word) → ends ws ≡ true → list_until ends item ws ≡ Ok ([], ws)
unfolding list_until list_at
list_ends ends item ws e = ap (λ b. cond b (Ok ([], ws)) (item ws >>= λ p. list_after (list_at ends item (length ws)) p.0 p.1 (after_sign Comma p.1))) e

pub front_front : {A : Type 0} (front : List A) (x : A) (r : Read (List A)) → with_front (front ++ x ∷ []) r ≡ with_front front (r >>= λ p. Ok (x ∷ p.0, p.1))
front_front front x (Ok p) = ap (λ v. Ok (v, p.1)) (append_assoc front (x ∷ []) p.0)
front_front front x (Err k) = refl

-- a loop over a list, turn by turn: what it has, and then what is read of the words that are left, is what is read of all
pub record SoFar {A : Type 0} (ends : List Word → Bool) (item : List Word → Read A) (front : List A) (ws : List Word) (whole : Read (List A)) : Type 0 where
  pub bound : ℕ
  pub fits : length ws < bound
  pub reads : with_front front (list_at ends item bound ws) ≡ whole

module _ {A : Type 0} (ends : List Word → Bool) (item : List Word → Read A) where
  front_nothing : (r : Read (List A)) → with_front [] r ≡ r
  front_nothing (Ok p) = refl
  front_nothing (Err k) = refl

  abbrev behind : ℕ → Read A → Read (List A)
  behind n r = r >>= λ p. list_after (list_at ends item n) p.0 p.1 (after_sign Comma p.1)

  pub list_start : (ws : List Word) → SoFar ends item [] ws (list_until ends item ws)
  unfolding list_until
  list_start ws = record { bound = suc (length ws); fits = omega arith; reads = front_nothing (list_at ends item (suc (length ws)) ws) }

  module _ (front : List A) (ws : List Word) (whole : Read (List A)) where
    turned : (n : ℕ) (r : Read A) → length ws < n → ends ws ≡ false → item ws ≡ r → with_front front (list_at ends item n ws) ≡ whole → (m : ℕ) × (n ≡ suc m) × (with_front front (behind m r) ≡ whole)
    unfolding list_at
    turned zero r less e f so = absurd (omega arith)
    turned (suc m) r less e f so = (m, refl, sym (ap (λ b. with_front front (cond b (Ok ([], ws)) (behind m (item ws)))) e ∙ ap (λ v. with_front front (behind m v)) f) ∙ so)

    done_at : (n : ℕ) → length ws < n → ends ws ≡ true → with_front front (list_at ends item n ws) ≡ whole → whole ≡ Ok (front, ws)
    unfolding list_at
    done_at zero less e so = absurd (omega arith)
    done_at (suc m) less e so = sym so ∙ ap (λ b. with_front front (cond b (Ok ([], ws)) (behind m (item ws)))) e ∙ ap (λ v. Ok (v, ws)) (append-nil front)

    pub list_done : SoFar ends item front ws whole → ends ws ≡ true → whole ≡ Ok (front, ws)
    list_done so e = done_at so.bound so.fits e so.reads

    failed : (f : Fault) → SoFar ends item front ws whole → ends ws ≡ false → item ws ≡ Err f → whole ≡ Err f
    failed f so e h = sym (turned so.bound (Err f) so.fits e h so.reads).2

    pub list_fails : (s : Stop) → SoFar ends item front ws whole → ends ws ≡ false → Fails s (item ws) → Fails s whole
    list_fails stop.Memory so e h = tt
    list_fails (stop.Deep at) so e h = failed (deep at) so e h
    list_fails (stop.Unexpected at) so e h = failed wrong so e h
    list_fails stop.Ended so e h = failed wrong so e h

    pub list_last : (x : A) (us : List Word) → SoFar ends item front ws whole → ends ws ≡ false → item ws ≡ Ok (x, us) → after_sign Comma us ≡ None → whole ≡ Ok (front ++ x ∷ [], us)
    list_last x us so e f g =
        let t = turned so.bound (Ok (x, us)) so.fits e f so.reads in
        sym t.2 ∙ ap (λ o. with_front front (list_after (list_at ends item t.0) x us o)) g

    pub list_turn : (x : A) (us mid : List Word) → SoFar ends item front ws whole → length mid < length ws → ends ws ≡ false → item ws ≡ Ok (x, us) → after_sign Comma us ≡ Some mid → SoFar ends item (front ++ x ∷ []) mid whole
    list_turn x us mid so less e f g =
        let t = turned so.bound (Ok (x, us)) so.fits e f so.reads in
        record {
          bound = t.0;
          fits = omega (arith, less, so.fits, t.1);
          reads = front_front front x (list_at ends item t.0 mid) ∙ sym (ap (λ o. with_front front (list_after (list_at ends item t.0) x us o)) g) ∙ t.2;
        }
