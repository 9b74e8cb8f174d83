-- What follows a front of a text.
use Rattle.std.proofs.Common.{◌≡◌, ℕ, List, [], ◌∷◌, ◌++◌, Bool, true, false, cond, nat_eq, Option, Some, None, option_map, MatchOption, Bor, refl, sym, ap, ◌∙◌, eq-eqb}
use Rattle.std.proofs.lemmas.Bool.Decides.{Decides-eqb}
use Rattle.std.specs.Str.Pattern.{FindsTextPrefix, StripsPrefix}
use Rattle.acceptance.specs.Acceptance.{after}

after-append : (front rest : List ℕ) → after front (front ++ rest) ≡ Some rest
after-append [] rest = refl
after-append (c ∷ cs) rest = ap (λ b. cond b (after cs (cs ++ rest)) None) (eq-eqb c c refl) ∙ after-append cs rest

-- with no such front nothing follows it
no-after_at : (c d : ℕ) (cs s : List ℕ) (b : Bool) → (b ≡ true → c ≡ d) → ((rest : List ℕ) → d ∷ s ≡ c ∷ (cs ++ rest) → ⊥)
    → (((rest : List ℕ) → s ≡ cs ++ rest → ⊥) → None ≡ after cs s) → None ≡ cond b (after cs s) None
no-after_at c d cs s false same h later = refl
no-after_at c d cs s true same h later = later (λ rest e. let heads : c ≡ d = same refl in h rest cc)

no-after : (front s : List ℕ) → ((rest : List ℕ) → s ≡ front ++ rest → ⊥) → None ≡ after front s
no-after [] s h = absurd (h s refl)
no-after (c ∷ cs) [] h = refl
no-after (c ∷ cs) (d ∷ s) h = no-after_at c d cs s (nat_eq c d) (Decides-eqb c d).0 h (λ k. no-after cs s k)

pub after-stripped : (front s : List ℕ) (r : Option (Bor (List ℕ)))
    → MatchOption r (FindsTextPrefix front s None) (λ x. StripsPrefix (FindsTextPrefix front) s x.now) → option_map (λ x. x.now) r ≡ after front s
after-stripped front s None h = no-after front s h
after-stripped front s (Some x) h = ap Some h.2 ∙ sym (ap (after front) h.1.1 ∙ after-append front _)
