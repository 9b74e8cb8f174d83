-- What is in a list is read, unless something in it nests too deep.
use Rattle.std.proofs.Common.{◌≡◌, ◌∙◌, ◌<◌, ◌⊎◌, inl, inr, List, [], ◌∷◌, ◌++◌, length, refl, ap, arith, Result, Ok, Err}
use Rattle.texts.specs.declared.span.Span.{Span}
use Rattle.words.specs.declared.vocabulary.Sign.TheVariants.{Comma}
use Rattle.words.specs.Words.{Word, sign}
use Rattle.words.specs.Reading.{Fault, deep, Read, ◌>>=◌}
use Rattle.words.specs.Lists.{IsList, no_items, last_item, more_items, after_comma, turn_at, many_of, itself, list_of}
use Rattle.words.proofs.Many.{Shortens, many_none, many_more}
use Rattle.words.proofs.Sound.{turn_shortens}

-- what ends an item of a list
pub data Ends : List Word → Type 0 where
  at_end : Ends []
  at_comma : {s : Span} {ws : List Word} → Ends (sign Comma s ∷ ws)

module _ (IsDeepAt : Span → Type 0) where
  -- ---- what is found, or is too deep
  -- what nests too deep at a span is why the whole does
  abbrev pub IsDeep : {A : Type 0} → Result A Fault → Type 0
  IsDeep r = (at : Span) × (r ≡ Err (deep at)) × IsDeepAt at

  abbrev pub Finds : {A : Type 0} → Result A Fault → A → Type 0
  Finds r x = (r ≡ Ok x) ⊎ IsDeep r

  pub bind_deep : {A B : Type 0} (r : Result A Fault) (f : A → Result B Fault) → IsDeep r → IsDeep (r >>= f)
  bind_deep r f d = (d.0, ap (λ q. q >>= f) d.1, d.2)

  pub like_deep : {A : Type 0} {r s : Result A Fault} → r ≡ s → IsDeep s → IsDeep r
  like_deep e d = (d.0, e ∙ d.1, d.2)

  pub then_deep : {A B : Type 0} (r : Result A Fault) (f : A → Result B Fault) (x : A) → Finds r x → IsDeep (f x) → IsDeep (r >>= f)
  then_deep r f x (inl e) d = like_deep (ap (λ q. q >>= f) e) d
  then_deep r f x (inr h) d = bind_deep r f h

  pub like_finds : {A : Type 0} {r s : Result A Fault} {x : A} → r ≡ s → Finds s x → Finds r x
  like_finds e (inl h) = inl (e ∙ h)
  like_finds e (inr d) = inr (like_deep e d)

  pub then_finds : {A B : Type 0} (r : Result A Fault) (f : A → Result B Fault) (x : A) (y : B) → Finds r x → Finds (f x) y → Finds (r >>= f) y
  then_finds r f x y (inl e) h = like_finds (ap (λ q. q >>= f) e) h
  then_finds r f x y (inr d) h = inr (bind_deep r f d)

  -- ---- lists
  pub turn_finds : {A : Type 0} (item : List Word → Read A) (ws mid rest : List Word) (x : A) → Finds (item ws) (x, mid) → after_comma mid ≡ Ok rest → Finds (turn_at item ws) (x, rest)
  unfolding turn_at
  turn_finds {A = A} item ws mid rest x h e =
      let f : A × List Word → Read A = λ p. after_comma p.1 >>= λ rest. Ok (p.0, rest) in
      let g : Result (List Word) Fault → Read A = λ q. q >>= λ rest. Ok (x, rest) in
      then_finds (item ws) f (x, mid) (x, rest) h (inl (ap g e))

  pub turn_deep : {A : Type 0} (item : List Word → Read A) (ws : List Word) → IsDeep (item ws) → IsDeep (turn_at item ws)
  unfolding turn_at
  turn_deep {A = A} item ws d = let f : A × List Word → Read A = λ p. after_comma p.1 >>= λ rest. Ok (p.0, rest) in bind_deep (item ws) f d

  module _ {A B : Type 0} (keep : A → List B) (item : List Word → Read A) (shortens : Shortens item) where
    abbrev others : A × List Word → Result (List B) Fault
    others p = many_of keep item p.1 >>= λ xs. Ok (keep p.0 ++ xs)

    pub more_finds : (ws rest : List Word) (x : A) (xs : List B) → length rest < length ws → Finds (item ws) (x, rest) → Finds (many_of keep item rest) xs → Finds (many_of keep item ws) (keep x ++ xs)
    more_finds ws rest x xs less h k =
        let g : List B → Result (List B) Fault = λ xs. Ok (keep x ++ xs) in
        like_finds (many_more keep item shortens ws (omega arith)) (then_finds (item ws) others (x, rest) (keep x ++ xs) h (then_finds (many_of keep item rest) g xs (keep x ++ xs) k (inl refl)))

    pub more_deep : (ws rest : List Word) (x : A) → length rest < length ws → Finds (item ws) (x, rest) → IsDeep (many_of keep item rest) → IsDeep (many_of keep item ws)
    more_deep ws rest x less h k =
        let g : List B → Result (List B) Fault = λ xs. Ok (keep x ++ xs) in
        like_deep (many_more keep item shortens ws (omega arith)) (then_deep (item ws) others (x, rest) h (bind_deep (many_of keep item rest) g k))

    pub first_deep : (ws : List Word) → 0 < length ws → IsDeep (item ws) → IsDeep (many_of keep item ws)
    first_deep ws more d = like_deep (many_more keep item shortens ws more) (bind_deep (item ws) others d)

  module _ {A : Type 0} (item : List Word → Read A) (IsItem : List Word → A → List Word → Type 0) (shortens : Shortens item)
      (shorter : (ws rest : List Word) (x : A) → IsItem ws x rest → length rest < length ws) (complete : (ws rest : List Word) (x : A) → IsItem ws x rest → Ends rest → Finds (item ws) (x, rest)) where
    pub list_complete : {ws : List Word} {xs : List A} → IsList IsItem ws xs → Finds (list_of item ws) xs
    list_complete no_items = inl (many_none itself (turn_at item) (turn_shortens item shortens) [] refl)
    list_complete (last_item {ws = ws} {x = x} r) =
        more_finds itself (turn_at item) (turn_shortens item shortens) ws [] x [] (shorter ws [] x r) (turn_finds item ws [] [] x (complete ws [] x r at_end) refl) (inl (many_none itself (turn_at item) (turn_shortens item shortens) [] refl))
    list_complete (more_items {s = s} {ws = ws} {mid = mid} {x = x} {xs = xs} r others) =
        let less = shorter ws (sign Comma s ∷ mid) x r in
        more_finds itself (turn_at item) (turn_shortens item shortens) ws mid x xs (omega arith) (turn_finds item ws (sign Comma s ∷ mid) mid x (complete ws (sign Comma s ∷ mid) x r at_comma) refl) (list_complete others)
