-- Lists of items with commas between them (The Rust Reference, "Notation"; "Structs": `StructFields`).
use Rattle.std.specs.Prelude.{ℕ, zero, suc, List, [], ◌∷◌, ◌++◌, length, Result, Ok, Err}
use Rattle.texts.specs.declared.span.Span.{Span}
use Rattle.words.specs.declared.vocabulary.Sign.TheVariants.{Comma}
use Rattle.words.specs.Words.{Word, sign}
use Rattle.words.specs.Reading.{Fault, wrong, Read, ◌>>=◌, sign_at}

-- all of the words, separated by commas, a last comma allowed, perhaps empty
pub data IsList {A : Type 0} (IsItem : List Word → A → List Word → Type 0) : List Word → List A → Type 0 where
  no_items : IsList IsItem [] []
  last_item : {ws : List Word} {x : A} → IsItem ws x [] → IsList IsItem ws (x ∷ [])
  more_items : {s : Span} {ws mid : List Word} {x : A} {xs : List A} → IsItem ws x (sign Comma s ∷ mid) → IsList IsItem mid xs → IsList IsItem ws (x ∷ xs)

-- ---- reading from left to right

-- what follows a comma, or nothing where nothing is left
abbrev pub after_comma : List Word → Result (List Word) Fault
after_comma [] = Ok []
after_comma (w ∷ ws) = sign_at Comma (w ∷ ws) >>= λ p. Ok p.1

-- an item, and the comma behind it
unfoldable pub turn_at : {A : Type 0} → (List Word → Read A) → List Word → Read A
turn_at item ws = item ws >>= λ p. after_comma p.1 >>= λ rest. Ok (p.0, rest)

-- what is kept of each item, up to the end of the words, with a bound on the number of items
unfoldable pub many_at : {A B : Type 0} → (A → List B) → (List Word → Read A) → ℕ → List Word → Result (List B) Fault
many_at keep item zero ws = Err wrong
many_at keep item (suc n) [] = Ok []
many_at keep item (suc n) (w ∷ ws) = item (w ∷ ws) >>= λ p. many_at keep item n p.1 >>= λ xs. Ok (keep p.0 ++ xs)

unfoldable pub many_of : {A B : Type 0} → (A → List B) → (List Word → Read A) → List Word → Result (List B) Fault
many_of keep item ws = many_at keep item (suc (length ws)) ws

abbrev pub itself : {A : Type 0} → A → List A
itself x = x ∷ []

-- all of the words, as a list of items
abbrev pub list_of : {A : Type 0} → (List Word → Read A) → List Word → Result (List A) Fault
list_of item ws = many_of itself (turn_at item) ws

-- r with more at its front
abbrev pub with_front : {A : Type 0} → List A → Result (List A) Fault → Result (List A) Fault
with_front front r = r >>= λ xs. Ok (front ++ xs)
