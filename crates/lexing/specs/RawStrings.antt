-- Raw strings that open and are never closed, so that the scanner looks for an end but once.
use Rattle.std.specs.Prelude.{◌≡◌, ℕ, ◌+◌, ◌≤◌, List, [], ◌∷◌, cond, ◌||◌, ◌&&◌, ◌==◌, nat_lt, Option, Some, None}
use Rattle.literals.specs.Scanning.{literal_at}

-- after so many signs #, how many stand before the quote, and what follows that
abbrev pub hashes_at : ℕ → List ℕ → Option (ℕ × List ℕ)
hashes_at hashes [] = None
hashes_at hashes (c ∷ cs) = cond (c == 34) (Some (hashes, cs)) (cond ((c == 35) && nat_lt hashes 255) (hashes_at (hashes + 1) cs) None)

abbrev pub after_letter : List ℕ → Option (ℕ × List ℕ)
after_letter [] = None
after_letter (c ∷ cs) = cond (c == 114) (hashes_at 0 cs) None

-- how many signs # the raw string that opens at the front has, and what follows its first quote
abbrev pub opening_at : List ℕ → Option (ℕ × List ℕ)
opening_at [] = None
opening_at (c ∷ cs) = cond (c == 114) (hashes_at 0 cs) (cond ((c == 98) || (c == 99)) (after_letter cs) None)

-- no raw string that opens in the text with so many signs # or more is closed
abbrev pub NoneCloses : ℕ → List ℕ → Type 0
NoneCloses hashes [] = Unit {0}
NoneCloses hashes (c ∷ cs) = ((more : ℕ) (body : List ℕ) → opening_at (c ∷ cs) ≡ Some (more, body) → hashes ≤ more → literal_at (c ∷ cs) ≡ None) × NoneCloses hashes cs
