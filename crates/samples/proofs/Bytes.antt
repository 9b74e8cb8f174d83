-- The bytes of a sample: ASCII, and not too many.
use Rattle.std.proofs.Common.{◌≡◌, ℕ, zero, suc, ◌+◌, ◌*◌, ◌≤◌, ◌<◌, List, [], ◌∷◌, ◌++◌, length, refl, ap, ◌∙◌, arith, Bool, true, ◌&&◌, length-append}
use Rattle.std.proofs.Math.Nat.{mod-le}
use Rattle.std.proofs.lemmas.Bool.{and_parts, lt-ltb, ltb-true}
use Rattle.std.proofs.lemmas.Fmt.{length-decimal-le}
use Rattle.std.proofs.lemmas.List.Folds.{list_all-append}
use Rattle.std.proofs.lemmas.List.FromFn.{length-range_with_len}
use Rattle.std.proofs.lemmas.Str.{IsUtf8-from_ascii}
use Rattle.std.proofs.lemmas.Str.Ascii.{IsAscii-nil, IsAscii-cons}
use Rattle.std.specs.Fmt.{decimal}
use Rattle.std.specs.List.{AllByRecursion, flat_map, list_all, range_with_len}
use Rattle.std.specs.Prelude.{nat_lt}
use Rattle.std.specs.Str.{IsAscii, IsUtf8}
use Rattle.samples.specs.Rings.{Turn, plain_struct, generic_struct, tagged_enum, letter, turn, name, next, numbers}
use Rattle.samples.specs.Samples.{written_arguments, type_text, declaration_text, numbered_text, sample_text}
use Rattle.samples.proofs.Names.{IsDigit, decimal_digits}

-- ---- the numbers
below : (a n : ℕ) → a + n ≤ 1000 → AllByRecursion (λ i. i < 1000) (range_with_len a n)
below a zero h = tt
below a (suc n) h = (omega arith, below (a + 1) n (omega arith))

-- the numbers of a ring of at most 1000
pub numbers_below : (many : ℕ) → many ≤ 1000 → AllByRecursion (λ i. i < 1000) (numbers many)
numbers_below many few = below 0 many (omega arith)

-- the number behind one of them
next_small : (many i : ℕ) → i < 1000 → next many i ≤ 1000
next_small many i h = omega (arith, mod-le (suc i) many)

-- ---- ASCII
abbrev all_ascii : List ℕ → Bool
all_ascii cs = list_all (λ c. nat_lt c 128) cs

two_ascii : (xs ys : List ℕ) → all_ascii (xs ++ ys) ≡ (all_ascii xs && all_ascii ys)
two_ascii xs ys = list_all-append (λ c. nat_lt c 128) xs ys

both_ascii : (xs ys : List ℕ) → all_ascii xs ≡ true → all_ascii ys ≡ true → all_ascii (xs ++ ys) ≡ true
both_ascii xs ys h k = two_ascii xs ys ∙ ap (λ v. v && all_ascii ys) h ∙ k

digits_ascii : (ds : List ℕ) → AllByRecursion IsDigit ds → all_ascii ds ≡ true
digits_ascii [] h = refl
digits_ascii (d ∷ ds) h = ap (λ v. v && all_ascii ds) (lt-ltb d 128 (omega (arith, h.0))) ∙ digits_ascii ds h.1

letter_ascii : (t : Turn) (cs : List ℕ) → all_ascii (letter t ∷ cs) ≡ all_ascii cs
letter_ascii plain_struct cs = refl
letter_ascii generic_struct cs = refl
letter_ascii tagged_enum cs = refl

name_ascii : (i : ℕ) → i ≤ 1000 → all_ascii (name i) ≡ true
name_ascii i h = letter_ascii (turn i) (decimal i) ∙ digits_ascii (decimal i) (decimal_digits i (omega arith))

arguments_ascii : (t : Turn) → all_ascii (written_arguments t) ≡ true
arguments_ascii plain_struct = refl
arguments_ascii generic_struct = refl
arguments_ascii tagged_enum = refl

type_ascii : (i : ℕ) → i ≤ 1000 → all_ascii (type_text i) ≡ true
type_ascii i h = both_ascii (name i) (written_arguments (turn i)) (name_ascii i h) (arguments_ascii (turn i))

declaration_ascii : (t : Turn) (name type : List ℕ) → all_ascii name ≡ true → all_ascii type ≡ true → all_ascii (declaration_text t name type) ≡ true
declaration_ascii plain_struct name type n m = simp (two_ascii, n, m)
declaration_ascii generic_struct name type n m = simp (two_ascii, n, m)
declaration_ascii tagged_enum name type n m = simp (two_ascii, n, m)

declarations_ascii : (many : ℕ) (is : List ℕ) → AllByRecursion (λ i. i < 1000) is → all_ascii (flat_map (numbered_text many) is) ≡ true
declarations_ascii many [] h = refl
declarations_ascii many (i ∷ is) h =
    let named = name_ascii i (omega (arith, h.0)) in
    let typed = type_ascii (next many i) (next_small many i h.0) in
    let here = declaration_ascii (turn i) (name i) (type_text (next many i)) named typed in
    both_ascii (numbered_text many i) (flat_map (numbered_text many) is) here (declarations_ascii many is h.1)

from_test : (cs : List ℕ) → all_ascii cs ≡ true → IsAscii cs
from_test [] h = IsAscii-nil
from_test (c ∷ cs) h = let both = and_parts (nat_lt c 128) (all_ascii cs) h in IsAscii-cons c cs (ltb-true c 128 both.0) (from_test cs both.1)

-- each character of a sample is ASCII
pub sample_ascii : (many : ℕ) → many ≤ 1000 → IsAscii (sample_text many)
sample_ascii many few = from_test (sample_text many) (declarations_ascii many (numbers many) (numbers_below many few))

-- so a sample is a text
pub sample_utf8 : (many : ℕ) → many ≤ 1000 → IsUtf8 (sample_text many)
sample_utf8 many few = IsUtf8-from_ascii (sample_text many) (sample_ascii many few)

-- ---- how many
name_short : (i : ℕ) → i ≤ 1000 → length (name i) ≤ 5
name_short i h = let digits : length (decimal i) ≤ 4 = length-decimal-le 4 i (omega arith) (omega arith) (omega arith) in omega arith

arguments_short : (t : Turn) → length (written_arguments t) ≤ 6
arguments_short plain_struct = omega arith
arguments_short generic_struct = omega arith
arguments_short tagged_enum = omega arith

type_short : (i : ℕ) → i ≤ 1000 → length (type_text i) ≤ 11
type_short i h = omega (arith, name_short i h, arguments_short (turn i), length-append (name i) (written_arguments (turn i)))

declaration_short : (t : Turn) (name type : List ℕ) → length name ≤ 5 → length type ≤ 11 → length (declaration_text t name type) ≤ 200
declaration_short plain_struct name type n m = simp length-append (omega arith)
declaration_short generic_struct name type n m = simp length-append (omega arith)
declaration_short tagged_enum name type n m = simp length-append (omega arith)

declarations_short : (many : ℕ) (is : List ℕ) → AllByRecursion (λ i. i < 1000) is → length (flat_map (numbered_text many) is) ≤ 200 * length is
declarations_short many [] h = omega arith
declarations_short many (i ∷ is) h =
    let named = name_short i (omega (arith, h.0)) in
    let typed = type_short (next many i) (next_small many i h.0) in
    let here = declaration_short (turn i) (name i) (type_text (next many i)) named typed in
    omega (arith, here, declarations_short many is h.1, length-append (numbered_text many i) (flat_map (numbered_text many) is))

-- a sample of at most 1000 declarations takes at most a mebibyte
pub sample_short : (many : ℕ) → many ≤ 1000 → length (sample_text many) ≤ 1048576
sample_short many few = omega (arith, declarations_short many (numbers many) (numbers_below many few), length-range_with_len 0 many)
