-- How deep the trees of a sample nest.
use Rattle.std.proofs.Common.{ℕ, zero, suc, ◌≤◌, List, [], ◌∷◌, length, arith, ◌+◌}
use Rattle.std.proofs.Math.Nat.{max-le}
use Rattle.tokens.specs.Trees.{depth}
use Rattle.lexing.specs.Cut.{most_open}
use Rattle.samples.specs.Spelling.{Spelling, blank, token, group, end, ◌▹◌, spelled_text, trees_at}
use Rattle.samples.specs.Rings.{Turn, plain_struct, generic_struct, tagged_enum, turn, name, next}
use Rattle.samples.proofs.Spelled.{type_spelling, declaration_spelling, sample_spelling}

-- at most so many brackets are open at a place
abbrev NestsWithin : ℕ → Spelling → Type 0
NestsWithin n end = Unit {0}
NestsWithin n (blank cs ▹ rest) = NestsWithin n rest
NestsWithin n (token kind cs ▹ rest) = NestsWithin n rest
NestsWithin zero (group b inner ▹ rest) = ⊥
NestsWithin (suc n) (group b inner ▹ rest) = NestsWithin n inner × NestsWithin (suc n) rest

-- the trees nest no deeper
depth_within : (n : ℕ) (s : Spelling) (offset : ℕ) → NestsWithin n s → depth (trees_at offset s) ≤ n
depth_within n end offset h = omega arith
depth_within n (blank cs ▹ rest) offset h = depth_within n rest (offset + length cs) h
depth_within n (token kind cs ▹ rest) offset h = max-le (omega arith) (depth_within n rest (offset + length cs) h)
depth_within zero (group b inner ▹ rest) offset h = absurd h
depth_within (suc n) (group b inner ▹ rest) offset h =
    let deep = depth_within n inner (offset + 1) h.0 in
    max-le (omega (arith, deep)) (depth_within (suc n) rest (offset + length (spelled_text (group b inner))) h.1)

-- in a type and in a declaration two at most
type_within : (n : ℕ) (of : Turn) (type : List ℕ) (rest : Spelling) → NestsWithin n rest → NestsWithin n (type_spelling of type rest)
type_within n plain_struct type rest h = h
type_within n generic_struct type rest h = h
type_within n tagged_enum type rest h = h

declaration_within : (t : Turn) (name : List ℕ) (of : Turn) (type : List ℕ) (rest : Spelling)
    → NestsWithin 2 rest → NestsWithin 2 (declaration_spelling t name of type rest)
declaration_within plain_struct name of type rest h = (type_within 1 of type _ tt, h)
declaration_within generic_struct name of type rest h = (type_within 1 of type _ tt, h)
declaration_within tagged_enum name of type rest h = ((tt, tt), ((type_within 0 of type _ tt, tt), h))

declarations_within : (many : ℕ) (is : List ℕ) → NestsWithin 2 (sample_spelling many is)
declarations_within many [] = tt
declarations_within many (i ∷ is) =
    declaration_within (turn i) (name i) (turn (next many i)) (name (next many i)) (sample_spelling many is) (declarations_within many is)

-- a sample nests no deeper than brackets may
pub sample_depth : (many : ℕ) (is : List ℕ) (offset : ℕ) → depth (trees_at offset (sample_spelling many is)) ≤ most_open
sample_depth many is offset = omega (arith, depth_within 2 (sample_spelling many is) offset (declarations_within many is))
