-- A sample is spelled as it is written.
use Rattle.std.proofs.Common.{◌≡◌, ℕ, List, [], ◌∷◌, ◌++◌, refl, ap, sym, ◌∙◌, append_assoc}
use Rattle.std.proofs.lemmas.List.{append-nil}
use Rattle.std.specs.List.{flat_map}
use Rattle.samples.specs.Spelling.{Spelling, text_of}
use Rattle.samples.specs.Rings.{Turn, plain_struct, generic_struct, tagged_enum, turn, name, next, numbers}
use Rattle.samples.specs.Samples.{written_arguments, declaration_text, numbered_text, sample_text}
use Rattle.samples.proofs.Spelled.{type_spelling, declaration_spelling, sample_spelling}

-- a type is spelled as it is written
pub type_spelled : (of : Turn) (type : List ℕ) (rest : Spelling) → text_of (type_spelling of type rest) ≡ (type ++ written_arguments of) ++ text_of rest
type_spelled plain_struct type rest = ap (λ v. v ++ text_of rest) (sym (append-nil type))
type_spelled generic_struct type rest = sym (append_assoc type (written_arguments generic_struct) (text_of rest))
type_spelled tagged_enum type rest = ap (λ v. v ++ text_of rest) (sym (append-nil type))

-- so is a declaration
pub declaration_spelled : (t : Turn) (name : List ℕ) (of : Turn) (type : List ℕ) (rest : Spelling)
    → text_of (declaration_spelling t name of type rest) ≡ declaration_text t name (type ++ written_arguments of) ++ text_of rest
declaration_spelled plain_struct name of type rest = simp (type_spelled, append_assoc)
declaration_spelled generic_struct name of type rest = simp (type_spelled, append_assoc)
declaration_spelled tagged_enum name of type rest = simp (type_spelled, append_assoc)

declarations_spelled : (many : ℕ) (is : List ℕ) → text_of (sample_spelling many is) ≡ flat_map (numbered_text many) is
declarations_spelled many [] = refl
declarations_spelled many (i ∷ is) =
    declaration_spelled (turn i) (name i) (turn (next many i)) (name (next many i)) (sample_spelling many is)
    ∙ ap (λ v. numbered_text many i ++ v) (declarations_spelled many is)

-- and so is the sample
pub sample_spelled : (many : ℕ) → text_of (sample_spelling many (numbers many)) ≡ sample_text many
sample_spelled many = declarations_spelled many (numbers many)
