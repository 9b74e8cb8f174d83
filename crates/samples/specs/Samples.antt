-- The text of a sample: the declarations of a ring, as they are written in Rust.
use Rattle.std.specs.Prelude.{ℕ, List, [], ◌++◌, codes}
use Rattle.std.specs.List.{flat_map}
use Rattle.samples.specs.Rings.{Turn, plain_struct, generic_struct, tagged_enum, turn, name, next, numbers}

-- the arguments of a type, as they are written
abbrev pub written_arguments : Turn → List ℕ
written_arguments generic_struct = codes "<bool>"
written_arguments _ = []

-- the type of the declaration of the number, as it is written
abbrev pub type_text : ℕ → List ℕ
type_text i = name i ++ written_arguments (turn i)

-- the text of a declaration of that turn, with a name of its own, in which the type of the next stands
abbrev pub declaration_text : Turn → (own of : List ℕ) → List ℕ
declaration_text plain_struct own of = codes "struct " ++ (own ++ (codes " { id: u64, name: Option<String>, next: Option<Box<" ++ (of ++ codes ">> }\n")))
declaration_text generic_struct own of = codes "struct " ++ (own ++ (codes "<T> { item: T, next: Option<Box<" ++ (of ++ codes ">> }\n")))
declaration_text tagged_enum own of = codes "#[serde(tag = \"t\")] enum " ++ (own ++ (codes " { A, B { next: Vec<" ++ (of ++ codes "> } }\n")))

-- the declaration of the number among so many, which names the next
abbrev pub numbered_text : (many : ℕ) → ℕ → List ℕ
numbered_text many i = declaration_text (turn i) (name i) (type_text (next many i))

-- a sample has at most so many declarations
abbrev pub most_declarations : ℕ
most_declarations = 1000

-- the declarations of a ring of so many, in order
abbrev pub sample_text : (many : ℕ) → List ℕ
sample_text many = flat_map (numbered_text many) (numbers many)
