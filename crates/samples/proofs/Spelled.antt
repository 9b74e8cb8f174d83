-- The text of a sample as it is spelled: the tokens and the brackets of each declaration, and the blanks between them.
use Rattle.std.specs.Prelude.{ℕ, List, [], ◌∷◌, codes}
use Rattle.tokens.specs.declared.token.Bracket.TheVariants.{Round, Square, Curly}
use Rattle.tokens.specs.declared.token.TokenKind.TheVariants.{Ident, Literal, Punct}
use Rattle.samples.specs.Spelling.{Spelled, Spelling, blank, token, group, end, ◌▹◌}
use Rattle.samples.specs.Rings.{Turn, plain_struct, generic_struct, tagged_enum, turn, name, next}

-- ---- words, signs and blanks

abbrev pub word : List ℕ → Spelled
word cs = token Ident cs

abbrev pub sign : List ℕ → Spelled
sign cs = token Punct cs

abbrev pub space : Spelled
space = blank (codes " ")

abbrev pub new_line : Spelled
new_line = blank (codes "\n")

-- ---- declarations

-- the type of that turn and name, and what follows it
abbrev pub type_spelling : Turn → (name : List ℕ) → Spelling → Spelling
type_spelling plain_struct name rest = word name ▹ rest
type_spelling generic_struct name rest = word name ▹ sign (codes "<") ▹ word (codes "bool") ▹ sign (codes ">") ▹ rest
type_spelling tagged_enum name rest = word name ▹ rest

-- a field's name and its colon, and what follows them
abbrev pub field_spelling : (name : List ℕ) → Spelling → Spelling
field_spelling name rest = word name ▹ sign (codes ":") ▹ space ▹ rest

-- what stands in braces before the type of the next declaration, and what follows it
abbrev pub front : Turn → Spelling → Spelling
front plain_struct rest =
    space ▹ field_spelling (codes "id") (word (codes "u64") ▹ sign (codes ",") ▹ space ▹
    field_spelling (codes "name") (word (codes "Option") ▹ sign (codes "<") ▹ word (codes "String") ▹ sign (codes ">") ▹ sign (codes ",") ▹ space ▹
    field_spelling (codes "next") (word (codes "Option") ▹ sign (codes "<") ▹ word (codes "Box") ▹ sign (codes "<") ▹ rest)))
front generic_struct rest =
    space ▹ field_spelling (codes "item") (word (codes "T") ▹ sign (codes ",") ▹ space ▹
    field_spelling (codes "next") (word (codes "Option") ▹ sign (codes "<") ▹ word (codes "Box") ▹ sign (codes "<") ▹ rest))
front tagged_enum rest = space ▹ field_spelling (codes "next") (word (codes "Vec") ▹ sign (codes "<") ▹ rest)

-- what stands in braces behind that type
abbrev pub back : Turn → Spelling
back plain_struct = sign (codes ">") ▹ sign (codes ">") ▹ space ▹ end
back generic_struct = sign (codes ">") ▹ sign (codes ">") ▹ space ▹ end
back tagged_enum = sign (codes ">") ▹ space ▹ end

-- { id: u64, name: Option<String>, next: Option<Box<t>> }, { item: T, next: Option<Box<t>> }, { next: Vec<t> }
abbrev pub members_spelling : Turn → Turn → (type : List ℕ) → Spelling
members_spelling t of type = front t (type_spelling of type (back t))

-- { A, B { next: Vec<t> } }
abbrev pub tagged_body : Turn → (type : List ℕ) → Spelling
tagged_body of type = space ▹ word (codes "A") ▹ sign (codes ",") ▹ space ▹ word (codes "B") ▹ space ▹ group Curly (members_spelling tagged_enum of type) ▹ space ▹ end

-- [serde(tag = "t")]
abbrev pub attribute_spelling : Spelled
attribute_spelling =
    group Square (word (codes "serde") ▹ group Round (word (codes "tag") ▹ space ▹ sign (codes "=") ▹ space ▹ token Literal (codes "\"t\"") ▹ end) ▹ end)

-- the declaration of that turn and name, which names the type of that turn and name, and what follows it
abbrev pub declaration_spelling : Turn → (name : List ℕ) → Turn → (type : List ℕ) → Spelling → Spelling
declaration_spelling plain_struct name of type rest = word (codes "struct") ▹ space ▹ word name ▹ space ▹ group Curly (members_spelling plain_struct of type) ▹ new_line ▹ rest
declaration_spelling generic_struct name of type rest =
    word (codes "struct") ▹ space ▹ word name ▹ sign (codes "<") ▹ word (codes "T") ▹ sign (codes ">") ▹ space ▹
    group Curly (members_spelling generic_struct of type) ▹ new_line ▹ rest
declaration_spelling tagged_enum name of type rest =
    sign (codes "#") ▹ attribute_spelling ▹ space ▹ word (codes "enum") ▹ space ▹ word name ▹ space ▹
    group Curly (tagged_body of type) ▹ new_line ▹ rest

-- the declarations of the numbers in a ring of so many
abbrev pub sample_spelling : (many : ℕ) → List ℕ → Spelling
sample_spelling many [] = end
sample_spelling many (i ∷ is) = declaration_spelling (turn i) (name i) (turn (next many i)) (name (next many i)) (sample_spelling many is)
