-- How a resolved type reads, as in `Page<Vec<User>>`.
use Rattle.std.specs.Prelude.{ℕ, zero, suc, List, [], ◌∷◌, ◌++◌, codes}
use Rattle.leaves.specs.Leaves.{name_of}
use Rattle.open_types.specs.Heads.{list_name, set_name, map_name, through_name}
use Rattle.open_types.specs.Open.{Open, Opens, leaf, any_value, free_object, unit, tuple, items, set, map_of, option, through, param, named, no_types, more_types}
use Rattle.written_types.specs.declared.written.Ident.{Ident}

-- ---- names

-- the name at a place; past the end, none
abbrev pub name_at : List Ident → ℕ → List ℕ
name_at [] d = []
name_at (x ∷ xs) zero = x.text
name_at (x ∷ xs) (suc d) = name_at xs d

-- ---- types

-- a name with arguments
abbrev pub applied : List ℕ → List ℕ → List ℕ
applied name arguments = name ++ (codes "<" ++ (arguments ++ codes ">"))

-- a name with as many arguments as there are
abbrev pub applied_to : List ℕ → Opens → List ℕ → List ℕ
applied_to name no_types arguments = name
applied_to name (more_types t ts) arguments = applied name arguments

-- what ends a tuple: one item has a comma behind it
abbrev pub tuple_end : Opens → List ℕ
tuple_end no_types = codes ")"
tuple_end (more_types t no_types) = codes ",)"
tuple_end (more_types t (more_types u us)) = codes ")"

-- what stands before the type at a place
abbrev pub separator : ℕ → List ℕ
separator zero = []
separator (suc at) = codes ", "

abbrev mutual
  -- where the places have these names; a parameter has no text: a closed type has none
  pub type_text : (ℕ → List ℕ) → Open → List ℕ
  type_text names (leaf x) = name_of x
  type_text names any_value = codes "Value"
  type_text names free_object = codes "Object"
  type_text names unit = codes "()"
  type_text names (tuple ts) = codes "(" ++ (texts_from names 0 ts ++ tuple_end ts)
  type_text names (items h t) = applied (list_name h) (type_text names t)
  type_text names (set h t) = applied (set_name h) (type_text names t)
  type_text names (map_of h k t) = applied (map_name h) (type_text names k ++ (codes ", " ++ type_text names t))
  type_text names (option t) = applied (codes "Option") (type_text names t)
  type_text names (through h t) = applied (through_name h) (type_text names t)
  type_text names (param i) = []
  type_text names (named d ts) = applied_to (names d) ts (texts_from names 0 ts)

  -- the types from a place on, with `, ` between them
  pub texts_from : (ℕ → List ℕ) → ℕ → Opens → List ℕ
  texts_from names at no_types = []
  texts_from names at (more_types t ts) = separator at ++ (type_text names t ++ texts_from names (suc at) ts)
