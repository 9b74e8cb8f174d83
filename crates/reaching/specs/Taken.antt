-- How the program finds the names that are reached: it takes them out of those of all nodes.
use Rattle.std.specs.Prelude.{◌≡◌, ◌⊎◌, ℕ, String, List, [], ◌∷◌, ◌++◌, map, true, cond, Option, Some, None, unwrap_or, option_map}
use Rattle.std.specs.Borrow.{Bor}
use Rattle.std.specs.BTreeMap.{BTreeMap, get_by_text}
use Rattle.std.specs.List.{flat_map}
use Rattle.std.specs.Map.{update}
use Rattle.std.specs.Str.{bytes_eq}
use Rattle.texts.specs.Names.{is_in}
use Rattle.reaching.specs.declared.node.Node.{Node}

-- the names that nodes name, by the names of these
abbrev pub NamesByName : Type 0
NamesByName = List ℕ → Option (List (List ℕ))

-- borrowed texts, and what a map has of them
abbrev pub texts_of : List (Bor (List ℕ)) → List (List ℕ)
texts_of texts = map (λ t. t.now) texts

abbrev pub names_in : {Y : Type 0} → BTreeMap (String Y) (List (Bor (List ℕ))) → NamesByName
names_in by_name name = option_map texts_of (get_by_text by_name name)

-- the names that the first nodes name
abbrev pub names_if_first : Node → List (List ℕ)
names_if_first n = cond n.is_first n.names []

abbrev pub first_names : List Node → List (List ℕ)
first_names nodes = flat_map names_if_first nodes

-- with the names that one node more names
abbrev pub with_names : Node → NamesByName → NamesByName
with_names n by_name name = update bytes_eq by_name n.name (Some (unwrap_or (by_name n.name) [] ++ n.names)) name

abbrev pub entries_with : NamesByName → List Node → NamesByName
entries_with by_name [] = by_name
entries_with by_name (n ∷ nodes) = entries_with (with_names n by_name) nodes

abbrev pub entry : List Node → NamesByName
entry nodes = entries_with (λ _. None) nodes

-- one of the reached names is taken out with the names that it had, and of the others those that have none left
pub record TakesOne (reached : List (List ℕ)) (by_name : NamesByName) (names rest : List (List ℕ)) (left : NamesByName) : Type 0 where
  pub name : List ℕ
  pub was_reached : is_in name reached ≡ true
  pub had : by_name name ≡ Some names
  pub taken : (other : List ℕ) → left other ≡ update bytes_eq by_name name None other
  pub fewer : (other : List ℕ) → is_in other rest ≡ true → is_in other reached ≡ true
  pub enough : (other : List ℕ) → is_in other reached ≡ true → (is_in other rest ≡ true) ⊎ (left other ≡ None)

abbrev pub Takes : List (List ℕ) → NamesByName → Option (List (List ℕ)) → List (List ℕ) → NamesByName → Type 0
Takes reached by_name None rest left = ((other : List ℕ) → left other ≡ by_name other) × ((other : List ℕ) → is_in other reached ≡ true → by_name other ≡ None)
Takes reached by_name (Some names) rest left = TakesOne reached by_name names rest left
