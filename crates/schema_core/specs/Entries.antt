-- Entries of name and schema, in byte order of their names.
use Rattle.std.specs.Prelude.{ℕ, List, [], ◌∷◌, Option, Some, None, bytes_eq, cond}
use Rattle.std.specs.Cmp.Lexicographic.{slice_cmp}
use Rattle.std.specs.Ordering.{nat_cmp, match_ordering}
pub use Rattle.schema_trees.specs.Held.{IsInOrder}

module _ {S : Type 0} where
  -- each name with what stands at its place
  abbrev pub entries_of : List (List ℕ) → List S → List (List ℕ × S)
  entries_of [] ss = []
  entries_of (n ∷ ns) [] = []
  entries_of (n ∷ ns) (s ∷ ss) = (n, s) ∷ entries_of ns ss

  abbrev pub entry_names : List (List ℕ × S) → List (List ℕ)
  entry_names [] = []
  entry_names (e ∷ es) = e.0 ∷ entry_names es

  -- what stands under the name
  abbrev pub find : List ℕ → List (List ℕ × S) → Option S
  find k [] = None
  find k (e ∷ es) = cond (bytes_eq k e.0) (Some e.1) (find k es)

  -- the entries, with s under k at its place in the order, unless something stands there
  abbrev pub with_entry : List ℕ → S → List (List ℕ × S) → List (List ℕ × S)
  with_entry k s [] = (k, s) ∷ []
  with_entry k s (e ∷ es) = match_ordering (slice_cmp nat_cmp e.0 k) (e ∷ with_entry k s es) (e ∷ es) ((k, s) ∷ e ∷ es)
