-- JSON values (RFC 8259, 3 to 7), with whole numbers of any size, and what they are equal by (JSON Schema 2020-12, Core, 4.2).
-- A map is the list of its members; their names are distinct, and of equal names the first would count.
use Rattle.std.specs.Prelude.{ℕ, ℤ, List, [], ◌∷◌, Bool, true, false, not, ◌&&◌, Option, Some, None, bytes_eq, cond}
use Rattle.std.specs.List.{list_all, list_any}
use Rattle.std.specs.Ordering.{int_eq, nat_cmp, match_ordering}
use Rattle.std.specs.Cmp.Lexicographic.{slice_cmp}
use Rattle.texts.specs.Names.{is_in}

mutual
  pub data Json : Type 0 where
    null : Json
    boolean : Bool → Json
    number : ℤ → Json
    text : List ℕ → Json
    list : Items → Json
    map : Members → Json

  pub data Items : Type 0 where
    no_items : Items
    item : Json → Items → Items

  pub data Members : Type 0 where
    no_members : Members
    member : List ℕ → Json → Members → Members

-- the elements of a list, and the names and values of a map, in order
abbrev pub elements : Items → List Json
elements no_items = []
elements (item x xs) = x ∷ elements xs

abbrev pub entries : Members → List (List ℕ × Json)
entries no_members = []
entries (member k x ms) = (k, x) ∷ entries ms

abbrev pub names : List (List ℕ × Json) → List (List ℕ)
names [] = []
names (e ∷ es) = e.0 ∷ names es

-- the value at the name
abbrev pub look : List ℕ → List (List ℕ × Json) → Option Json
look k [] = None
look k (e ∷ es) = cond (bytes_eq k e.0) (Some e.1) (look k es)

-- the members in byte order of their names, with x at k
abbrev pub put : List ℕ → Json → Members → Members
put k x no_members = member k x no_members
put k x (member l y ms) = match_ordering (slice_cmp nat_cmp k l) (member k x (member l y ms)) (member l x ms) (member l y (put k x ms))

-- a member that may be left out
abbrev pub put_given : List ℕ → Option Json → Members → Members
put_given k None ms = ms
put_given k (Some x) ms = put k x ms

abbrev pub put_all : List (List ℕ × Json) → Members → Members
put_all [] ms = ms
put_all (e ∷ es) ms = put_all es (put e.0 e.1 ms)

-- the map of these entries, in byte order of the names; of equal names the last counts
abbrev pub map_of : List (List ℕ × Json) → Json
map_of es = map (put_all es no_members)

-- a test of a member, which must be there
abbrev pub there : Option Json → (Json → Bool) → Bool
there None p = false
there (Some x) p = p x

-- Equality. The order of a map's members counts for nothing.
abbrev mutual
  pub same : Json → Json → Bool
  same null null = true
  same (boolean true) (boolean b) = b
  same (boolean false) (boolean b) = not b
  same (number m) (number n) = int_eq m n
  same (text s) (text t) = bytes_eq s t
  same (list xs) (list ys) = same_items xs ys
  same (map ms) (map ns) = same_members ms (entries ns) && list_all (λ k. is_in k (names (entries ms))) (names (entries ns))
  same _ _ = false

  pub same_items : Items → Items → Bool
  same_items no_items no_items = true
  same_items (item x xs) (item y ys) = same x y && same_items xs ys
  same_items _ _ = false

  -- each of the members has an equal one of its name among the entries
  pub same_members : Members → List (List ℕ × Json) → Bool
  same_members no_members es = true
  same_members (member k x ms) es = there (look k es) (same x) && same_members ms es

-- no two of the values are equal
abbrev pub distinct : List Json → Bool
distinct [] = true
distinct (x ∷ xs) = not (list_any (same x) xs) && distinct xs

-- a test that binds a value of one kind alone
abbrev pub on_map : Json → (List (List ℕ × Json) → Bool) → Bool
on_map (map ms) p = p (entries ms)
on_map _ p = true

abbrev pub on_list : Json → (List Json → Bool) → Bool
on_list (list xs) p = p (elements xs)
on_list _ p = true

abbrev pub on_number : Json → (ℤ → Bool) → Bool
on_number (number n) p = p n
on_number _ p = true

abbrev pub on_text : Json → (List ℕ → Bool) → Bool
on_text (text s) p = p s
on_text _ p = true

-- a test of a member, where it is there
abbrev pub if_there : Option Json → (Json → Bool) → Bool
if_there (Some x) p = p x
if_there None p = true

-- the member of the name, of a map
abbrev pub member_of : List ℕ → Json → Option Json
member_of k (map ms) = look k (entries ms)
member_of k _ = None
