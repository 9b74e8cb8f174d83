-- What is selected is what the program chooses, by the names that are not reached.
use Rattle.std.proofs.Common.{◌≡◌, ◌⊎◌, inl, inr, refl, ap, ℕ, List, [], ◌∷◌, ◌++◌, map, Bool, true, false, cond, MatchBool, Option, Some, None, is_none}
use Rattle.std.specs.List.{filter}
use Rattle.std.proofs.lemmas.Bool.{or_cases, or_left, or_right}
use Rattle.reaching.specs.Reached.{IsNodeIn, AreUnreached}
use Rattle.reaching.specs.declared.node.Node.{Node}
use Rattle.prepare.specs.declared.file_items.FileItem.{FileItem}
use Rattle.prepare.specs.declared.file_items.FileAlias.{FileAlias}
use Rattle.selecting.specs.declared.selection.Selection.{Selection}
use Rattle.selecting.specs.Lists.{AreThose, no_others, one_holds, one_fails}
use Rattle.selecting.specs.Selected.{is_first, item_node, alias_node, IsChosen, IsNeeded, is_chosen, is_needed}

-- ---- parts of lists

abbrev pub IsIn : {A : Type 0} → List A → A → Type 0
IsIn [] x = ⊥
IsIn (y ∷ ys) x = (y ≡ x) ⊎ IsIn ys x

module _ {A : Type 0} (Holds : A → Type 0) (test : A → Bool) where
  one_more : (x : A) (b : Bool) {xs ys : List A} → test x ≡ b → (test x ≡ true → Holds x) → (test x ≡ false → Holds x → ⊥) → AreThose Holds xs ys → AreThose Holds (x ∷ xs) (cond b (x ∷ ys) ys)
  one_more x true e h g more = one_holds (h e) more
  one_more x false e h g more = one_fails (g e) more

  pub those_by : (xs : List A) → ((x : A) → IsIn xs x → test x ≡ true → Holds x) → ((x : A) → IsIn xs x → test x ≡ false → Holds x → ⊥) → AreThose Holds xs (filter test xs)
  those_by [] h g = no_others
  those_by (x ∷ xs) h g = one_more x (test x) refl (h x (inl refl)) (g x (inl refl)) (those_by xs (λ y k. h y (inr k)) (λ y k. g y (inr k)))

-- what is decided
pub held : (P Q : Type 0) (b : Bool) → b ≡ true → MatchBool b P Q → P
held P Q true e h = h
held P Q false e h = cc

pub not_held : (P Q : Type 0) (b : Bool) → b ≡ false → MatchBool b P Q → Q
not_held P Q true e h = cc
not_held P Q false e h = h

-- ---- nodes

node_front : (ns others : List Node) (n : Node) → IsNodeIn ns n → IsNodeIn (ns ++ others) n
node_front [] others n h = elim h [ ]
node_front (m ∷ ns) others n (inl same) = inl same
node_front (m ∷ ns) others n (inr k) = inr (node_front ns others n k)

node_behind : (ns others : List Node) (n : Node) → IsNodeIn others n → IsNodeIn (ns ++ others) n
node_behind [] others n h = h
node_behind (m ∷ ns) others n h = inr (node_behind ns others n h)

item_in : (s : Selection) (items : List FileItem) (i : FileItem) → IsIn items i → IsNodeIn (map (item_node s) items) (item_node s i)
item_in s [] i h = elim h [ ]
item_in s (j ∷ items) i (inl same) = inl (ap (item_node s) same)
item_in s (j ∷ items) i (inr k) = inr (item_in s items i k)

alias_in : (aliases : List FileAlias) (a : FileAlias) → IsIn aliases a → IsNodeIn (map alias_node aliases) (alias_node a)
alias_in [] a h = elim h [ ]
alias_in (b ∷ aliases) a (inl same) = inl (ap alias_node same)
alias_in (b ∷ aliases) a (inr k) = inr (alias_in aliases a k)

-- ---- by the map

none_is : {X : Type 0} (o : Option X) → is_none o ≡ true → o ≡ None
none_is None e = refl
none_is (Some x) e = cc

is_no_one : {X : Type 0} (o : Option X) → o ≡ None → is_none o ≡ true
is_no_one None e = refl
is_no_one (Some x) e = cc

module _ {X : Type 0} (s : Selection) (items : List FileItem) (configured : List Node) (typed : List FileAlias) (unreached : List ℕ → Option X) (are : AreUnreached (map (item_node s) items ++ (configured ++ map alias_node typed)) unreached) where
  abbrev behind : List Node
  behind = configured ++ map alias_node typed

  abbrev all : List Node
  all = map (item_node s) items ++ behind

  at : (i : FileItem) → IsIn items i → IsNodeIn all (item_node s i)
  at i one = node_front (map (item_node s) items) behind (item_node s i) (item_in s items i one)

  holds : (i : FileItem) → IsIn items i → is_chosen unreached s i ≡ true → IsChosen s all i
  holds i one e =
      elim (or_cases (is_first s i) (is_none (unreached i.declared.name)) e) [
        | inl h ↦ inl h
        | inr h ↦ inr ((are (item_node s i) (at i one)).0 (none_is (unreached i.declared.name) h))
      ]

  fails : (i : FileItem) → IsIn items i → is_chosen unreached s i ≡ false → IsChosen s all i → ⊥
  fails i one e (inl first) = let found : is_chosen unreached s i ≡ true = or_left (is_first s i) (is_none (unreached i.declared.name)) first in cc
  fails i one e (inr reached) =
      let none = is_no_one (unreached i.declared.name) ((are (item_node s i) (at i one)).1 reached) in
      let found : is_chosen unreached s i ≡ true = or_right (is_first s i) (is_none (unreached i.declared.name)) none in
      cc

  pub chosen : AreThose (IsChosen s all) items (filter (is_chosen unreached s) items)
  chosen = those_by (IsChosen s all) (is_chosen unreached s) items holds fails

  named : (a : FileAlias) → IsIn typed a → IsNodeIn all (alias_node a)
  named a one = node_behind (map (item_node s) items) behind (alias_node a) (node_behind configured (map alias_node typed) (alias_node a) (alias_in typed a one))

  holds_alias : (a : FileAlias) → IsIn typed a → is_needed unreached a ≡ true → IsNeeded all a
  holds_alias a one e = (are (alias_node a) (named a one)).0 (none_is (unreached a.declared.name) e)

  fails_alias : (a : FileAlias) → IsIn typed a → is_needed unreached a ≡ false → IsNeeded all a → ⊥
  fails_alias a one e reached = let none : is_needed unreached a ≡ true = is_no_one (unreached a.declared.name) ((are (alias_node a) (named a one)).1 reached) in cc

  pub needed : AreThose (IsNeeded all) typed (filter (is_needed unreached) typed)
  needed = those_by (IsNeeded all) (is_needed unreached) typed holds_alias fails_alias
