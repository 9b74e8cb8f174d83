-- Which names are left out, and which items.
use Rattle.std.proofs.Common.{◌≡◌, ◌≢◌, ◌∙◌, ◌⊎◌, ◌↔◌, ◌<◌, ◌+◌, inl, inr, refl, ap, ap₂, sym, subst, arith, ℕ, List, [], ◌∷◌, ◌++◌, length, map, Bool, true, false, not, cond, find, bytes_eq, ◌&&◌, Option, Some, None, is_none}
use Rattle.std.specs.List.{filter, flat_map, AllByRecursion}
use Rattle.std.proofs.lemmas.Bool.{false≢true, or_cases, or_left, or_right}
use Rattle.std.proofs.lemmas.Slice.Eq.{bytes_eq-Decides}
use Rattle.reaching.specs.Reached.{IsNodeIn, IsReached, by_first, by_reached, AreUnreached}
use Rattle.reaching.specs.declared.node.Node.{Node}
use Rattle.telling.specs.declared.told.Told.{Told}
use Rattle.texts.specs.Names.{is_in}
use Rattle.prepare.specs.declared.file_items.FileItem.{FileItem}
use Rattle.file_derivation.specs.LeftOut.{IsItemIn, faulty_name, faulty_names, IsLeftOut, at_fault, needs_one, is_needed, why, reason, told_needing, line, picks, line_if, lines_of, round_lines, kept_by, IsRound}
use Rattle.file_derivation.specs.OutNodes.{is_fault, judged_node, needs_node, needs_nodes, out_nodes, is_reached}
use Rattle.file_derivation.specs.declared.judged.Judged.{Judged}
use Rattle.file_derivation.specs.declared.judged.Verdict.{Verdict}
use Rattle.file_derivation.specs.declared.judged.Verdict.TheVariants.{Fault, Sound}

-- ---- names

same_name : (a b : List ℕ) → bytes_eq a b ≡ true → a ≡ b
same_name a b h = (bytes_eq-Decides a b).0 h

pub itself : (a : List ℕ) → bytes_eq a a ≡ true
itself a = (bytes_eq-Decides a a).1 refl

-- the only one
in_one : (a b : List ℕ) → is_in a (b ∷ []) ≡ true → a ≡ b
in_one a b h = elim (or_cases (bytes_eq a b) false h) [ inl e ↦ same_name a b e | inr e ↦ cc ]

one_in : (a : List ℕ) → is_in a (a ∷ []) ≡ true
one_in a = or_left (bytes_eq a a) false (itself a)

in_either : (k : List ℕ) (xs ys : List (List ℕ)) → is_in k (xs ++ ys) ≡ true → (is_in k xs ≡ true) ⊎ (is_in k ys ≡ true)
in_either k [] ys h = inr h
in_either k (x ∷ xs) ys h = elim (or_cases (bytes_eq k x) (is_in k (xs ++ ys)) h) [
  | inl e ↦ inl (or_left (bytes_eq k x) (is_in k xs) e)
  | inr m ↦ elim (in_either k xs ys m) [ inl l ↦ inl (or_right (bytes_eq k x) (is_in k xs) l) | inr r ↦ inr r ]
]

pub in_right : (k : List ℕ) (xs ys : List (List ℕ)) → is_in k ys ≡ true → is_in k (xs ++ ys) ≡ true
in_right k [] ys h = h
in_right k (x ∷ xs) ys h = or_right (bytes_eq k x) (is_in k (xs ++ ys)) (in_right k xs ys h)

in_left : (k : List ℕ) (xs ys : List (List ℕ)) → is_in k xs ≡ true → is_in k (xs ++ ys) ≡ true
in_left k [] ys h = cc
in_left k (x ∷ xs) ys h = elim (or_cases (bytes_eq k x) (is_in k xs) h) [
  | inl e ↦ or_left (bytes_eq k x) (is_in k (xs ++ ys)) e
  | inr m ↦ or_right (bytes_eq k x) (is_in k (xs ++ ys)) (in_left k xs ys m)
]

same_tests : (a b : Bool) → (a ≡ true → b ≡ true) → (b ≡ true → a ≡ true) → a ≡ b
same_tests true b f g = sym (f refl)
same_tests false true f g = g refl
same_tests false false f g = refl

none_is : {X : Type 0} (o : Option X) → is_none o ≡ true → o ≡ None
none_is None e = refl
none_is (Some x) e = cc

is_no_one : {X : Type 0} (o : Option X) → o ≡ None → is_none o ≡ true
is_no_one None e = refl
is_no_one (Some x) e = cc

-- ---- nodes

node_front : (ns others : List Node) (n : Node) → IsNodeIn ns n → IsNodeIn (ns ++ others) n
node_front [] others n h = elim h [ ]
node_front (m ∷ ns) others n (inl same) = inl same
node_front (m ∷ ns) others n (inr k) = inr (node_front ns others n k)

node_behind : (ns others : List Node) (n : Node) → IsNodeIn others n → IsNodeIn (ns ++ others) n
node_behind [] others n h = h
node_behind (m ∷ ns) others n h = inr (node_behind ns others n h)

node_either : (ns others : List Node) (n : Node) → IsNodeIn (ns ++ others) n → IsNodeIn ns n ⊎ IsNodeIn others n
node_either [] others n h = inr h
node_either (m ∷ ns) others n (inl same) = inl (inl same)
node_either (m ∷ ns) others n (inr k) = elim (node_either ns others n k) [ inl l ↦ inl (inr l) | inr r ↦ inr r ]

abbrev pub names_of : List Node → List (List ℕ)
names_of ns = map (λ n. n.name) ns

-- a name of nodes is that of one
node_named : (ns : List Node) (name : List ℕ) → is_in name (names_of ns) ≡ true → (n : Node) × IsNodeIn ns n × (n.name ≡ name)
node_named [] name h = absurd (false≢true h)
node_named (m ∷ ns) name h = elim (or_cases (bytes_eq name m.name) (is_in name (names_of ns)) h) [
  | inl e ↦ (m, inl refl, sym (same_name name m.name e))
  | inr k ↦ let found = node_named ns name k in (found.0, inr found.1, found.2)
]

named_in : (ns : List Node) (n : Node) → IsNodeIn ns n → is_in n.name (names_of ns) ≡ true
named_in [] n h = elim h [ ]
named_in (m ∷ ns) n (inl same) = or_left (bytes_eq n.name m.name) (is_in n.name (names_of ns)) (subst (λ (v : Node). bytes_eq v.name m.name ≡ true) same (itself m.name))
named_in (m ∷ ns) n (inr k) = or_right (bytes_eq n.name m.name) (is_in n.name (names_of ns)) (named_in ns n k)

-- ---- items that are judged

abbrev pub IsJudgedIn : List Judged → Judged → Type 0
IsJudgedIn [] j = ⊥
IsJudgedIn (k ∷ judged) j = (k ≡ j) ⊎ IsJudgedIn judged j

judged_in : (judged : List Judged) (j : Judged) → IsJudgedIn judged j → IsNodeIn (map judged_node judged) (judged_node j)
judged_in [] j h = elim h [ ]
judged_in (k ∷ judged) j (inl same) = inl (ap judged_node same)
judged_in (k ∷ judged) j (inr h) = inr (judged_in judged j h)

judged_of : (judged : List Judged) (n : Node) → IsNodeIn (map judged_node judged) n → (j : Judged) × IsJudgedIn judged j × (judged_node j ≡ n)
judged_of [] n h = elim h [ ]
judged_of (k ∷ judged) n (inl same) = (k, inl refl, same)
judged_of (k ∷ judged) n (inr h) = let found = judged_of judged n h in (found.0, inr found.1, found.2)

fault_named : (i : FileItem) (v : Verdict) → is_fault v ≡ true → is_in i.declared.name (faulty_name i v) ≡ true
fault_named i (Fault told) e = one_in i.declared.name
fault_named i (Sound span) e = cc

named_fault : (i : FileItem) (v : Verdict) (name : List ℕ) → is_in name (faulty_name i v) ≡ true → (is_fault v ≡ true) × (name ≡ i.declared.name)
named_fault i (Fault told) name e = (refl, in_one name i.declared.name e)
named_fault i (Sound span) name e = cc

-- the name of an item at fault is one of the names at fault
fault_in : (judged : List Judged) (j : Judged) → IsJudgedIn judged j → is_fault j.verdict ≡ true → is_in j.item.now.declared.name (faulty_names judged) ≡ true
fault_in [] j h e = elim h [ ]
fault_in (k ∷ judged) j (inl same) e =
    in_left j.item.now.declared.name (faulty_name k.item.now k.verdict) (faulty_names judged)
    (subst (λ (v : Judged). is_in j.item.now.declared.name (faulty_name v.item.now v.verdict) ≡ true) (sym same) (fault_named j.item.now j.verdict e))
fault_in (k ∷ judged) j (inr h) e = in_right j.item.now.declared.name (faulty_name k.item.now k.verdict) (faulty_names judged) (fault_in judged j h e)

in_fault : (judged : List Judged) (name : List ℕ) → is_in name (faulty_names judged) ≡ true → (j : Judged) × IsJudgedIn judged j × (is_fault j.verdict ≡ true) × (name ≡ j.item.now.declared.name)
in_fault [] name e = absurd (false≢true e)
in_fault (k ∷ judged) name e = elim (in_either name (faulty_name k.item.now k.verdict) (faulty_names judged) e) [
  | inl l ↦ let named = named_fault k.item.now k.verdict name l in (k, inl refl, named.0, named.1)
  | inr r ↦ let found = in_fault judged name r in (found.0, inr found.1, found.2, found.3)
]

-- ---- what items need

need_in : (i : FileItem) (names : List (List ℕ)) (name : List ℕ) → is_in name names ≡ true → IsNodeIn (map (needs_node i) names) (needs_node i name)
need_in i [] name e = cc
need_in i (m ∷ names) name e = elim (or_cases (bytes_eq name m) (is_in name names) e) [
  | inl same ↦ inl (ap (needs_node i) (sym (same_name name m same)))
  | inr k ↦ inr (need_in i names name k)
]

need_of : (i : FileItem) (names : List (List ℕ)) (n : Node) → IsNodeIn (map (needs_node i) names) n → (name : List ℕ) × (is_in name names ≡ true) × (needs_node i name ≡ n)
need_of i [] n h = elim h [ ]
need_of i (m ∷ names) n (inl same) = (m, or_left (bytes_eq m m) (is_in m names) (itself m), same)
need_of i (m ∷ names) n (inr k) = let found = need_of i names n k in (found.0, or_right (bytes_eq found.0 m) (is_in found.0 names) found.1, found.2)

needs_in : (items : List FileItem) (i : FileItem) (n : Node) → IsItemIn items i → IsNodeIn (needs_nodes i) n → IsNodeIn (flat_map needs_nodes items) n
needs_in [] i n h k = elim h [ ]
needs_in (x ∷ items) i n (inl same) k = node_front (needs_nodes x) (flat_map needs_nodes items) n (subst (λ v. IsNodeIn (needs_nodes v) n) (sym same) k)
needs_in (x ∷ items) i n (inr h) k = node_behind (needs_nodes x) (flat_map needs_nodes items) n (needs_in items i n h k)

needs_of : (items : List FileItem) (n : Node) → IsNodeIn (flat_map needs_nodes items) n → (i : FileItem) × IsItemIn items i × IsNodeIn (needs_nodes i) n
needs_of [] n h = elim h [ ]
needs_of (x ∷ items) n h = elim (node_either (needs_nodes x) (flat_map needs_nodes items) n h) [
  | inl l ↦ (x, inl refl, l)
  | inr r ↦ let found = needs_of items n r in (found.0, inr found.1, found.2)
]

-- ---- what is reached is left out

module _ (items : List FileItem) (judged : List Judged) where
  abbrev pub nodes : List Node
  nodes = out_nodes items judged

  abbrev pub faulty : List (List ℕ)
  faulty = faulty_names judged

  left_first : (n : Node) (name : List ℕ) → IsNodeIn nodes n → n.is_first ≡ true → is_in name n.names ≡ true → IsLeftOut items faulty name
  left_first n name h first named = elim (node_either (map judged_node judged) (flat_map needs_nodes items) n h) [
    | inl l ↦
        let found = judged_of judged n l in
        let one : is_fault found.0.verdict ≡ true = ap (λ (v : Node). v.is_first) found.2 ∙ first in
        let same : name ≡ found.0.item.now.declared.name = in_one name found.0.item.now.declared.name (subst (λ (v : Node). is_in name v.names ≡ true) (sym found.2) named) in
        at_fault (subst (λ v. is_in v faulty ≡ true) (sym same) (fault_in judged found.0 found.1 one))
    | inr r ↦ absurd (no_need n r first)
  ]
    where
      no_need : (n : Node) → IsNodeIn (flat_map needs_nodes items) n → n.is_first ≡ true → ⊥
      no_need n r first =
          let found = needs_of items n r in
          elim found.2 [
            | inl same ↦ let no : false ≡ true = ap (λ (v : Node). v.is_first) same ∙ first in cc
            | inr k ↦ let need = need_of found.0 found.0.declared.names n k in let no : false ≡ true = ap (λ (v : Node). v.is_first) need.2 ∙ first in cc
          ]

  left_next : (n : Node) (name : List ℕ) → IsNodeIn nodes n → IsLeftOut items faulty n.name → is_in name n.names ≡ true → IsLeftOut items faulty name
  left_next n name h left named = elim (node_either (map judged_node judged) (flat_map needs_nodes items) n h) [
    | inl l ↦
        let found = judged_of judged n l in
        let same : name ≡ found.0.item.now.declared.name = in_one name found.0.item.now.declared.name (subst (λ (v : Node). is_in name v.names ≡ true) (sym found.2) named) in
        subst (IsLeftOut items faulty) (sym (same ∙ ap (λ (v : Node). v.name) found.2)) left
    | inr r ↦
        let found = needs_of items n r in
        let i = found.0 in
        elim found.2 [
          | inl is ↦
              let same : name ≡ i.declared.name = in_one name i.declared.name (subst (λ (v : Node). is_in name v.names ≡ true) (sym is) named) in
              subst (IsLeftOut items faulty) (sym (same ∙ ap (λ (v : Node). v.name) is)) left
          | inr k ↦
              let need = need_of i i.declared.names n k in
              let same : name ≡ i.declared.name = in_one name i.declared.name (subst (λ (v : Node). is_in name v.names ≡ true) (sym need.2) named) in
              let other : need.0 ≡ n.name = ap (λ (v : Node). v.name) need.2 in
              subst (IsLeftOut items faulty) (sym same) (needs_one i found.1 need.1 (subst (IsLeftOut items faulty) (sym other) left))
        ]
  ]

  left : {name : List ℕ} → IsReached nodes name → IsLeftOut items faulty name
  left {name} (by_first n h first named) = left_first n name h first named
  left {name} (by_reached n h more named) = left_next n name h (left more) named

  reached : {name : List ℕ} → IsLeftOut items faulty name → IsReached nodes name
  reached {name} (at_fault e) =
      let found = in_fault judged name e in
      let at = node_front (map judged_node judged) (flat_map needs_nodes items) (judged_node found.0) (judged_in judged found.0 found.1) in
      by_first (judged_node found.0) at found.2 (subst (λ v. is_in v (found.0.item.now.declared.name ∷ []) ≡ true) (sym found.3) (one_in found.0.item.now.declared.name))
  reached (needs_one {other} i one named more) =
      let need = need_in i i.declared.names other named in
      let at = node_behind (map judged_node judged) (flat_map needs_nodes items) (needs_node i other) (needs_in items i (needs_node i other) one (inr need)) in
      by_reached (needs_node i other) at (reached more) (one_in i.declared.name)

  item_node : (i : FileItem) → IsItemIn items i → IsNodeIn nodes (needs_node i i.declared.name)
  item_node i one = node_behind (map judged_node judged) (flat_map needs_nodes items) (needs_node i i.declared.name) (needs_in items i (needs_node i i.declared.name) one (inl refl))

  named_node : (i : FileItem) (name : List ℕ) → IsItemIn items i → is_in name i.declared.names ≡ true → IsNodeIn nodes (needs_node i name)
  named_node i name one e = node_behind (map judged_node judged) (flat_map needs_nodes items) (needs_node i name) (needs_in items i (needs_node i name) one (inr (need_in i i.declared.names name e)))

  judged_at : (j : Judged) → IsJudgedIn judged j → IsNodeIn nodes (judged_node j)
  judged_at j one = node_front (map judged_node judged) (flat_map needs_nodes items) (judged_node j) (judged_in judged j one)

  -- the name is that of a node
  is_named : {name : List ℕ} → IsLeftOut items faulty name → is_in name (names_of nodes) ≡ true
  is_named {name} (at_fault e) =
      let found = in_fault judged name e in
      subst (λ v. is_in v (names_of nodes) ≡ true) (sym found.3) (named_in nodes (judged_node found.0) (judged_at found.0 found.1))
  is_named (needs_one i one named more) = named_in nodes (needs_node i i.declared.name) (item_node i one)

  module _ {X : Type 0} (unreached : List ℕ → Option X) (are : AreUnreached nodes unreached) where
    abbrev pub is_out : List ℕ → Bool
    is_out name = cond (is_in name (names_of nodes)) (is_reached unreached name) false

    out_named : (name : List ℕ) (b : Bool) → is_in name (names_of nodes) ≡ b → cond b (is_reached unreached name) false ≡ true → IsLeftOut items faulty name
    out_named name true f e =
        let found = node_named nodes name f in
        let none = none_is (unreached found.0.name) (subst (λ v. is_none (unreached v) ≡ true) (sym found.2) e) in
        subst (IsLeftOut items faulty) found.2 (left ((are found.0 found.1).0 none))
    out_named name false f e = cc

    -- what a node's name is, the map says
    pub agrees : (n : Node) → IsNodeIn nodes n → is_out n.name ≡ is_reached unreached n.name
    agrees n h = ap (λ b. cond b (is_reached unreached n.name) false) (named_in nodes n h)

    out : (name : List ℕ) → IsLeftOut items faulty name → is_out name ≡ true
    out name h =
        let found = node_named nodes name (is_named h) in
        let none = is_no_one (unreached found.0.name) ((are found.0 found.1).1 (reached (subst (IsLeftOut items faulty) (sym found.2) h))) in
        subst (λ v. is_out v ≡ true) found.2 (agrees found.0 found.1 ∙ none)

    pub decided : (name : List ℕ) → (is_out name ≡ true) ↔ IsLeftOut items faulty name
    decided name = (out_named name (is_in name (names_of nodes)) refl, out name)

    pub item_agrees : (i : FileItem) → IsItemIn items i → is_out i.declared.name ≡ is_reached unreached i.declared.name
    item_agrees i one = agrees (needs_node i i.declared.name) (item_node i one)

    pub name_agrees : (i : FileItem) (name : List ℕ) → IsItemIn items i → is_in name i.declared.names ≡ true → is_out name ≡ is_reached unreached name
    name_agrees i name one e = agrees (needs_node i name) (named_node i name one e)

    pub judged_agrees : (j : Judged) → IsJudgedIn judged j → is_out j.item.now.declared.name ≡ is_reached unreached j.item.now.declared.name
    judged_agrees j one = agrees (judged_node j) (judged_at j one)

-- of no items those at fault alone are left out
no_others : (at : List (List ℕ)) (name : List ℕ) → IsLeftOut [] at name → is_in name at ≡ true
no_others at name (at_fault e) = e
no_others at name (needs_one i one named more) = elim one [ ]

-- ---- the program's tests serve as well

kept_same : (f g : List ℕ → Bool) (items : List FileItem) → ((i : FileItem) → IsItemIn items i → f i.declared.name ≡ g i.declared.name) → kept_by f items ≡ kept_by g items
kept_same f g [] h = refl
kept_same f g (i ∷ items) h = ap₂ (λ (b : Bool) (rest : List FileItem). cond (not b) (i ∷ rest) rest) (h i (inl refl)) (kept_same f g items (λ x k. h x (inr k)))

find_same : (f g : List ℕ → Bool) (names : List (List ℕ)) → ((name : List ℕ) → is_in name names ≡ true → f name ≡ g name) → find f names ≡ find g names
find_same f g [] h = refl
find_same f g (n ∷ names) h =
    ap₂ (λ (b : Bool) (rest : Option (List ℕ)). cond b (Some n) rest) (h n (or_left (bytes_eq n n) (is_in n names) (itself n))) (find_same f g names (λ x k. h x (or_right (bytes_eq x n) (is_in x names) k)))

module _ (names : List (List ℕ)) (f g p q : List ℕ → Bool) where
  line_same : (i : FileItem) (v : Verdict) → p i.declared.name ≡ q i.declared.name → find (is_needed f i.declared.name) i.declared.names ≡ find (is_needed g i.declared.name) i.declared.names → line names f p i v ≡ line names g q i v
  line_same i (Fault told) second named = refl
  line_same i (Sound span) second named =
      let same : reason f p i.declared ≡ reason g q i.declared = ap₂ (λ (b : Bool) (o : Option (List ℕ)). why i.declared.name (cond b None o)) second named in
      ap (told_needing names i span) same

  lines_same : (first : Bool) (judged : List Judged) → ((j : Judged) → IsJudgedIn judged j → (f j.item.now.declared.name ≡ g j.item.now.declared.name) × (p j.item.now.declared.name ≡ q j.item.now.declared.name) × (find (is_needed f j.item.now.declared.name) j.item.now.declared.names ≡ find (is_needed g j.item.now.declared.name) j.item.now.declared.names))
      → lines_of first names f p judged ≡ lines_of first names g q judged
  lines_same first [] h = refl
  lines_same first (j ∷ judged) h =
      let one = h j (inl refl) in
      let picked = ap₂ (picks first) one.0 one.1 in
      ap₂ (λ (a b : List Told). a ++ b) (ap₂ line_if picked (line_same j.item.now j.verdict one.1 one.2)) (lines_same first judged (λ x k. h x (inr k)))

-- ---- fewer are kept

more_kept : (b : Bool) (x : FileItem) (kept : List FileItem) (n : ℕ) → length kept < n → length (cond b (x ∷ kept) kept) < n + 1
more_kept true x kept n less = omega (arith, less)
more_kept false x kept n less = omega (arith, less)

fewer_or_same : (f : FileItem → Bool) (xs : List FileItem) → length (filter f xs) < length xs + 1
fewer_or_same f [] = omega arith
fewer_or_same f (x ∷ xs) = let less = more_kept (f x) x (filter f xs) (length xs + 1) (fewer_or_same f xs) in omega (arith, less)

fewer : (f : FileItem → Bool) (xs : List FileItem) (i : FileItem) → IsItemIn xs i → f i ≡ false → length (filter f xs) < length xs
fewer f [] i h e = elim h [ ]
fewer f (x ∷ xs) i (inl same) e =
    let less = fewer_or_same f xs in
    let off : length (filter f (x ∷ xs)) ≡ length (filter f xs) = ap (λ b. length (cond b (x ∷ filter f xs) (filter f xs))) (subst (λ v. f v ≡ false) (sym same) e) in
    omega (arith, less, off)
fewer f (x ∷ xs) i (inr k) e = let less = more_kept (f x) x (filter f xs) (length xs) (fewer f xs i k e) in omega (arith, less)

-- ---- a round

abbrev pub AreWithin : List FileItem → List Judged → Type 0
AreWithin items judged = AllByRecursion (λ j. IsItemIn items j.item.now) judged

within : (items : List FileItem) (judged : List Judged) (j : Judged) → AreWithin items judged → IsJudgedIn judged j → IsItemIn items j.item.now
within items [] j all h = elim h [ ]
within items (k ∷ judged) j all (inl same) = subst (λ (v : Judged). IsItemIn items v.item.now) same all.0
within items (k ∷ judged) j all (inr h) = within items judged j all.1 h

-- where there are faults there is an item at fault
some_later : (k : Judged) (judged : List Judged) (v : Verdict) → k.verdict ≡ v → faulty_name k.item.now v ++ faulty_names judged ≢ [] → (faulty_names judged ≢ [] → (j : Judged) × IsJudgedIn judged j × (is_fault j.verdict ≡ true))
    → (j : Judged) × IsJudgedIn (k ∷ judged) j × (is_fault j.verdict ≡ true)
some_later k judged (Fault told) e h more = (k, inl refl, ap is_fault e)
some_later k judged (Sound span) e h more = let found = more h in (found.0, inr found.1, found.2)

some_fault : (judged : List Judged) → faulty_names judged ≢ [] → (j : Judged) × IsJudgedIn judged j × (is_fault j.verdict ≡ true)
some_fault [] h = absurd (h refl)
some_fault (k ∷ judged) h = some_later k judged k.verdict refl h (some_fault judged)

module _ (names : List (List ℕ)) (items : List FileItem) (judged : List Judged) {X Y : Type 0} (all : AreWithin items judged) (left : List ℕ → Option X) (are_left : AreUnreached (out_nodes items judged) left) (sound : List ℕ → Option Y) (are_sound : AreUnreached (out_nodes [] judged) sound) where
  faulty_agrees : (j : Judged) → IsJudgedIn judged j → is_in j.item.now.declared.name (faulty_names judged) ≡ is_reached sound j.item.now.declared.name
  faulty_agrees j one =
      let name = j.item.now.declared.name in
      let at = judged_agrees [] judged sound are_sound j one in
      same_tests (is_in name (faulty_names judged)) (is_reached sound name)
      (λ e. sym at ∙ (decided [] judged sound are_sound name).1 (at_fault e))
      (λ e. no_others (faulty_names judged) name ((decided [] judged sound are_sound name).0 (at ∙ e)))

  pub one_round : (told : List Told) (kept : List FileItem) → told ≡ round_lines names (is_reached left) (is_reached sound) judged → kept ≡ kept_by (is_reached left) items → IsRound names items judged told kept
  one_round told kept lines others = record {
    is_out = is_out items judged left are_left;
    decides = decided items judged left are_left;
    lines = lines ∙ sym (ap₂ (λ (a b : List Told). a ++ b) (same true) (same false));
    others = others ∙ sym (kept_same (is_out items judged left are_left) (is_reached left) items (item_agrees items judged left are_left));
  }
    where
      same : (first : Bool) → lines_of first names (is_out items judged left are_left) (λ name. is_in name (faulty_names judged)) judged ≡ lines_of first names (is_reached left) (is_reached sound) judged
      same first = lines_same names (is_out items judged left are_left) (is_reached left) (λ name. is_in name (faulty_names judged)) (is_reached sound) first judged (λ j one. (
        judged_agrees items judged left are_left j one,
        faulty_agrees j one,
        find_same (is_needed (is_out items judged left are_left) j.item.now.declared.name) (is_needed (is_reached left) j.item.now.declared.name) j.item.now.declared.names
            (λ name e. ap (λ b. b && not (bytes_eq name j.item.now.declared.name)) (name_agrees items judged left are_left j.item.now name (within items judged j all one) e)),
      ))

  pub fewer_kept : (kept : List FileItem) → kept ≡ kept_by (is_reached left) items → faulty_names judged ≢ [] → length kept < length items
  fewer_kept kept others some =
      let found = some_fault judged some in
      let i = found.0.item.now in
      let out = (decided items judged left are_left i.declared.name).1 (at_fault (fault_in judged found.0 found.1 found.2)) in
      let gone : not (is_reached left i.declared.name) ≡ false = ap not (sym (judged_agrees items judged left are_left found.0 found.1) ∙ out) in
      let less = fewer (λ x. not (is_reached left x.declared.name)) items i (within items judged found.0 all found.1) gone in
      subst (λ v. length v < length items) (sym others) less
