-- The sizes of types, as far as a number can say them, and tables with them.
use Rattle.std.proofs.Common.{ℕ, ◌-◌, ◌<◌, List, [], ◌∷◌, ◌++◌, length, get_or, map, take, cond, Option, Some, None, ◌≡◌, ap, sym, subst, ◌∙◌, arith}
use Rattle.std.specs.BTreeMap.{is_at}
use Rattle.std.proofs.Math.Seq.{take-append_seam}
use Rattle.std.proofs.lemmas.List.{map_push, length-map}
use Rattle.std.proofs.lemmas.List as lists
use Rattle.open_types.specs.Open.{Open, unit}
use Rattle.open_types.specs.Instances.{type_size}
use Rattle.type_table.specs.declared.types.Entry.{Entry}
use Rattle.type_table.specs.Keys.{key_of, key_cmp}
use Rattle.type_table.specs.Nodes.{node_type, types_of, nodes_of, entry_types, HasParts, IsTable, AreEntries}
use Rattle.type_table.specs.Types.{type_at, in_word}
use Rattle.type_table.proofs.Grown.{table-more, added-node, IsAdded}
use Rattle.type_table.proofs.Listed.{as_many, node-at, IsNode}
use Rattle.type_table.proofs.Tables.{nodes-grow, more-long}

-- ---- tables

pub nodes-more : (es : List Entry) (e : Entry) → nodes_of (es ++ e ∷ []) ≡ nodes_of es ++ e.node ∷ []
nodes-more es e = map_push (λ x. x.node) es e

pub many-nodes : (es : List Entry) → length (nodes_of es) ≡ length es
many-nodes es = length-map es (λ (x : Entry). x.node)

pub many-entries : (es : List Entry) → length (entry_types es) ≡ length es
many-entries es = as_many (nodes_of es) ∙ many-nodes es

-- a table of an entry more, whose size is that of its type
pub entries-more : (look new : ℕ × ℕ × ℕ → Option ℕ) (es : List Entry) (e : Entry) → AreEntries look es → look (key_of e.node) ≡ None → HasParts (entry_types es) e.node →
    e.size ≡ in_word (type_size (node_type (entry_types es) e.node)) → ((q : ℕ × ℕ × ℕ) → new q ≡ cond (is_at (key_cmp (key_of e.node)) q) (Some (length es)) (look q)) → AreEntries new (es ++ e ∷ [])
entries-more look new es e old none parts size more = record { table = its_table; sizes = its_sizes }
  where
    its_table : IsTable new (nodes_of (es ++ e ∷ []))
    its_table =
        subst (IsTable new) (sym (nodes-more es e))
        (table-more look new (nodes_of es) e.node old.table none parts (λ q. more q ∙ ap (λ n. cond (is_at (key_cmp (key_of e.node)) q) (Some n) (look q)) (sym (many-nodes es))))

    word : Open → ℕ
    word t = in_word (type_size t)

    grown : entry_types (es ++ e ∷ []) ≡ entry_types es ++ node_type (entry_types es) e.node ∷ []
    grown = ap types_of (nodes-more es e) ∙ nodes-grow [] (nodes_of es) e.node

    its_sizes : map (λ x. x.size) (es ++ e ∷ []) ≡ map (λ t. in_word (type_size t)) (entry_types (es ++ e ∷ []))
    its_sizes =
        map_push (λ (x : Entry). x.size) es e
        ∙ (λ i. old.sizes i ++ size i ∷ [])
        ∙ sym (map_push (λ t. in_word (type_size t)) (entry_types es) (node_type (entry_types es) e.node))
        ∙ ap (map (λ t. in_word (type_size t))) (sym grown)

-- the size of the entry at a number is that of its type
pub size-at : (look : ℕ × ℕ × ℕ → Option ℕ) (es : List Entry) (n : ℕ) (y : Entry) → AreEntries look es → n < length (entry_types es) → (get_or es n y).size ≡ in_word (type_size (type_at (entry_types es) n))
size-at look es n y old l =
    let w : n < length es = omega (arith, l, many-entries es) in
    sym (lists.get_or-map (λ (x : Entry). x.size) es n y 1 w)
    ∙ ap (λ ks. get_or ks n 1) old.sizes
    ∙ lists.get_or-map (λ t. in_word (type_size t)) (entry_types es) n unit 1 l

-- the node of the entry at a number is that of the number's type
pub node-of : (look : ℕ × ℕ × ℕ → Option ℕ) (es : List Entry) (n : ℕ) (y : Entry) → AreEntries look es → n < length (entry_types es) → y ≡ get_or es n y → IsNode (entry_types es) n y.node
node-of look es n y old l e =
    let w : n < length es = omega (arith, l, many-entries es) in
    let in_nodes : n < length (nodes_of es) = omega (arith, w, many-nodes es) in
    let same : get_or (nodes_of es) n y.node ≡ y.node = lists.get_or-map (λ (x : Entry). x.node) es n y y.node w ∙ ap (λ x. x.node) (sym e) in
    subst (IsNode (entry_types es) n) same (node-at (nodes_of es) n y.node old.table.whole in_nodes)

-- the type of an entry that is added stands at the end
pub added-entry : (es : List Entry) (e : Entry) → IsAdded (entry_types es) (entry_types (es ++ e ∷ [])) (length es) (node_type (entry_types es) e.node)
added-entry es e =
    subst (λ ns. IsAdded (entry_types es) (types_of ns) (length es) (node_type (entry_types es) e.node)) (sym (nodes-more es e))
    (subst (λ n. IsAdded (entry_types es) (types_of (nodes_of es ++ e.node ∷ [])) n (node_type (entry_types es) e.node)) (many-nodes es) (added-node (nodes_of es) e.node))

-- what is left when an entry that was added is taken off
pub taken-front : (es : List Entry) (e : Entry) (grown : List Entry) → grown ≡ es ++ e ∷ [] → take (length grown - 1) grown ≡ es
taken-front es e grown same =
    let long : length (es ++ e ∷ []) - 1 ≡ length es = omega (arith, more-long es e) in
    (λ i. take (length (same i) - 1) (same i)) ∙ ap (λ n. take n (es ++ e ∷ [])) long ∙ take-append_seam es (e ∷ [])
