use Rattle.std.proofs.Common.{arith, vec_len, ◌≡◌, ◌∙◌, ◌-◌, sym, ap, subst, ℕ, List, Option, Some, None, cond, length, take}
use Rattle.std.specs.BTreeMap.{get, is_at}
use Rattle.std.specs.Map.{lookup}
use Rattle.open_types.specs.Open.{Open}
use Rattle.open_types.specs.Instances.{type_size}
use Rattle.type_table.specs.declared.node.Node.{Node}
use Rattle.type_table.specs.declared.types.Entry.{Entry}
use Rattle.type_table.specs.Keys.{key_of, key_cmp}
use Rattle.type_table.specs.Nodes.{node_type, nodes_of, entry_types, HasParts, AreEntries}
use Rattle.type_table.specs.Types.{in_word, IsFound}
use Rattle.type_table.proofs.Finds.{not-listed}
use Rattle.type_table.proofs.Grown.{not-found, IsAdded}
use Rattle.type_table.proofs.Sizes.{entries-more, added-entry, taken-front}
use Rattle.type_table.proofs.types.Types.push.Goals as goal

pub invariant_of-self-in-Ok : goal.invariant_of-self-in-Ok
invariant_of-self-in-Ok c =
    let look : ℕ × ℕ × ℕ → Option ℕ = get key_cmp c.self.inside.index in
    let es : List Entry = c.self.inside.entries.items in
    let node : Node = c.args.node in
    let entry : Entry = record { node = node; size = c.node_size-size.result } in
    let old : (ts : List Open) → Type 0 = λ ts. IsFound ts (node_type ts node) None in
    let none : look (key_of node) ≡ None = not-found look (nodes_of es) node c.self.invariant.table (not-listed (entry_types es) (node_type (entry_types es) node) (subst old (sym c.self.view_is) c.requires.missing)) in
    let parts : HasParts (entry_types es) node = subst (λ ts. HasParts ts node) (sym c.self.view_is) c.requires.parts in
    let size : c.node_size-size.result ≡ in_word (type_size (node_type (entry_types es) node)) = c.node_size-size.ensures ∙ ap (λ ts. in_word (type_size (node_type ts node))) (sym c.self.view_is) in
    let many : vec_len c.self.inside.entries ≡ length es = omega arith in
    let more : (q : ℕ × ℕ × ℕ) → get key_cmp c.insert.new.self q ≡ cond (is_at (key_cmp (key_of node)) q) (Some (length es)) (look q) =
    λ q. c.in-Ok.ensures.updates.0 q ∙ (λ i. cond (is_at (key_cmp (c.key-key.ensures i)) q) (Some ((c.len-number.ensures ∙ many) i)) (look q)) in
    subst (AreEntries (get key_cmp c.insert.new.self)) (sym c.in_ok-push.ensures.items) (entries-more look (get key_cmp c.insert.new.self) es entry c.self.invariant none parts size more)

pub invariant_of-self-in-Err : goal.invariant_of-self-in-Err
invariant_of-self-in-Err c =
    let es : List Entry = c.self.inside.entries.items in
    let entry : Entry = record { node = c.args.node; size = c.node_size-size.result } in
    let all : vec_len c.push.new.self ≡ length c.push.new.self.items = omega arith in
    let popped : c.pop.new.self.items ≡ es = c.pop.ensures.rest ∙ ap (λ n. take (n - 1) c.push.new.self.items) all ∙ taken-front es entry c.push.new.self.items c.in_ok-push.ensures.items in
    subst (AreEntries (get key_cmp c.insert.new.self)) (sym popped)
    (subst (λ look. AreEntries look es) (λ i q. lookup (is_at (key_cmp q)) (sym c.in-Err.ensures.err i)) c.self.invariant)

-- the entry's type is the last
added : (c : goal.In-Ok) → IsAdded c.args.self.now (entry_types c.push.new.self.items) c.len-number.result (node_type c.args.self.now c.args.node)
added c =
    let es : List Entry = c.self.inside.entries.items in
    let entry : Entry = record { node = c.args.node; size = c.node_size-size.result } in
    let many : vec_len c.self.inside.entries ≡ length es = omega arith in
    let number : length es ≡ c.len-number.result = sym (c.len-number.ensures ∙ many) in
    subst (λ ts. IsAdded ts (entry_types c.push.new.self.items) c.len-number.result (node_type ts c.args.node)) c.self.view_is
    (subst (λ n. IsAdded (entry_types es) (entry_types c.push.new.self.items) n (node_type (entry_types es) c.args.node)) number
    (subst (λ xs. IsAdded (entry_types es) (entry_types xs) (length es) (node_type (entry_types es) c.args.node)) (sym c.in_ok-push.ensures.items) (added-entry es entry)))

pub returns-in-Ok-clause-within : goal.returns-in-Ok-clause-within
returns-in-Ok-clause-within c = (added c).within

pub returns-in-Ok-clause-found : goal.returns-in-Ok-clause-found
returns-in-Ok-clause-found c = (added c).its_type

pub returns-in-Ok-clause-front : goal.returns-in-Ok-clause-front
returns-in-Ok-clause-front c = (added c).front
