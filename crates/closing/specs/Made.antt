-- What is made of instances by number, where they are marked.
use Rattle.std.specs.Prelude.{◌≡◌, ◌<◌, ℕ, List, [], ◌∷◌, length, map, get_or, Bool, Some, is_some, IsTrue}
use Rattle.schema_trees.specs.declared.tree.RefLeaf.{RefLeaf}
use Rattle.schema_trees.specs.Schema.{SchemaOf, leaf}
use Rattle.schema_core.specs.Document.{Entry}
use Rattle.schema_core.specs.Entries.{find, entry_names, with_entry, IsInOrder}
use Rattle.open_types.specs.Open.{Open}
use Rattle.component.specs.Leaves.{LeafOf, param}
use Rattle.shapes.specs.Declarations.{DeclarationOf}
use Rattle.terms.specs.InstanceTerms.{instance_term}
use Rattle.shapes.specs.InstanceNames.{instance_name}
use Rattle.inlining.specs.Inlining.{targets_of, AreOnce, IsAmong}
use Rattle.inlining.specs.Marks.{mark}
use Rattle.instances.specs.Lists.{IsOneOf, instance_at, AreInstances}
use Rattle.instances.specs.Names.{NamesDiffer}
use Rattle.closing.specs.Closed.{schema_in}
use Rattle.closing.specs.Closed.{instance_schema}

-- the targets of what is marked are marked
abbrev pub AreAlong : List Bool → List (List ℕ) → Type 0
AreAlong marks g = (n m : ℕ) → IsTrue (mark marks n) → IsAmong m (targets_of g n) → IsTrue (mark marks m)

-- the terms of the instances that are marked
abbrev pub AreTerms : List DeclarationOf → List Open → List Bool → List (SchemaOf LeafOf) → Type 0
AreTerms ss is marks terms = (n : ℕ) → n < length is → IsTrue (mark marks n) → get_or terms n (leaf (param 0)) ≡ instance_term ss (instance_at is n)

-- their schemas
abbrev pub AreSchemas : List DeclarationOf → List Open → List Bool → List (SchemaOf RefLeaf) → Type 0
AreSchemas ss is marks made = (n : ℕ) → n < length is → IsTrue (mark marks n) → schema_in made n ≡ instance_schema ss (instance_at is n)

-- The entries of these instances: each has its schema under its name, and there are no others; in byte order of the names.
pub record AreEntriesOf (ss : List DeclarationOf) (ts : List Open) (components : List Entry) : Type 0 where
  pub held : (t : Open) → IsOneOf t ts → find (instance_name ss t) components ≡ Some (instance_schema ss t)
  pub only : (name : List ℕ) → IsTrue (is_some (find name components)) → (t : Open) × IsOneOf t ts × (name ≡ instance_name ss t)
  pub order : IsInOrder (entry_names components)

-- entries, and those of these instances by number: each has its schema under its name, and stands where its name belongs
abbrev pub entries_from : List DeclarationOf → List Open → List Entry → List ℕ → List Entry
entries_from ss is es [] = es
entries_from ss is es (n ∷ ns) = entries_from ss is (with_entry (instance_name ss (instance_at is n)) (instance_schema ss (instance_at is n)) es) ns

abbrev pub entries_at : List DeclarationOf → List Open → List ℕ → List Entry
entries_at ss is ns = entries_from ss is [] ns

-- The law: the entries of instances that differ are theirs, and as many.
abbrev pub EntriesAre : Type 0
EntriesAre = (ss : List DeclarationOf) (is : List Open) (ns : List ℕ) → AreInstances ss is → NamesDiffer ss → AreOnce ns → ((n : ℕ) → IsAmong n ns → n < length is) →
    AreEntriesOf ss (map (instance_at is) ns) (entries_at ss is ns) × (length (entries_at ss is ns) ≡ length ns)
