-- Texts of schemas that stand in those of others.
use Rattle.std.specs.Prelude.{◌≡◌, ◌<◌, ◌+◌, ℕ, List, [], ◌∷◌, length, get_or, Option, Some, None, is_some, IsTrue}
use Rattle.std.specs.BTreeMap.{insert_entry}
use Rattle.std.specs.Cmp.Lexicographic.{slice_cmp}
use Rattle.std.specs.Ordering.{nat_cmp}
use Rattle.schema_trees.specs.declared.tree.RefLeaf.{RefLeaf}
use Rattle.schema_trees.specs.Schema.{SchemaOf}
use Rattle.schema_core.specs.declared.alternatives.Alternatives.{Alternatives}
use Rattle.schema_core.specs.Document.{Entry}
use Rattle.schema_core.specs.Form.{form_by}
use Rattle.schema_core.specs.Writes.{WritesValue}
use Rattle.open_types.specs.Open.{Open}
use Rattle.shapes.specs.Declarations.{DeclarationOf}
use Rattle.inlining.specs.Inlining.{targets_of, IsAmong}
use Rattle.instances.specs.Lists.{number_in, instance_at}
use Rattle.closing.specs.Closed.{any_value, instance_schema}

-- the text of an instance by its number, where it is there; of one that has no number, none
abbrev pub text_in : List (Option (List ℕ)) → Option ℕ → Option (List ℕ)
text_in made None = None
text_in made (Some n) = get_or made n None

-- the schema, where its text is there; else any value
abbrev pub schema_if : Option (List ℕ) → SchemaOf RefLeaf → SchemaOf RefLeaf
schema_if None s = any_value
schema_if (Some text) s = s

-- the schema of the instance of a number, where its text is there; else any value
abbrev pub there_of : List DeclarationOf → List Open → List (Option (List ℕ)) → Option ℕ → SchemaOf RefLeaf
there_of ss is made None = any_value
there_of ss is made (Some n) = schema_if (get_or made n None) (instance_schema ss (instance_at is n))

-- the same of an instance
abbrev pub there_at : List DeclarationOf → List Open → List (Option (List ℕ)) → Open → SchemaOf RefLeaf
there_at ss is made t = there_of ss is made (number_in is t)

-- each text that is there is that of the schema of its instance
abbrev pub AreTexts : List DeclarationOf → List Open → Alternatives → List (Option (List ℕ)) → Type 0
AreTexts ss is by made = (n : ℕ) (text : List ℕ) → get_or made n None ≡ Some text → WritesValue (form_by by (instance_schema ss (instance_at is n))) [] text

-- the text of the number is there
abbrev pub IsThere : List (Option (List ℕ)) → ℕ → Type 0
IsThere made n = IsTrue (is_some (get_or made n None))

-- at each turn of the order the targets of its instance are needed longer than to that turn
abbrev pub AreNeeded : List (List ℕ) → (order until : List ℕ) → Type 0
AreNeeded g order until = (i m : ℕ) → i < length order → IsAmong m (targets_of g (get_or order i 0)) → i < get_or until m 0

-- the targets of these are needed longer than to the turn
abbrev pub AreNeededTo : List (List ℕ) → (turn : ℕ) → (components until : List ℕ) → Type 0
AreNeededTo g turn components until = (n m : ℕ) → IsAmong n components → IsAmong m (targets_of g n) → turn < get_or until m 0

-- what is needed to one of the first turns, and no longer, is a target of the instance of that turn
abbrev pub AreTargetsTo : List (List ℕ) → (order : List ℕ) → (turn : ℕ) → (until : List ℕ) → Type 0
AreTargetsTo g order turn until = (i n : ℕ) → i < turn → get_or until n 0 ≡ i + 1 → IsAmong n (targets_of g (get_or order i 0))

-- what is needed longer than to the turn is a target of one of these
abbrev pub AreTargetsOf : List (List ℕ) → (turn : ℕ) → (components until : List ℕ) → Type 0
AreTargetsOf g turn components until = (n : ℕ) → turn < get_or until n 0 → (c : ℕ) × IsAmong c components × IsAmong n (targets_of g c)

-- the numbers under their names, put among others in byte order of these; of equal names the last counts
abbrev pub numbers_from : (names : List (List ℕ)) → List (List ℕ × ℕ) → List ℕ → List (List ℕ × ℕ)
numbers_from names es [] = es
numbers_from names es (n ∷ ns) = numbers_from names (insert_entry (slice_cmp nat_cmp) es (get_or names n []) n) ns

-- the texts are those of the schemas of the entries, each under the name of its entry, in their order
abbrev pub AreSchemaTexts : Alternatives → List Entry → List (List ℕ × List ℕ) → Type 0
AreSchemaTexts by [] [] = Unit {0}
AreSchemaTexts by [] (t ∷ ts) = ⊥
AreSchemaTexts by (e ∷ es) [] = ⊥
AreSchemaTexts by (e ∷ es) (t ∷ ts) = (t.0 ≡ e.0) × WritesValue (form_by by e.1) [] t.1 × AreSchemaTexts by es ts
