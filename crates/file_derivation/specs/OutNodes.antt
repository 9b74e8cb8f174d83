-- How the program finds the names that are left out: as those that are reached from the names at fault.
use Rattle.std.specs.Prelude.{ℕ, List, [], ◌∷◌, ◌++◌, map, Bool, true, false, Option, is_none}
use Rattle.std.specs.List.{flat_map}
use Rattle.reaching.specs.declared.node.Node.{Node}
use Rattle.prepare.specs.declared.file_items.FileItem.{FileItem}
use Rattle.file_derivation.specs.declared.judged.Judged.{Judged}
use Rattle.file_derivation.specs.declared.judged.Verdict.{Verdict}
use Rattle.file_derivation.specs.declared.judged.Verdict.TheVariants.{Fault, Sound}

abbrev pub is_fault : Verdict → Bool
is_fault (Fault told) = true
is_fault (Sound span) = false

-- an item at fault names itself first
abbrev pub judged_node : Judged → Node
judged_node j = record { name = j.item.now.declared.name; is_first = is_fault j.verdict; names = j.item.now.declared.name ∷ [] }

-- from a name that an item names to its own
abbrev pub needs_node : FileItem → List ℕ → Node
needs_node i name = record { name = name; is_first = false; names = i.declared.name ∷ [] }

abbrev pub needs_nodes : FileItem → List Node
needs_nodes i = needs_node i i.declared.name ∷ map (needs_node i) i.declared.names

abbrev pub out_nodes : List FileItem → List Judged → List Node
out_nodes items judged = map judged_node judged ++ flat_map needs_nodes items

-- what is reached is not in the map
abbrev pub is_reached : {X : Type 0} → (List ℕ → Option X) → List ℕ → Bool
is_reached unreached name = is_none (unreached name)
