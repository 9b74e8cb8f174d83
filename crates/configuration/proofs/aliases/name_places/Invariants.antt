use Rattle.std.proofs.Common.{◌≡◌, ℕ, List, take}
use Rattle.std.specs.BTreeMap.{get_by_text}
use Rattle.texts.specs.Names.{place_in}
use Rattle.configuration.proofs.aliases.name_places.Given as goal

-- the map has the places of the names so far
abbrev pub invariant-loop-at : goal.invariant-loop-at
invariant-loop-at l = (name : List ℕ) → get_by_text l.places name ≡ place_in name (take l.at l.names)
