use Rattle.std.proofs.Common.{◌≡◌, ℕ, List, map, take}
use Rattle.std.specs.BTreeMap.{get_by_text}
use Rattle.texts.specs.Names.{place_in}
use Rattle.scopes.specs.Names.{texts}
use Rattle.scopes.proofs.names.first_places.Given as goal

-- the map has the places of the names so far
abbrev pub invariant-loop-at : goal.invariant-loop-at
invariant-loop-at g l = (name : List ℕ) → get_by_text l.places name ≡ place_in name (texts (map g.T.Named.ident_of (take l.at l.items)))
