use Rattle.std.proofs.Common.{◌≡◌, length}
use Rattle.std.specs.BTreeMap.{get_by_text}
use Rattle.std.specs.List.{list_any}
use Rattle.selecting.specs.Imports.{is_type}
use Rattle.selecting.proofs.imports.has_type.Given as goal

abbrev pub invariant-names : goal.invariant-names
invariant-names l = list_any (is_type (get_by_text l.found)) l.rest ≡ list_any (is_type (get_by_text l.found)) l.names

abbrev pub decreases-names : goal.decreases-names
decreases-names l = length l.rest
