use Rattle.std.proofs.Common.{◌≡◌, length}
use Rattle.std.specs.Prelude.{find}
use Rattle.std.specs.BTreeMap.{get_by_text}
use Rattle.selecting.specs.Elsewhere.{is_elsewhere}
use Rattle.selecting.proofs.elsewhere.Elsewhere.name_of.Given as goal

abbrev pub invariant-names : goal.invariant-names
invariant-names l =
    find (is_elsewhere (get_by_text l.self.selected) (get_by_text l.self.before) (get_by_text l.self.after) l.item.file) l.rest
    ≡ find (is_elsewhere (get_by_text l.self.selected) (get_by_text l.self.before) (get_by_text l.self.after) l.item.file) l.item.declared.names

abbrev pub decreases-names : goal.decreases-names
decreases-names l = length l.rest
