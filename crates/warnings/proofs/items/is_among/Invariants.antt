use Rattle.std.proofs.Common.{◌≡◌, ℕ, List, Bor, take, false}
use Rattle.std.specs.List.{list_any}
use Rattle.serde_rules.specs.Items.{is_named}
use Rattle.warnings.proofs.items.is_among.Given as goal

-- none of the names so far is the item's
abbrev pub invariant-loop-name : goal.invariant-loop-name
invariant-loop-name l = list_any (λ (name : Bor (List ℕ)). is_named name.now l.item) (take l.name-index l.names) ≡ false
