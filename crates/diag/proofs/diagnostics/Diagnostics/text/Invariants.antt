use Rattle.std.proofs.Common.{◌≡◌, ◌∷◌, ◌++◌, take}
use Rattle.std.specs.List.{flat_map}
use Rattle.diag.specs.Diagnostics.{entry_text}
use Rattle.diag.proofs.diagnostics.Diagnostics.text.Given as goal

-- each entry so far stands after a new line
abbrev pub invariant-loop-entry : goal.invariant-loop-entry
invariant-loop-entry l = l.text ≡ l.initial.text ++ flat_map (λ entry. 10 ∷ entry_text entry) (take l.entry-index l.entry-items)
