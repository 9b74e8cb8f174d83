use Rattle.std.proofs.Common.{◌≡◌, ◌∷◌, ◌++◌, take}
use Rattle.std.specs.List.{flat_map}
use Rattle.diag.specs.Suggestion.{line_of}
use Rattle.diag.proofs.diagnostics.push_entry.Given as goal

-- each suggestion so far stands after a new line
abbrev pub invariant-loop-suggestion : goal.invariant-loop-suggestion
invariant-loop-suggestion l = l.text ≡ l.initial.text ++ flat_map (λ suggestion. 10 ∷ line_of suggestion) (take l.suggestion-index l.suggestion-items)
