use Rattle.std.proofs.Common.{◌≡◌, ◌++◌, ℕ, List, drop, map}
use Rattle.open_types.specs.Open.{opens_view}
use Rattle.open_types.specs.TypeNames.{names_behind}
use Rattle.shapes.specs.Declarations.{declaration_at}
use Rattle.shapes.specs.Views.{declaration_view}
use Rattle.instances.proofs.names.+name.Given as goal

-- the names so far, and behind them those of the arguments that are left
abbrev pub invariant-push_arguments-loop-ty : goal.invariant-push_arguments-loop-ty
invariant-push_arguments-loop-ty l =
    let name_at : ℕ → List ℕ = λ d. (declaration_at (map declaration_view l.declared) d).name in
    l.text ++ names_behind name_at (opens_view (drop l.ty-index l.arguments)) ≡ l.initial.text ++ names_behind name_at (opens_view l.arguments)
