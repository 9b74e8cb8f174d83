use Rattle.std.proofs.Common.{◌≡◌}
use Rattle.std.specs.List.{list_all}
use Rattle.acceptance.specs.Json.{names}
use Rattle.texts.specs.Names.{is_in}
use Rattle.acceptance_checker.proofs.Views.{pairs}
use Rattle.acceptance_checker.proofs.equality.has_each_name.Given as goal

abbrev pub invariant-loop-name : goal.invariant-loop-name
invariant-loop-name l = list_all (λ k. is_in k (names (pairs l.ms.entries))) (names (pairs l.name-iterator)) ≡ list_all (λ k. is_in k (names (pairs l.ms.entries))) (names (pairs l.ns.entries))
