use Rattle.std.proofs.Common.{◌≡◌, ◌&&◌, drop, option_map}
use Rattle.std.specs.List.{list_all}
use Rattle.acceptance.specs.Acceptance.{texts_of}
use Rattle.acceptance.specs.Json.{names}
use Rattle.texts.specs.Names.{is_in}
use Rattle.acceptance_checker.specs.Layer.{json_of_values}
use Rattle.acceptance_checker.proofs.Views.{pairs}
use Rattle.acceptance_checker.proofs.assertions.has_listed_names.Given as goal

abbrev pub invariant-loop-name : goal.invariant-loop-name
invariant-loop-name l = option_map (λ ks. l.all && list_all (λ k. is_in k (names (pairs l.members.entries))) ks) (texts_of (json_of_values (drop l.name-index l.names)))
    ≡ option_map (list_all (λ k. is_in k (names (pairs l.members.entries)))) (texts_of (json_of_values l.names))
