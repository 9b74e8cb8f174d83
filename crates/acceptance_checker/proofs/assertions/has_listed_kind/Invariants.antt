use Rattle.std.proofs.Common.{◌≡◌, ◌||◌, drop, option_map}
use Rattle.std.specs.List.{list_any}
use Rattle.acceptance.specs.Acceptance.{kinds_of, texts_of}
use Rattle.texts.specs.Names.{is_in}
use Rattle.acceptance_checker.specs.Layer.{json_of_layer, json_of_values}
use Rattle.acceptance_checker.proofs.assertions.has_listed_kind.Given as goal

abbrev pub invariant-loop-word : goal.invariant-loop-word
invariant-loop-word l = option_map (λ ks. l.found || list_any (λ w. is_in w (kinds_of (json_of_layer l.v))) ks) (texts_of (json_of_values (drop l.word-index l.words)))
    ≡ option_map (list_any (λ w. is_in w (kinds_of (json_of_layer l.v)))) (texts_of (json_of_values l.words))
