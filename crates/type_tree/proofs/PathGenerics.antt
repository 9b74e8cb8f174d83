-- The parameters that arguments name, one argument after the other.
use Rattle.std.proofs.Common.{◌≡◌, ℕ, ◌+◌, ◌<◌, List, [], ◌∷◌, ◌++◌, map, length, get_or, drop, Option, Some, None, refl, ap, sym, ◌∙◌}
use Rattle.std.specs.Prelude.{option_map}
use Rattle.std.specs.Option.{option_to_list}
use Rattle.std.specs.List.{cons_option}
use Rattle.std.proofs.lemmas.List.{drop_more}
use Rattle.written_types.specs.declared.written.GenericArgument.{GenericArgument}
use Rattle.written_types.specs.Written.{argument_view, arguments_view}
use Rattle.syntax.specs.declared.item.GenericParam.{GenericParam}
use Rattle.syntax.specs.Items.{ParameterItem, parameter_view}
use Rattle.type_tree.specs.PathGenerics.{argument_parameter, argument_parameters}

-- one more in front of the rest
added : (ps : List GenericParam) (found : Option GenericParam) (rest : List ParameterItem) → map parameter_view (ps ++ option_to_list found) ++ rest ≡ map parameter_view ps ++ cons_option (option_map parameter_view found) rest
added [] None rest = refl
added [] (Some p) rest = refl
added (q ∷ ps) found rest = ap (λ us. parameter_view q ∷ us) (added ps found rest)

-- what is left of the arguments, one argument on
pub parameters_push :
    (ps : List GenericParam) (found : Option GenericParam) (xs : List GenericArgument) (i : ℕ) (x : GenericArgument) (whole : List ParameterItem)
    → i < length xs → x ≡ get_or xs i x → option_map parameter_view found ≡ argument_parameter (argument_view x)
    → map parameter_view ps ++ argument_parameters (arguments_view (drop i xs)) ≡ whole
    → map parameter_view (ps ++ option_to_list found) ++ argument_parameters (arguments_view (drop (i + 1) xs)) ≡ whole
parameters_push ps found xs i x whole lt is seen before =
    let rest = argument_parameters (arguments_view (drop (i + 1) xs)) in
    let step : cons_option (option_map parameter_view found) rest ≡ argument_parameters (arguments_view (drop i xs)) =
    ap (λ o. cons_option o rest) (seen ∙ ap (λ y. argument_parameter (argument_view y)) is)
    ∙ sym (ap (λ ys. argument_parameters (arguments_view ys)) (drop_more xs i x lt)) in
    added ps found rest ∙ (ap (λ ys. map parameter_view ps ++ ys) step ∙ before)
