use Rattle.std.proofs.Common.{◌≡◌, ◌++◌, ◌∙◌, ℕ, List, Option, map, ap, ap₂, append_assoc}
use Rattle.std.proofs.lemmas.Result.{on_ok_weaker}
use Rattle.texts.specs.declared.span.Span.{Span}
use Rattle.written_types.specs.Written.{written_view}
use Rattle.open_types.specs.Open.{open_view}
use Rattle.warnings.specs.Rules.{warning_view}
use Rattle.warnings.specs.Through.{declarations_of}
use Rattle.warnings.specs.Types.{span_of}
use Rattle.warnings.specs.Flat.{flat_view}
use Rattle.warnings.specs.declared.flat.Flat.{Flat}
use Rattle.warnings.specs.Flattened.{flattened_message, warning_if, key_warnings_of}
use Rattle.warnings.proofs.flattened.push_flattened_type.Goals as goal

pub returns : goal.returns
returns c =
    let lookup = c.args.lookup.now in
    let ty = written_view c.args.ty.now in
    let of = open_view c.args.of.now in
    let fs = map flat_view lookup.flats in
    let before = map warning_view c.args.warnings.now in
    let keys = key_warnings_of fs (declarations_of lookup.places.now) ty of in
    let message = c.flattened_message-message.ensures ∙ ap (λ (flats : List Flat). flattened_message (map flat_view flats) c.args.several of) c.as_slice.ensures in
    let first : map warning_view c.push_if.new.warnings ≡ before ++ warning_if (span_of ty) (flattened_message fs c.args.several of) =
    c.in_ok-push_if.ensures ∙ ap₂ (λ (s : Span) (m : Option (List ℕ)). before ++ warning_if s m) c.span_of.ensures message in
    on_ok_weaker c.push_keys_of.result
    (λ is. is ∙ ap (λ zs. zs ++ keys) first ∙ append_assoc before (warning_if (span_of ty) (flattened_message fs c.args.several of)) keys)
    c.push_keys_of.ensures
