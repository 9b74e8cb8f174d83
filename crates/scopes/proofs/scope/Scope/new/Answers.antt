use Rattle.std.proofs.Common.{◌≡◌, ◌∙◌, ◌<◌, ℕ, List, map, length, get_or, ap, sym, subst}
use Rattle.std.proofs.lemmas.List.{map-id, length-map}
use Rattle.std.specs.BTreeMap.{get_by_text}
use Rattle.texts.specs.Names.{place_in}
use Rattle.syntax.specs.declared.item.Declaration.{Declaration}
use Rattle.syntax.specs.declared.item.GenericParam.{GenericParam}
use Rattle.syntax.specs.Items.{parameter_view, declaration_view}
use Rattle.scopes.specs.Names.{texts, place_among}
use Rattle.scopes.specs.declared.parameters.ParameterKind.TheVariants.{Types, Constants}
use Rattle.scopes.specs.Parameters.{parameters_of, generics_at}
use Rattle.scopes.proofs.Given.{generics_are, name_is}
use Rattle.scopes.proofs.scope.Scope.new.Goals as goal

pub invariant_of-result : goal.invariant_of-result
invariant_of-result c =
    let items = c.args.places.now.declarations.now.items in
    let at = c.args.owner in
    let d = c.index-as_slice-owner.result in
    let lt : at < length items = subst (λ n. at < n) (length-map items declaration_view) c.requires in
    let is : d ≡ get_or items at d = c.index-as_slice-owner.is ∙ ap (λ (xs : List Declaration). get_or xs at d) c.as_slice.ensures in
    let generics : map parameter_view c.as_slice-params.result.now ≡ generics_at (map declaration_view items) at =
    ap (λ (ps : List GenericParam). map parameter_view ps) c.as_slice-params.ensures ∙ sym (generics_are items at d lt is) in
    let types : c.in_ok-types.types ≡ parameters_of Types (generics_at (map declaration_view items) at) = c.in_ok-types.ensures ∙ ap (parameters_of Types) generics in
    let constants : c.in_ok-constants.constants ≡ parameters_of Constants (generics_at (map declaration_view items) at) = c.in_ok-constants.ensures ∙ ap (parameters_of Constants) generics in
    record {
      owned = c.requires;
      itself = c.place_of.ensures ∙ ap (place_among (map declaration_view items)) (sym (name_is items at d lt is));
      counted = c.len.ensures ∙ ap length types;
      typed = subst (λ xs. (name : List ℕ) → get_by_text c.in_ok-first_places.field-0 name ≡ place_in name (texts xs)) (map-id c.as_slice-2.result.now ∙ c.as_slice-2.ensures ∙ types) c.in_ok-first_places.ensures;
      constant = subst (λ xs. (name : List ℕ) → get_by_text c.in_ok-first_places-2.field-0 name ≡ place_in name (texts xs)) (map-id c.as_slice-3.result.now ∙ c.as_slice-3.ensures ∙ constants) c.in_ok-first_places-2.ensures;
    }
