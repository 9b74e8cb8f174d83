use Rattle.std.proofs.Common.{◌≡◌, ◌∙◌, ◌<◌, List, length, get_or, map, option_map, Some, ap, arith, inl, inr, refl}
use Rattle.std.proofs.lemmas.Option.{slice_get-map, slice_get_read}
use Rattle.std.proofs.lemmas.List.{length-map}
use Rattle.std.proofs.lemmas.Result.{err_from_is_err_and}
use Rattle.std.specs.Prelude.{slice_get}
use Rattle.configuration.specs.declared.config.Config.{Config}
use Rattle.syntax.specs.declared.item.Declaration.{Declaration}
use Rattle.syntax.specs.Items.{declaration_view, declarations_view}
use Rattle.syntax.specs.Named.{IsNamedBody}
use Rattle.derive_decl.specs.Resolved.{around_of, Around}
use Rattle.derive_decl.proofs.Growing.{fact_at}
use Rattle.derive_decl.proofs.Judging.{is_faulty, is_clear}
use Rattle.derive_decl.proofs.Owners.{around_is}
use Rattle.scopes.specs.Scopes.{declared_in, name_in, generics_in}
use Rattle.scopes.specs.declared.scope.Places.{Places}
use Rattle.scopes.specs.declared.scope.Scope.{Scope}
use Rattle.derive_decl.proofs.judged.judge_declaration.Goals as goal

-- what is known in the scope
abbrev known_here : Scope → Config → Around
known_here scope config = around_of config (declared_in scope) (name_in scope) (generics_in scope)

pub returns-in_err-only_first-clause-refused : goal.returns-in_err-only_first-clause-refused
returns-in_err-only_first-clause-refused c =
    let p = err_from_is_err_and c.from_residual.result c.from_residual.ensures.1 in
    let items = c.args.places.now.declarations.now.items in
    let at = c.args.at in
    let d = c.index-as_slice-at.result in
    let lt : at < length items = omega (arith, c.requires.within, length-map items declaration_view) in
    let is : d ≡ get_or items at d = c.index-as_slice-at.is ∙ ap (λ (xs : List Declaration). get_or xs at d) c.as_slice.ensures in
    let found : slice_get (map declaration_view items) at ≡ Some (declaration_view d) = slice_get-map declaration_view items at ∙ ap (option_map declaration_view) (slice_get_read items (length items) at d refl lt is) in
    rw (p.1, p.2)
    (elim c.in_err-only_first.ensures.refused [ inl memory ↦ inl memory | inr second ↦ inr (declaration_view d, found, inl second) ])

pub judge-requires : goal.judge-requires
judge-requires c =
    let items = c.args.places.now.declarations.now.items in
    let at = c.args.at in
    let d = c.index-as_slice-at.result in
    let lt : at < length items = omega (arith, c.requires.within, length-map items declaration_view) in
    let is : d ≡ get_or items at d = c.index-as_slice-at.is ∙ ap (λ (xs : List Declaration). get_or xs at d) c.as_slice.ensures in
    fact_at (λ x. IsNamedBody x.body) declaration_view items at d lt is c.requires.named

pub returns-clause-clear : goal.returns-clause-clear
returns-clause-clear c =
    let ds = declarations_view c.args.places.now.declarations.now in
    let items = c.args.places.now.declarations.now.items in
    let at = c.args.at in
    let d = c.index-as_slice-at.result in
    let lt : at < length items = omega (arith, c.requires.within, length-map items declaration_view) in
    let is : d ≡ get_or items at d = c.index-as_slice-at.is ∙ ap (λ (xs : List Declaration). get_or xs at d) c.as_slice.ensures in
    let found : slice_get ds at ≡ Some (declaration_view d) = slice_get-map declaration_view items at ∙ ap (option_map declaration_view) (slice_get_read items (length items) at d refl lt is) in
    let same : known_here c.in_ok-scope.scope c.args.config.now ≡ around_of c.args.config.now ds d.ident.text (declaration_view d).generics =
    around_is c.args.config.now c.in_ok-scope.scope.places.now.declarations.now c.args.places.now.declarations.now c.in_ok-scope.scope.owner at d (ap (λ (places : Places). places.declarations.now) c.in_ok-scope.ensures.places) c.in_ok-scope.ensures.owner lt is in
    is_clear c.args.config.now ds at (declaration_view d) (known_here c.in_ok-scope.scope c.args.config.now) c.judge.result found c.in_ok-only_first.ensures.first same c.judge.ensures.clear

pub returns-clause-refused : goal.returns-clause-refused
returns-clause-refused c =
    let ds = declarations_view c.args.places.now.declarations.now in
    let items = c.args.places.now.declarations.now.items in
    let at = c.args.at in
    let d = c.index-as_slice-at.result in
    let lt : at < length items = omega (arith, c.requires.within, length-map items declaration_view) in
    let is : d ≡ get_or items at d = c.index-as_slice-at.is ∙ ap (λ (xs : List Declaration). get_or xs at d) c.as_slice.ensures in
    let found : slice_get ds at ≡ Some (declaration_view d) = slice_get-map declaration_view items at ∙ ap (option_map declaration_view) (slice_get_read items (length items) at d refl lt is) in
    let same : known_here c.in_ok-scope.scope c.args.config.now ≡ around_of c.args.config.now ds d.ident.text (declaration_view d).generics =
    around_is c.args.config.now c.in_ok-scope.scope.places.now.declarations.now c.args.places.now.declarations.now c.in_ok-scope.scope.owner at d (ap (λ (places : Places). places.declarations.now) c.in_ok-scope.ensures.places) c.in_ok-scope.ensures.owner lt is in
    is_faulty c.args.config.now ds at (declaration_view d) (known_here c.in_ok-scope.scope c.args.config.now) c.judge.result found c.in_ok-only_first.ensures.first same c.judge.ensures.refused
