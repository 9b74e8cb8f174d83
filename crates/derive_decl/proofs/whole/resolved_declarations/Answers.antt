use Rattle.std.proofs.Common.{◌≡◌, ◌<◌, ◌∙◌, List, length, get_or, map, take, ap, subst, arith, inl, inr, None, Some}
use Rattle.std.proofs.lemmas.Grind.{common_steps}
use Rattle.std.proofs.lemmas.Result.{err_from_is_err_and}
use Rattle.syntax.specs.declared.item.Declaration.{Declaration}
use Rattle.syntax.specs.Items.{declaration_view, declarations_view}
use Rattle.syntax.specs.Named.{IsNamedBody}
use Rattle.derive_decl.specs.Attributed.{attributes_in, first_other}
use Rattle.derive_decl.specs.Resolved.{around_of, all_of, resolved_of, Around}
use Rattle.derive_decl.specs.Faults.{IsFaultyItem}
use Rattle.shapes.specs.Views.{declaration_view as resolved_view}
use Rattle.derive_decl.proofs.First.{each_derivable}
use Rattle.derive_decl.proofs.Growing.{all_more, fact_at, somewhere}
use Rattle.derive_decl.proofs.Over.{names_are, all_fitting}
use Rattle.derive_decl.proofs.whole.resolved_declarations.Goals as goal
use Rattle.derive_decl.specs.Whole.{resolved_among}
use Rattle.derive_decl.proofs.Owners.{around_is}
use Rattle.scopes.specs.Scopes.{declared_in, name_in, generics_in}
use Rattle.scopes.specs.declared.scope.Scope.{Scope}
use Rattle.scopes.specs.declared.scope.Places.{Places}
use Rattle.configuration.specs.declared.config.Config.{Config}

-- what is known in the scope
abbrev known_here : Scope → Config → Around
known_here scope config = around_of config (declared_in scope) (name_in scope) (generics_in scope)

pub returns-in_err-resolved_of-clause-refused : goal.returns-in_err-resolved_of-clause-refused
returns-in_err-resolved_of-clause-refused c =
    let p = err_from_is_err_and c.from_residual-in_err-resolved_of.result c.from_residual-in_err-resolved_of.ensures.1 in
    let items = c.args.places.now.declarations.now.items in
    let at = c.loop-owner.owner in
    let d = c.index-as_slice-owner.result in
    let lt : at < length items = omega arith in
    let is : d ≡ get_or items at d = c.index-as_slice-owner.is ∙ ap (λ (xs : List Declaration). get_or xs at d) c.as_slice.ensures in
    let same : known_here c.in_ok-scope.scope c.args.config.now ≡ around_of c.args.config.now (declarations_view c.args.places.now.declarations.now) d.ident.text (declaration_view d).generics =
    around_is c.args.config.now c.in_ok-scope.scope.places.now.declarations.now c.args.places.now.declarations.now c.in_ok-scope.scope.owner at d (ap (λ (places : Places). places.declarations.now) c.in_ok-scope.ensures.places) c.in_ok-scope.ensures.owner lt is in
    rw (p.1, p.2)
    (elim c.in_err-resolved_of.ensures.refused [
      | inl memory ↦ inl memory
      | inr fault ↦ inr (somewhere (λ x. IsFaultyItem (around_of c.args.config.now (declarations_view c.args.places.now.declarations.now) x.ident.text x.generics) x c.in_err-resolved_of.field-0.0) declaration_view items at d lt is (subst (λ around. IsFaultyItem around (declaration_view d) c.in_err-resolved_of.field-0.0) same fault))
    ])

pub loop-owner-preserved : goal.loop-owner-preserved
loop-owner-preserved c =
    let items = c.args.places.now.declarations.now.items in
    let at = c.loop-owner.owner in
    let d = c.index-as_slice-owner.result in
    let lt : at < length items = omega arith in
    let is : d ≡ get_or items at d = c.index-as_slice-owner.is ∙ ap (λ (xs : List Declaration). get_or xs at d) c.as_slice.ensures in
    let same : known_here c.in_ok-scope.scope c.args.config.now ≡ around_of c.args.config.now (declarations_view c.args.places.now.declarations.now) d.ident.text (declaration_view d).generics =
    around_is c.args.config.now c.in_ok-scope.scope.places.now.declarations.now c.args.places.now.declarations.now c.in_ok-scope.scope.owner at d (ap (λ (places : Places). places.declarations.now) c.in_ok-scope.ensures.places) c.in_ok-scope.ensures.owner lt is in
    rw c.in_ok-push.ensures.ok (all_more (resolved_among c.args.config.now (declarations_view c.args.places.now.declarations.now)) declaration_view resolved_view items at d c.loop-owner.resolved _ lt is c.loop-owner.invariant
    (subst (λ around. resolved_of around (declaration_view d) ≡ Some (resolved_view c.in_ok-resolved_of.field-0)) same c.in_ok-resolved_of.ensures.resolved))

pub resolved_of-requires-clause-named : goal.resolved_of-requires-clause-named
resolved_of-requires-clause-named c =
    let items = c.args.places.now.declarations.now.items in
    let at = c.loop-owner.owner in
    let d = c.index-as_slice-owner.result in
    let lt : at < length items = omega arith in
    let is : d ≡ get_or items at d = c.index-as_slice-owner.is ∙ ap (λ (xs : List Declaration). get_or xs at d) c.as_slice.ensures in
    fact_at (λ x. IsNamedBody x.body) declaration_view items at d lt is c.requires.named

pub resolved_of-requires-clause-derivable : goal.resolved_of-requires-clause-derivable
resolved_of-requires-clause-derivable c =
    let items = c.args.places.now.declarations.now.items in
    let at = c.loop-owner.owner in
    let d = c.index-as_slice-owner.result in
    let lt : at < length items = omega arith in
    let is : d ≡ get_or items at d = c.index-as_slice-owner.is ∙ ap (λ (xs : List Declaration). get_or xs at d) c.as_slice.ensures in
    fact_at (λ x. first_other (attributes_in x) ≡ None) declaration_view items at d lt is (each_derivable (map declaration_view items) c.requires.derivable)

-- all of them, where the loop has ended
pub returns-clause-resolved : goal.returns-clause-resolved
returns-clause-resolved c =
    let whole : take c.loop-owner.owner c.args.places.now.declarations.now.items ≡ c.args.places.now.declarations.now.items = grind (arith, common_steps) in
    let config = c.args.config.now in
    subst (λ ds. all_of (resolved_among config (declarations_view c.args.places.now.declarations.now)) (map declaration_view ds) ≡ Some (map resolved_view c.loop-owner.resolved)) whole c.loop-owner.invariant

pub returns-clause-names : goal.returns-clause-names
returns-clause-names c =
    let whole : take c.loop-owner.owner c.args.places.now.declarations.now.items ≡ c.args.places.now.declarations.now.items = grind (arith, common_steps) in
    let config = c.args.config.now in
    let ds = declarations_view c.args.places.now.declarations.now in
    names_are config ds (map resolved_view c.loop-owner.resolved) (subst (λ xs. all_of (resolved_among config ds) (map declaration_view xs) ≡ Some (map resolved_view c.loop-owner.resolved)) whole c.loop-owner.invariant)

pub returns-clause-fitting : goal.returns-clause-fitting
returns-clause-fitting c =
    let whole : take c.loop-owner.owner c.args.places.now.declarations.now.items ≡ c.args.places.now.declarations.now.items = grind (arith, common_steps) in
    let config = c.args.config.now in
    let ds = declarations_view c.args.places.now.declarations.now in
    all_fitting c.resolved_are_over.ensures config ds (map resolved_view c.loop-owner.resolved) (subst (λ xs. all_of (resolved_among config ds) (map declaration_view xs) ≡ Some (map resolved_view c.loop-owner.resolved)) whole c.loop-owner.invariant)
