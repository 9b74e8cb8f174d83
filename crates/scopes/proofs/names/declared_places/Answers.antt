use Rattle.std.proofs.Common.{◌≡◌, ℕ, List, map, ap, ◌∙◌, subst, IfOk}
use Rattle.std.specs.BTreeMap.{get_by_text}
use Rattle.diag.specs.Refusal.{Refuses, RefusesNone}
use Rattle.texts.specs.Names.{IsDistinct, place_in}
use Rattle.syntax.specs.declared.item.Declaration.{Declaration}
use Rattle.scopes.specs.Names.{texts, IsGivenTwice}
use Rattle.scopes.proofs.Declared.{declared_names-are, declared_idents-are}
use Rattle.scopes.proofs.names.declared_places.Goals as goal

pub returns-clause-places : goal.returns-clause-places
returns-clause-places c =
    let names = ap (λ (ds : List Declaration). texts (map (λ d. d.ident) ds)) c.as_slice.ensures ∙ declared_names-are c.args.declarations.now.items in
    subst (λ ns. IfOk c.places_of.result (λ places. (name : List ℕ) → get_by_text places name ≡ place_in name ns)) names c.places_of.ensures.places

pub returns-clause-distinct : goal.returns-clause-distinct
returns-clause-distinct c =
    let names = ap (λ (ds : List Declaration). texts (map (λ d. d.ident) ds)) c.as_slice.ensures ∙ declared_names-are c.args.declarations.now.items in
    subst (λ ns. IfOk c.places_of.result (λ _. IsDistinct ns)) names c.places_of.ensures.distinct

pub returns-clause-once : goal.returns-clause-once
returns-clause-once c =
    let idents = ap (λ (ds : List Declaration). map (λ d. d.ident) ds) c.as_slice.ensures ∙ declared_idents-are c.args.declarations.now.items in
    subst (λ xs. IfOk c.places_of.result (λ _. RefusesNone (IsGivenTwice xs))) idents c.places_of.ensures.once

pub returns-clause-refused : goal.returns-clause-refused
returns-clause-refused c =
    let idents = ap (λ (ds : List Declaration). map (λ d. d.ident) ds) c.as_slice.ensures ∙ declared_idents-are c.args.declarations.now.items in
    subst (λ xs. Refuses c.places_of.result (IsGivenTwice xs)) idents c.places_of.ensures.refused
