use Rattle.std.proofs.Common.{◌≡◌, Some, is_some, map, inl, inr, ap, sym, subst}
use Rattle.std.proofs.lemmas.Result.{err_from_is_err_and}
use Rattle.syntax.specs.Items.{declarations_view}
use Rattle.scopes.specs.Names.{declared_names}
use Rattle.shapes.specs.Declarations.{declaration_names}
use Rattle.derive_decl.specs.Faults.{AreDerivable, AreFaultyItems}
use Rattle.shapes.specs.Views.{declaration_view}
use Rattle.derive_decl.specs.Whole.{resolved_declarations}
use Rattle.compose.proofs.sets.settle.Goals as goal

pub returns-in_err-only_derivable-clause-refused : goal.returns-in_err-only_derivable-clause-refused
returns-in_err-only_derivable-clause-refused c =
    let p = err_from_is_err_and c.from_residual.result c.from_residual.ensures.1 in
    rw (p.1, p.2)
    (elim c.in_err-only_derivable.ensures.refused [
      | inl memory ↦ inl memory
      | inr fault ↦ inr (inl fault)
    ])

pub returns-in_err-by_name-clause-refused : goal.returns-in_err-by_name-clause-refused
returns-in_err-by_name-clause-refused c =
    let p = err_from_is_err_and c.from_residual-in_err-by_name.result c.from_residual-in_err-by_name.ensures.1 in
    rw (p.1, p.2)
    (elim c.in_err-by_name.ensures.refused [
      | inl memory ↦ inl memory
      | inr twice ↦ inr (inr (c.in_ok-only_derivable.ensures.derivable, inl twice))
    ])

pub returns-in_err-resolved-clause-refused : goal.returns-in_err-resolved-clause-refused
returns-in_err-resolved-clause-refused c =
    let config = c.args.config.now in
    let same = ap declarations_view c.in_ok-places.ensures.declarations in
    let p = err_from_is_err_and c.from_residual-in_err-resolved.result c.from_residual-in_err-resolved.ensures.1 in
    rw (p.1, p.2)
    (elim c.in_err-resolved.ensures.refused [
      | inl memory ↦ inl memory
      | inr fault ↦ inr (inr (c.in_ok-only_derivable.ensures.derivable, inr (subst (λ ds. AreFaultyItems config ds c.in_err-resolved.field-0.0) same fault)))
    ])

pub resolved_declarations-requires-clause-derivable : goal.resolved_declarations-requires-clause-derivable
resolved_declarations-requires-clause-derivable c = subst AreDerivable (sym (ap declarations_view c.in_ok-places.ensures.declarations)) c.in_ok-only_derivable.ensures.derivable

pub returns-clause-settled : goal.returns-clause-settled
returns-clause-settled c =
    let config = c.args.config.now in
    let ds = declarations_view c.args.declarations.now in
    let same = ap declarations_view c.in_ok-places.ensures.declarations in
    let resolved = map declaration_view c.in_ok-resolved.resolved in
    let resolves : resolved_declarations config ds ≡ Some resolved = subst (λ ds. resolved_declarations config ds ≡ Some resolved) same c.in_ok-resolved.ensures.resolved in
    record {
      resolves = resolves;
      clear = record {
        derivable = c.in_ok-only_derivable.ensures.derivable;
        faultless = λ e h. elim h [ inl twice ↦ c.in_ok-by_name.ensures.once e twice | inr fault ↦ (c.resolution_is_exact.ensures.declarations config ds c.requires).0 (ap is_some resolves) e fault ];
      };
      names = subst (λ ds. declaration_names resolved ≡ declared_names ds) same c.in_ok-resolved.ensures.names;
      fitting = c.in_ok-resolved.ensures.fitting;
    }
