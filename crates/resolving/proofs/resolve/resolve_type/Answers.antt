use Rattle.std.proofs.Common.{◌≡◌, ◌⊎◌, inl, inr, rules, ℕ, List, [], ◌∷◌, length, IfOk, IfErr, Option, Some, None, option_and_then, refl, sym, subst, arith}
use Rattle.std.specs.BTreeMap.{get_by_text}
use Rattle.std.proofs.lemmas.Result.{err_from_is_err_and}
use Rattle.diag.specs.Refusal.{Refuses}
use Rattle.open_types.specs.Open.{open_view}
use Rattle.written_types.specs.declared.written.WrittenType.{WrittenType}
use Rattle.written_types.specs.Written.{written_view}
use Rattle.resolving.specs.Known.{type_at, known}
use Rattle.resolving.specs.Names.{span_of}
use Rattle.resolving.specs.Aliases.{expanded_type}
use Rattle.resolving.specs.Resolved.{fitting_type, IsFaultIn, IsRefusedFor, Fault, too_large}
use Rattle.resolving.proofs.Expanding.{unaliased}
use Rattle.resolving.proofs.resolve.resolve_type.Goals as goal

no_types : (ts : List WrittenType) → length ts ≡ 0 → (o : Option ℕ) → option_and_then (type_at ts) o ≡ None
no_types [] l None = refl
no_types [] l (Some place) = refl
no_types (t ∷ ts) l o = absurd (omega arith)

pub returns-then-is_empty-clause-resolved : goal.returns-then-is_empty-clause-resolved
returns-then-is_empty-clause-resolved c =
    let names = c.args.names.now in
    let none : (name : List ℕ) → (known names).alias_of name ≡ None = λ name. no_types names.alias_types.now (search rules) (get_by_text names.aliases.now name) in
    let same = unaliased (known names) none (written_view c.args.ty.now) in
    subst (λ w. IfOk c.resolve_fitting.result (λ t. fitting_type (known names) w ≡ Some (open_view t))) (sym same) c.resolve_fitting.ensures.resolved

pub returns-then-is_empty-clause-refused : goal.returns-then-is_empty-clause-refused
returns-then-is_empty-clause-refused c =
    let names = c.args.names.now in
    let none : (name : List ℕ) → (known names).alias_of name ≡ None = λ name. no_types names.alias_types.now (search rules) (get_by_text names.aliases.now name) in
    let same = unaliased (known names) none (written_view c.args.ty.now) in
    subst (λ w. Refuses c.resolve_fitting.result (λ e. (fault : Fault) × IsFaultIn (known names) w fault × IsRefusedFor fault e)) (sym same) c.resolve_fitting.ensures.refused

pub returns-in_err-expanded-clause-refused : goal.returns-in_err-expanded-clause-refused
returns-in_err-expanded-clause-refused c =
    let q = err_from_is_err_and c.from_residual.result c.from_residual.ensures.1 in
    rw (q.1, q.2)
    (elim c.in_err-expanded.ensures.refused [
      | inl memory ↦ inl memory
      | inr fault ↦ inr (too_large (span_of (expanded_type (known c.args.names.now) (written_view c.args.ty.now))), (refl, fault.0), fault.1)
    ])

pub returns-clause-refused : goal.returns-clause-refused
returns-clause-refused c =
    let names = c.args.names.now in
    subst (λ w. Refuses c.resolve_fitting-2.result (λ e. (fault : Fault) × IsFaultIn (known names) w fault × IsRefusedFor fault e)) c.in_ok-expanded.ensures.expanded c.resolve_fitting-2.ensures.refused
