use Rattle.std.proofs.Common.{◌≡◌, ◌⊎◌, List, ℕ, slice_index, length, map, Option, Some, option_and_then, ◌∙◌, subst, IfOk, IfErr}
use Rattle.std.proofs.lemmas.Result.{IfOk-weaker}
use Rattle.std.specs.BTreeMap.{get_by_text}
use Rattle.diag.specs.declared.error.DeriveError.TheVariants.{Memory}
use Rattle.written_types.specs.Written.{written_view}
use Rattle.written_types.specs.declared.written.WrittenType.{WrittenType}
use Rattle.texts.specs.Names.{place_in}
use Rattle.configuration.specs.Configuration.{Configuration}
use Rattle.configuration.specs.Aliases.{alias_names, alias_types, bare}
use Rattle.open_types.specs.Open.{open_view}
use Rattle.resolving.specs.Resolved.{resolved_type, Fault, IsFault, IsRefusedFor}
use Rattle.scopes.specs.Scopes.{declared_in, generics_in, name_in, known_in}
use Rattle.scopes.specs.Parameters.{type_parameters, parameter_counts}
use Rattle.scopes.specs.declared.scope.Scope.{Scope}
use Rattle.resolving.specs.Known.{Known, type_at}
use Rattle.std.specs.Option.{is_some}
use Rattle.scopes.proofs.Declared.{placed}
use Rattle.scopes.proofs.Given.{alias_found, known_is, place_below}
use Rattle.scopes.proofs.lookup.resolve.Goals as goal

-- what the program knows in the scope
known_here : (c : Configuration) (scope : Scope) (types : List WrittenType) (aliases : List ℕ → Option ℕ) (counts : List ℕ) →
    map written_view types ≡ map bare (alias_types c.aliases) → ((k : List ℕ) → aliases k ≡ place_in k (alias_names c.aliases)) → counts ≡ parameter_counts (declared_in scope) →
    let found : Known = record { alias_of = λ k. option_and_then (type_at types) (aliases k); place_of = get_by_text scope.places.now.by_name; parameters_at = slice_index counts; own = scope.own; parameters = scope.count; parameter_of = get_by_text scope.parameters; is_constant = λ k. is_some (get_by_text scope.constants k) } in found ≡ known_in c scope
known_here c scope types aliases counts typed placed counted =
    known_is c.aliases (declared_in scope) (name_in scope) (generics_in scope) (λ k. option_and_then (type_at types) (aliases k)) (get_by_text scope.places.now.by_name) (get_by_text scope.parameters) (get_by_text scope.constants) counts scope.own scope.count
    (alias_found c.aliases types aliases typed placed) scope.places.now.placed counted scope.itself scope.counted scope.typed scope.constant

pub returns-clause-resolved : goal.returns-clause-resolved
returns-clause-resolved c =
    let scope = c.args.scope.now in
    let is = known_here c.args.config.now scope c.bare_types.result.now (get_by_text c.alias_places.result.now) c.as_slice.result.now c.bare_types.ensures c.alias_places.ensures (c.as_slice.ensures ∙ scope.places.now.counted) in
    subst (λ known. IfOk c.resolve_type.result (λ t. resolved_type known (written_view c.args.ty.now) ≡ Some (open_view t))) is c.resolve_type.ensures.resolved

pub returns-clause-over : goal.returns-clause-over
returns-clause-over c =
    let scope = c.args.scope.now in
    let ds = declared_in scope in
    IfOk-weaker c.resolve_type.result _ _
    (λ t found. c.resolved_are_over.ensures (known_in c.args.config.now scope) (length ds) (placed ds) (λ d is. placed ds (name_in scope) d is) (λ k i is. place_below k (type_parameters (generics_in scope)) i is) (written_view c.args.ty.now) (open_view t) found)
    (returns-clause-resolved c)

pub returns-clause-refused : goal.returns-clause-refused
returns-clause-refused c =
    let scope = c.args.scope.now in
    let is = known_here c.args.config.now scope c.bare_types.result.now (get_by_text c.alias_places.result.now) c.as_slice.result.now c.bare_types.ensures c.alias_places.ensures (c.as_slice.ensures ∙ scope.places.now.counted) in
    subst (λ known. IfErr c.resolve_type.result (λ e. (e ≡ Memory) ⊎ ((fault : Fault) × IsFault known (written_view c.args.ty.now) fault × IsRefusedFor fault e))) is c.resolve_type.ensures.refused
