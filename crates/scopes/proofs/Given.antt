-- Generic parameters of a kind, and the names that are known in a scope.
use Rattle.std.proofs.Common.{◌≡◌, ◌∙◌, ◌<◌, ◌+◌, ℕ, zero, suc, List, [], ◌∷◌, ◌++◌, Bool, true, false, cond, ◌||◌, bytes_eq, Option, Some, None, option_map, option_and_then, length, take, get_or, map, refl, ap, sym, subst, arith, slice_index}
use Rattle.std.proofs.Math.Path.{fun_ext}
use Rattle.std.proofs.lemmas.List.{take_more, map_push}
use Rattle.std.proofs.lemmas.List.Elements.{filter_map-append}
use Rattle.std.proofs.lemmas.Option.{slice_get-map}
use Rattle.std.specs.List.{cons_option, slice_get}
use Rattle.std.specs.Option.{is_some}
use Rattle.texts.specs.Names.{is_in, place_in}
use Rattle.texts.proofs.Laws.{place-found}
use Rattle.written_types.specs.declared.written.Ident.{Ident}
use Rattle.written_types.specs.declared.written.WrittenType.{WrittenType}
use Rattle.written_types.specs.Written.{Written, written_view}
use Rattle.configuration.specs.Configuration.{Alias}
use Rattle.configuration.specs.Aliases.{alias_names, alias_types, bare}
use Rattle.syntax.specs.declared.item.GenericParam.{GenericParam}
use Rattle.syntax.specs.declared.item.Declaration.{Declaration}
use Rattle.syntax.specs.Items.{ParameterItem, DeclaredItem, parameter_view, declaration_view}
use Rattle.resolving.specs.Known.{Known, type_at}
use Rattle.scopes.specs.Names.{texts, declared_name, place_among}
use Rattle.scopes.specs.declared.parameters.ParameterKind.{ParameterKind}
use Rattle.scopes.specs.declared.parameters.ParameterKind.TheVariants.{Constants}
use Rattle.scopes.specs.Parameters.{ident_of_kind, parameters_of, type_parameters, parameter_counts, generics_at}
use Rattle.scopes.specs.Scopes.{alias_in, known_among}
use Rattle.scopes.proofs.PlaceLaws.{length-texts}

-- those so far, and one more where it is of the kind
pub parameters_more : (kind : ParameterKind) (items : List GenericParam) (i : ℕ) (item : GenericParam) → i < length items → item ≡ get_or items i item →
    parameters_of kind (map parameter_view (take (i + 1) items)) ≡ parameters_of kind (map parameter_view (take i items)) ++ cons_option (ident_of_kind kind (parameter_view item)) []
parameters_more kind items i item l is =
    ap (λ xs. parameters_of kind (map parameter_view xs)) (take_more items i item l)
    ∙ ap (parameters_of kind) (map_push parameter_view (take i items) (get_or items i item))
    ∙ filter_map-append (ident_of_kind kind) (map parameter_view (take i items)) (parameter_view (get_or items i item) ∷ [])
    ∙ ap (λ x. parameters_of kind (map parameter_view (take i items)) ++ cons_option (ident_of_kind kind (parameter_view x)) []) (sym is)

-- the generic parameters of a declaration that is there
pub generics_are : (items : List Declaration) (i : ℕ) (item : Declaration) → i < length items → item ≡ get_or items i item → generics_at (map declaration_view items) i ≡ (declaration_view item).generics
generics_are [] i item l is = absurd (omega arith)
generics_are (x ∷ items) zero item l is = ap (λ (d : Declaration). (declaration_view d).generics) (sym is)
generics_are (x ∷ items) (suc i) item l is = generics_are items i item (omega arith) is

-- the name of a declaration that is there
pub name_is : (items : List Declaration) (i : ℕ) (item : Declaration) → i < length items → item ≡ get_or items i item → declared_name (map declaration_view items) i ≡ item.ident.text
name_is [] i item l is = absurd (omega arith)
name_is (x ∷ items) zero item l is = ap (λ (d : Declaration). d.ident.text) (sym is)
name_is (x ∷ items) (suc i) item l is = name_is items i item (omega arith) is

-- a place is one of a name
pub place_below : (k : List ℕ) (xs : List Ident) (i : ℕ) → place_in k (texts xs) ≡ Some i → i < length xs
place_below k xs i e = subst (λ m. i < m) (length-texts xs) (place-found k (texts xs) i e).0

there : (k : List ℕ) (ns : List (List ℕ)) → is_some (place_in k ns) ≡ is_in k ns
there k [] = refl
there k (n ∷ ns) = by (bytes_eq k n) (place_in k ns) (there k ns)
  where
    by : (b : Bool) (o : Option ℕ) → is_some o ≡ is_in k ns → is_some (cond b (Some 0) (option_map suc o)) ≡ (b || is_in k ns)
    by true o h = refl
    by false None h = h
    by false (Some r) h = h

-- the type of an alias stands at the place of its name
at_place : (aliases : List Alias) (name : List ℕ) → option_and_then (slice_get (map bare (alias_types aliases))) (place_in name (alias_names aliases)) ≡ alias_in aliases name
at_place [] name = refl
at_place (a ∷ rest) name = by (bytes_eq name a.name) (place_in name (alias_names rest)) (at_place rest name)
  where
    by : (b : Bool) (o : Option ℕ) → option_and_then (slice_get (map bare (alias_types rest))) o ≡ alias_in rest name →
        option_and_then (slice_get (map bare (alias_types (a ∷ rest)))) (cond b (Some 0) (option_map suc o)) ≡ cond b (Some (bare a.of)) (alias_in rest name)
    by true o h = refl
    by false None h = h
    by false (Some place) h = h

pub alias_found : (aliases : List Alias) (types : List WrittenType) (places : List ℕ → Option ℕ) → map written_view types ≡ map bare (alias_types aliases) → ((k : List ℕ) → places k ≡ place_in k (alias_names aliases)) →
    (k : List ℕ) → option_and_then (type_at types) (places k) ≡ alias_in aliases k
alias_found aliases types places typed placed k =
    ap (λ (at : ℕ → Option Written). option_and_then at (places k)) (fun_ext (λ place. sym (slice_get-map written_view types place) ∙ ap (λ ts. slice_get ts place) typed))
    ∙ ap (option_and_then (slice_get (map bare (alias_types aliases)))) (placed k)
    ∙ at_place aliases k

-- what is looked up in a scope is what is known there
pub known_is : (aliases : List Alias) (ds : List DeclaredItem) (owner : List ℕ) (ps : List ParameterItem) (alias_of : List ℕ → Option Written) (places parameters constants : List ℕ → Option ℕ) (counts : List ℕ) (own : Option ℕ) (count : ℕ) →
    ((k : List ℕ) → alias_of k ≡ alias_in aliases k) → ((k : List ℕ) → places k ≡ place_among ds k) → counts ≡ parameter_counts ds → own ≡ place_among ds owner → count ≡ length (type_parameters ps) →
    ((k : List ℕ) → parameters k ≡ place_in k (texts (type_parameters ps))) → ((k : List ℕ) → constants k ≡ place_in k (texts (parameters_of Constants ps))) →
    let found : Known = record { alias_of = alias_of; place_of = places; parameters_at = slice_index counts; own = own; parameters = count; parameter_of = parameters; is_constant = λ k. is_some (constants k) } in found ≡ known_among aliases ds owner ps
known_is aliases ds owner ps alias_of places parameters constants counts own count aliased placed counted itself many typed constant =
    λ i. record {
      alias_of = fun_ext aliased i;
      place_of = fun_ext placed i;
      parameters_at = slice_index (counted i);
      own = itself i;
      parameters = many i;
      parameter_of = fun_ext typed i;
      is_constant = fun_ext (λ k. ap is_some (constant k) ∙ there k (texts (parameters_of Constants ps))) i;
    }
