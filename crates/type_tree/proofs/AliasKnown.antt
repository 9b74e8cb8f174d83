-- What the program knows of aliases.
use Rattle.std.proofs.Common.{◌≡◌, ◌∙◌, ℕ, suc, List, [], ◌∷◌, Bool, true, false, cond, bytes_eq, Option, Some, None, option_map, option_and_then, map, refl, ap, sym, slice_index}
use Rattle.std.proofs.Math.Path.{fun_ext}
use Rattle.std.proofs.lemmas.Option.{slice_get-map}
use Rattle.std.specs.List.{slice_get}
use Rattle.std.specs.Option.{is_some}
use Rattle.texts.specs.Names.{place_in}
use Rattle.written_types.specs.declared.written.WrittenType.{WrittenType}
use Rattle.written_types.specs.Written.{Written, written_view}
use Rattle.configuration.specs.Configuration.{Alias}
use Rattle.configuration.specs.Aliases.{alias_names, alias_types}
use Rattle.resolving.specs.Known.{Known, type_at}
use Rattle.type_tree.specs.Aliases.{alias_named, known_aliases}

-- the type of an alias stands at the place of its name
pub at_place : (aliases : List Alias) (name : List ℕ) → option_and_then (slice_get (alias_types aliases)) (place_in name (alias_names aliases)) ≡ alias_named aliases name
at_place [] name = refl
at_place (a ∷ rest) name = by (bytes_eq name a.name) (place_in name (alias_names rest)) (at_place rest name)
  where
    by : (b : Bool) (o : Option ℕ) → option_and_then (slice_get (alias_types rest)) o ≡ alias_named rest name →
        option_and_then (slice_get (alias_types (a ∷ rest))) (cond b (Some 0) (option_map suc o)) ≡ cond b (Some a.of) (alias_named rest name)
    by true o h = refl
    by false None h = h
    by false (Some place) h = h

module _ (aliases : List Alias) (types : List WrittenType) (places : List ℕ → Option ℕ) (typed : map written_view types ≡ alias_types aliases) (placed : (k : List ℕ) → places k ≡ place_in k (alias_names aliases)) where
  pub alias_found : (k : List ℕ) → option_and_then (type_at types) (places k) ≡ alias_named aliases k
  alias_found k =
      ap (λ (at : ℕ → Option Written). option_and_then at (places k)) (fun_ext (λ place. sym (slice_get-map written_view types place) ∙ ap (λ ts. slice_get ts place) typed))
      ∙ ap (option_and_then (slice_get (alias_types aliases))) (placed k)
      ∙ at_place aliases k

  -- where there are no other names
  pub known_here : (nowhere : List ℕ → Option ℕ) → ((k : List ℕ) → nowhere k ≡ None) →
      let found : Known = record { alias_of = λ k. option_and_then (type_at types) (places k); place_of = nowhere; parameters_at = slice_index []; own = None; parameters = 0; parameter_of = nowhere; is_constant = λ k. is_some (nowhere k) } in found ≡ known_aliases aliases
  known_here nowhere none =
      λ i. record {
        alias_of = fun_ext alias_found i;
        place_of = fun_ext none i;
        parameters_at = fun_ext empty i;
        own = None;
        parameters = 0;
        parameter_of = fun_ext none i;
        is_constant = fun_ext (λ k. ap is_some (none k)) i;
      }
    where
      empty : (d : ℕ) → slice_index [] d ≡ 0
      empty d = refl
