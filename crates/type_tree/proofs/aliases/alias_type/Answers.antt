use Rattle.std.proofs.Common.{◌≡◌, Option, Some, None, option_map, option_and_then, ℕ, List, ap, sym, ◌∙◌, rules, refl, length}
use Rattle.std.specs.List.{slice_get}
use Rattle.std.specs.BTreeMap.{get_by_text}
use Rattle.std.proofs.lemmas.Option.{slice_get_read, slice_get_past}
use Rattle.written_types.specs.declared.written.WrittenType.{WrittenType}
use Rattle.written_types.specs.Written.{written_view}
use Rattle.configuration.specs.Aliases.{alias_types}
use Rattle.resolving.specs.Known.{type_at}
use Rattle.type_tree.proofs.AliasKnown.{at_place, alias_found}
use Rattle.type_tree.proofs.aliases.alias_type.Goals as goal

held : (o : Option ℕ) (place : ℕ) (ts : List WrittenType) (t : WrittenType) → Some place ≡ o → slice_get ts place ≡ Some t → Some (written_view t) ≡ option_and_then (type_at ts) o
held o place ts t e f = sym (ap (option_map written_view) f) ∙ ap (option_and_then (type_at ts)) e

missed : (o : Option ℕ) (place : ℕ) (ts : List WrittenType) → Some place ≡ o → slice_get ts place ≡ None → None ≡ option_and_then (type_at ts) o
missed o place ts e f = sym (ap (option_map written_view) f) ∙ ap (option_and_then (type_at ts)) e

pub returns-in-Some-get : goal.returns-in-Some-get
returns-in-Some-get c =
    let ts = c.alias_types.result.now in
    let places = get_by_text c.alias_places.result.now in
    let at = c.in-Some-get.ensures.lookup in
    held (places c.args.name.now) c.in-Some.place.now ts c.in-Some-get.ty.now (search rules) (slice_get_read ts (length ts) c.in-Some.place.now c.in-Some-get.ty.now refl at.3.0 at.1)
    ∙ alias_found c.args.config.now.aliases ts places c.alias_types.ensures c.alias_places.ensures c.args.name.now

pub returns-in-None-get : goal.returns-in-None-get
returns-in-None-get c =
    let ts = c.alias_types.result.now in
    let places = get_by_text c.alias_places.result.now in
    missed (places c.args.name.now) c.in-Some.place.now ts (search rules) (slice_get_past ts c.in-Some.place.now (search rules))
    ∙ alias_found c.args.config.now.aliases ts places c.alias_types.ensures c.alias_places.ensures c.args.name.now

pub returns-in-None : goal.returns-in-None
returns-in-None c =
    let aliases = c.args.config.now.aliases in
    let places = get_by_text c.alias_places.result.now in
    let asked : None ≡ places c.args.name.now = search rules in
    ap (option_and_then (slice_get (alias_types aliases))) (asked ∙ c.alias_places.ensures c.args.name.now) ∙ at_place aliases c.args.name.now
