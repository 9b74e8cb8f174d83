use Rattle.std.proofs.Common.{◌≡◌, ◌∙◌, ◌⊎◌, false, is_some, ap, sym, subst, ◌≡◌}
use Rattle.std.specs.BTreeMap.{get_by_text}
use Rattle.configuration.specs.Aliases.{alias_names, IsTypeText}
use Rattle.diag.specs.declared.error.DeriveError.TheVariants.{Memory}
use Rattle.type_grammar.specs.Source.{IsNoType, IsDeepType}
use Rattle.written_types.specs.Written.{written_view}
use Rattle.selecting.specs.Lists.{is_named}
use Rattle.selecting.specs.Types.{is_path_to}
use Rattle.selecting.proofs.Typed.{judged, none_refused, read_text}
use Rattle.selecting.proofs.types.names_type.Goals as goal

pub returns-in-Ok : goal.returns-in-Ok
returns-in-Ok c =
    let config = c.args.config.now in
    let alias = c.args.alias.now in
    let t = written_view c.in-Ok.ty in
    let places = c.alias_places.result.now in
    let none : is_named alias.declared.name (alias_names config.aliases) ≡ false =
    ap is_some (sym (c.alias_places.ensures alias.declared.name)) ∙ ap (λ n. is_some (get_by_text places n)) (sym c.as_str.ensures) ∙ sym c.if-contains_key.ensures in
    let text : IsTypeText alias.of t = read_text c.as_str-2.result.now alias.of t c.as_str-2.ensures c.in-Ok.ensures.found c.in-Ok.ensures.shallow in
    judged config alias c.one_type_reading.ensures t none text c.in_ok-is_path_to-in-Ok.field-0 (c.in_ok-is_path_to-in-Ok.ensures ∙ ap (λ n. is_path_to n t) c.as_str-in-Ok.ensures)

pub returns : goal.returns
returns c =
    none_refused c.args.config.now c.args.alias.now c.in-Err-Refused.field-0 c.in-Err-Refused.field-0-0 c.in-Err-Refused.field-0-is
    (subst (λ v. (c.in-Err-Refused.field-0 ≡ Memory) ⊎ IsDeepType v c.in-Err-Refused.field-0 ⊎ IsNoType v c.in-Err-Refused.field-0) c.as_str-2.ensures c.in-Err-Refused.ensures.refused)
