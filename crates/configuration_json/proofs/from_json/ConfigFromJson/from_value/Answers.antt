use Rattle.std.proofs.Common.{inl, inr, codes, IfSome}
use Rattle.std.proofs.lemmas.Result.{err_from_is_err_and}
use Rattle.serde_json.specs.Find.{get}
use Rattle.serde_json.specs.View.{view}
use Rattle.configuration_json.specs.Form.{HoldsTexts, SaysOthers, HasForm, HasDeepAliases}
use Rattle.configuration_json.proofs.RefusalLaws.{with_aliases, formless, rowless, too_deep}
use Rattle.configuration_json.proofs.from_json.ConfigFromJson.from_value.Goals as goal

pub returns-in_default-clause-refused : goal.returns-in_default-clause-refused
returns-in_default-clause-refused c =
    let none : HasForm (view c.args.value.now) → ⊥ = rw c.in_default.is at c.in_ok-config.ensures in
    elim c.bad_config.ensures [ inl memory ↦ inl memory | inr bad ↦ inr (inl (none, bad), formless (view c.args.value.now) none) ]

pub returns-in_err-read_aliases-clause-refused : goal.returns-in_err-read_aliases-clause-refused
returns-in_err-read_aliases-clause-refused c =
    let value = view c.args.value.now in
    let p = err_from_is_err_and c.from_residual-in_err-read_aliases.result c.from_residual-in_err-read_aliases.ensures.1 in
    let said : SaysOthers value c.in-Some.config × IfSome (get (codes "aliases") value) HoldsTexts = rw c.in-Some.is at c.in_ok-config.ensures in
    let form : HasForm value = ((c.in-Some.config, said.0), said.1) in
    rw (p.1, p.2)
    (elim c.in_err-read_aliases.ensures.refused [
      | inl memory ↦ inl memory
      | inr (inl row) ↦ inr (inr (inl ((form, row.1), row.0)), rowless value (form, row.1))
      | inr (inr all) ↦
          let deep : HasDeepAliases value = (record c.in-Some.config { aliases = c.read_aliases.new.config.aliases }, with_aliases value c.in-Some.config c.read_aliases.new.config.aliases said.0, all.1, all.2) in
          inr (inr (inr (deep, all.0)), too_deep c.one_type_reading.ensures value deep)
    ])
