use Rattle.std.proofs.Common.{inl, inr}
use Rattle.serde_json.specs.Data.{Data}
use Rattle.configuration_json.specs.Form.{IsJson}
use Rattle.configuration_json.proofs.from_json.ConfigFromJson.from_slice.Goals as goal

pub returns-in-None-clause-refused : goal.returns-in-None-clause-refused
returns-in-None-clause-refused c =
    let none : (value : Data) → ¬ (IsJson c.args.bytes.now value) = rw c.in-None.is at c.in_ok-value.ensures in
    elim c.bad_config.ensures [ inl memory ↦ inl memory | inr bad ↦ inr (inl (none, bad), λ said is. none is.value is.json) ]
