use Rattle.std.proofs.Common.{◌≤◌, ◌<◌, ℕ, List, length, inl, inr, arith}
use Rattle.serde_json.specs.Data.{Data}
use Rattle.configuration.specs.Configuration.{Configuration}
use Rattle.configuration_json.specs.Form.{IsJson, IsConfigurationText}
use Rattle.reporting.specs.Bytes.{most_bytes}
use Rattle.schema_gen.proofs.derivation.DerivationCommand.longer_file.Goals as goal

-- too many bytes are no JSON, and say no configuration
no_json : (bytes : List ℕ) → most_bytes < length bytes → (value : Data) → IsJson bytes value → ⊥
no_json bytes long value json = let short : length bytes ≤ most_bytes = json.short in omega arith

says_none : (bytes : List ℕ) → most_bytes < length bytes → (c : Configuration) → IsConfigurationText bytes c → ⊥
says_none bytes long c says = no_json bytes long says.value says.json

pub returns : goal.returns
returns c =
    elim c.bad_config.ensures [
      | inl memory ↦ inl memory
      | inr bad ↦ inr (λ begun bytes file long. inl (file.path, bytes, file.named, file.held, (says_none bytes long, inl (no_json bytes long, bad))))
    ]
