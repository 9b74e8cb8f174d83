-- What the components of a document of serde_json accept.
use Rattle.std.specs.Prelude.{ℕ, List, Bool}
use Rattle.serde_json.specs.declared.value.Value.{Value}
use Rattle.acceptance.specs.Acceptance.{component_accepts}
use Rattle.acceptance.specs.Json.{Json}
use Rattle.acceptance_checker.specs.Layer.{json_of_value}

-- what the document's component of a name accepts at the depth
abbrev pub components_at : Value → ℕ → List ℕ → Json → Bool
components_at document depth = component_accepts (json_of_value document) depth
