-- A configuration as a file says it, and why a file says none.
use Rattle.std.specs.Prelude.{◌≡◌, ℕ, List, Bool, true, false, Option, Some, None}
use Rattle.serde_json.specs.Data.{Data}
use Rattle.diag.specs.declared.kind.Kind.{Kind}
use Rattle.diag.specs.declared.kind.Kind.TheVariants.{BadConfig, BadRow, AliasDepth}
use Rattle.files.specs.Held.{IsHeld}
use Rattle.configuration.specs.Configuration.{Configuration, empty_configuration}
use Rattle.configuration_json.specs.Form.{HasForm, HasBadRow, HasDeepAliases, IsJson, IsConfigurationText}

-- Without a path the configuration is the empty one. With a path the file there holds bytes that say it, where it is told what the
-- files hold; else some bytes say it. `Says` tells which do.
abbrev pub IsSaidBy : (Says : List ℕ → Configuration → Type 0) (tells : Bool) (held : List ℕ → Option (List ℕ)) → Option (List ℕ) → Configuration → Type 0
IsSaidBy Says tells held None c = c ≡ empty_configuration
IsSaidBy Says tells held (Some path) c = (bytes : List ℕ) × IsHeld tells (held path) bytes × Says bytes c

-- the bytes say no configuration
abbrev pub SayNone : List ℕ → Type 0
SayNone bytes = (c : Configuration) → ¬ (IsConfigurationText bytes c)

-- a configuration is refused with the kind
abbrev pub is_of_configuration : Kind → Bool
is_of_configuration BadConfig = true
is_of_configuration BadRow = true
is_of_configuration AliasDepth = true
is_of_configuration _ = false

-- why bytes are refused with the kind: they say nothing of the stated form; of that form, an alias is no type, or aliases stand too
-- deep in each other
abbrev pub HaveFault : Kind → List ℕ → Type 0
HaveFault BadConfig bytes = (value : Data) → IsJson bytes value → ¬ (HasForm value)
HaveFault BadRow bytes = (value : Data) × IsJson bytes value × HasBadRow value
HaveFault AliasDepth bytes = (value : Data) × IsJson bytes value × HasDeepAliases value
HaveFault _ bytes = ⊥
