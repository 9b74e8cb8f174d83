-- What a run is given by its words, its files and its input, and what that is resolved to.
use Rattle.std.specs.Prelude.{◌≡◌, ℕ, List, Option, Some}
use Rattle.diag.specs.declared.error.DeriveError.{DeriveError}
use Rattle.diag.specs.declared.kind.Kind.{Kind}
use Rattle.streams.specs.Told.{IsAll}
use Rattle.files.specs.Held.{IsHeld}
use Rattle.configuration.specs.Configuration.{Configuration}
use Rattle.configuration_json.specs.Form.{IsConfigurationText, IsRefusedText}
use Rattle.configuration_json.specs.Said.{IsSaidBy, SayNone, HaveFault}
use Rattle.syntax.specs.Items.{DeclaredItem}
use Rattle.syntax.specs.Source.{Reads}
use Rattle.shapes.specs.Declarations.{DeclarationOf}
use Rattle.derive_decl.specs.Whole.{meant_declarations}
use Rattle.reporting.specs.Beginning.{Beginning}
use Rattle.schema_gen.specs.Words.{IsDerive, IsSample}

-- a configuration, and the text of a source
pub record Given : Type 0 where
  pub config : Configuration
  pub text : List ℕ

-- the words are of a form of `derive`, and the configuration is that of their path, where `Says`
-- tells which bytes say it
abbrev pub IsConfiguredBy : (Says : List ℕ → Configuration → Type 0)
    → Beginning → Configuration → Type 0
IsConfiguredBy Says begun c = (path : Option (List ℕ))
    × IsDerive begun.words path × IsSaidBy Says begun.tells begun.held path c

abbrev pub IsConfigured : Beginning → Configuration → Type 0
IsConfigured begun c = IsConfiguredBy IsConfigurationText begun c

-- the words name a path, and this holds of the bytes of the file there
abbrev pub IsOfFile : Beginning → (List ℕ → Type 0) → Type 0
IsOfFile begun holds =
    (path : List ℕ) × (bytes : List ℕ) × IsDerive begun.words (Some path)
    × IsHeld begun.tells (begun.held path) bytes × holds bytes

-- the words name a path, and the file there says no configuration
abbrev pub IsMisconfigured : Beginning → Type 0
IsMisconfigured begun = IsOfFile begun SayNone

-- the error refuses the file for what it holds
abbrev pub IsRefusedFile : Beginning → DeriveError → Type 0
IsRefusedFile begun e = IsOfFile begun (λ bytes. SayNone bytes × IsRefusedText bytes e)

-- the file says no configuration, for the fault of the kind
abbrev pub IsMisconfiguredBy : Kind → Beginning → Type 0
IsMisconfiguredBy kind begun = IsOfFile begun (λ bytes. SayNone bytes × HaveFault kind bytes)

-- The configuration is that of the words, and the text is all that the input had left, where that
-- is told.
pub record IsGivenBy (Says : List ℕ → Configuration → Type 0)
    (begun : Beginning) (given : Given) : Type 0 where
  pub config : IsConfiguredBy Says begun given.config
  pub text : IsAll begun.left given.text

abbrev pub IsGiven : Beginning → Given → Type 0
IsGiven begun given = IsGivenBy IsConfigurationText begun given

-- what a run is about: a source with a configuration, or a sample of so many declarations
pub data Task : Type 0 where
  of_source : Given → Task
  of_sample : ℕ → Task

abbrev pub IsTask : Beginning → Task → Type 0
IsTask begun (of_source given) = IsGiven begun given
IsTask begun (of_sample many) = IsSample begun.words many

-- The text is read as declarations, and these are what they mean.
pub record ResolvesTo (given : Given) (resolved : List DeclarationOf) : Type 0 where
  pub declarations : List DeclaredItem
  pub read : Reads given.text declarations
  pub resolves : meant_declarations given.config declarations ≡ Some resolved
