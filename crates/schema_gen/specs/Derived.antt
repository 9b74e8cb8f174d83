-- The document of what a run is given.
use Rattle.std.specs.Prelude.{◌≡◌, ℕ, List}
use Rattle.acceptance.specs.Json.{Json}
use Rattle.schema_trees.specs.Held.{HasShortNumbers, IsHeld}
use Rattle.schema_core.specs.Document.{Entry, document, text_of}
use Rattle.configuration.specs.Configuration.{Configuration}
use Rattle.closing.specs.Described.{Describes}
use Rattle.compose.specs.Bounds.{collects_all}
use Rattle.compose.specs.Faults.{IsDerived}
use Rattle.reporting.specs.Beginning.{Beginning}
use Rattle.reporting.specs.Bytes.{IsText}
use Rattle.schema_gen.specs.Given.{Given, IsGiven}

-- The text is that of the document of a source's components, which describes the declarations that
-- the source declares. `serde_json` can hold this document, and no other value whose numbers it
-- holds has this text.
pub record IsDocumentOf (c : Configuration) (source text : List ℕ) : Type 0 where
  pub is_text : IsText source
  pub components : List Entry
  pub made : IsDerived c source components
  pub describes : Describes made.derived.resolved (collects_all c.collect) (document components)
  pub text_is : text ≡ text_of (document components)
  pub held : IsHeld (document components)
  pub one : (x : Json) → HasShortNumbers x → text ≡ text_of x → x ≡ document components

-- the text is that of the document of what is given
abbrev pub IsDocument : Beginning → List ℕ → Type 0
IsDocument begun text =
    (given : Given) × IsGiven begun given × IsDocumentOf given.config given.text text
