use Rattle.std.proofs.Common.{◌≡◌, ◌∙◌, ◌⊎◌, ℕ, List, Some, inl, inr, sym, subst}
use Rattle.std.proofs.lemmas.Option.{none-some}
use Rattle.diag.specs.declared.error.DeriveError.{DeriveError}
use Rattle.syntax.specs.Items.{DeclaredItem}
use Rattle.syntax.specs.Source.{Reads}
use Rattle.scopes.specs.Names.{declared_idents}
use Rattle.configuration.specs.Configuration.{Configuration}
use Rattle.shapes.specs.Declarations.{DeclarationOf}
use Rattle.derive_decl.specs.Whole.{resolved_declarations}
use Rattle.compose.specs.Bounds.{AreBounded, BoundedAreNotRefused}
use Rattle.compose.specs.Faults.{AreAtFault, IsBeyond, IsRefused, AreClear}
use Rattle.schema_gen.specs.Refusals.{IsSound, IsRefusedSource}
use Rattle.schema_gen.proofs.law.sound_is_not_refused.Goals as goal

OneReading : Type 0
OneReading = (source : List ℕ) (ds es : List DeclaredItem) → Reads source ds → Reads source es → ds ≡ es

-- a text whose one reading is clear and bounded is not refused
clear_text : OneReading → BoundedAreNotRefused → (c : Configuration) (source : List ℕ) (e : DeriveError) → IsSound c source → IsRefused c source e → ⊥
unfolding OneReading
clear_text one bounded c source e sound (inl (span, is, deep)) = sound.shallow span deep
clear_text one bounded c source e sound (inr (inl unreadable)) = unreadable.3 sound.declarations sound.read
clear_text one bounded c source e sound (inr (inr (ds, read, shallow, fault))) = by (subst IsFine (one source sound.declarations ds sound.read read) (sound.clear, sound.bounded)) fault
  where
    IsFine : List DeclaredItem → Type 0
    IsFine ds = AreClear c ds × ((resolved : List DeclarationOf) → resolved_declarations c ds ≡ Some resolved → AreBounded c resolved)

    by : IsFine ds → AreAtFault c ds e ⊎ IsBeyond c ds e → ⊥
    by fine (inl (inl (span, at, is))) = none-some span (sym fine.0.derivable ∙ at)
    by fine (inl (inr (derivable, fault))) = fine.0.faultless e fault
    by fine (inr (clear, (resolved, resolves, unbounded))) = bounded c (declared_idents ds) resolved e (fine.1 resolved resolves) unbounded

pub returns : goal.returns
unfolding OneReading
returns c = not_refused
  where
    not_refused : (config : Configuration) (source : List ℕ) (e : DeriveError) → IsSound config source → IsRefusedSource config source e → ⊥
    not_refused config source e sound (inl long) = c.texts_are_read.ensures.short source e sound.text long
    not_refused config source e sound (inr (inl broken)) = c.texts_are_read.ensures.utf8 source e sound.text broken
    not_refused config source e sound (inr (inr (is_text, refused))) = clear_text c.one_reading.ensures c.bounded_are_not_refused.ensures config source e sound refused
