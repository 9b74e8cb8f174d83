-- What follows from what a run owes.
use Rattle.std.proofs.Common.{ℕ, List, IsTrue, Option, Some, None, ◌≡◌, ◌≢◌, ◌⊎◌, inl, inr, refl, subst}
use Rattle.std.specs.Io.KnownBytes.{Appends}
use Rattle.diag.specs.Diagnostics.{HasFirst}
use Rattle.diag.specs.declared.diagnostics.DiangosticsInner.{DiangosticsInner}
use Rattle.diag.specs.declared.error.DeriveError.{DeriveError}
use Rattle.diag.specs.declared.error.DeriveError.TheVariants as error
use Rattle.diag.specs.declared.kind.Kind.{Kind}
use Rattle.acceptance.specs.Json.{Json}
use Rattle.schema_trees.specs.Held.{IsHeld}
use Rattle.schema_core.specs.Document.{document, text_of}
use Rattle.configuration.specs.Configuration.{Configuration}
use Rattle.configuration_json.specs.Form.{IsConfigurationText, SaysInText}
use Rattle.configuration_json.specs.Said.{is_of_configuration}
use Rattle.shapes.specs.Declarations.{DeclarationOf}
use Rattle.derive_decl.specs.Law.{ResolvedIsMeant}
use Rattle.closing.specs.Described.{Describes}
use Rattle.compose.specs.Bounds.{collects_all}
use Rattle.reporting.specs.Beginning.{Beginning}
use Rattle.reporting.specs.Owed.{Owes}
use Rattle.reporting.specs.Program.{IsRefusedRun, IsRefusedGiven, IsReportOf}
use Rattle.reporting.specs.declared.status.Status.{Status}
use Rattle.reporting.specs.declared.status.Status.TheVariants.{Done, Refused, Usage, ReadFault, WriteFault, Memory, FileFault}
use Rattle.schema_gen.specs.Derived.{IsDocument}
use Rattle.schema_gen.specs.Given.{Given, IsConfiguredBy, IsConfigured, IsMisconfigured, IsMisconfiguredBy, IsGivenBy, ResolvesTo, Task, of_sample, of_source}
use Rattle.schema_gen.specs.Owed.{schema_gen, IsReported, Owed, Refuses}
use Rattle.schema_gen.specs.Words.{IsDerive, IsSample, derive, sample}
use Rattle.schema_gen.proofs.Misconfigured.{RefusedHaveFaults, file_fault}
use Rattle.schema_gen.proofs.OtherKinds.{no_configuration}
use Rattle.schema_gen.proofs.Told.{misconfigured, of_derive, one_form}

-- what a file says, whatever is judged beside
said_config : ((bytes : List ℕ) (c : Configuration) → IsConfigurationText bytes c → SaysInText bytes c) → (begun : Beginning) (c : Configuration) → IsConfigured begun c → IsConfiguredBy SaysInText begun c
said_config said begun c (None, form, is) = (None, form, is)
said_config said begun c (Some path, form, (bytes, at, is)) = (Some path, form, (bytes, at, said bytes c is))

-- the document of what is given describes what it is resolved to
pub described : ((bytes : List ℕ) (c : Configuration) → IsConfigurationText bytes c → SaysInText bytes c) → ResolvedIsMeant
    → (begun : Beginning) (text : List ℕ) (old new : Option (List ℕ)) → IsDocument begun text → Appends old new text
    → (given : Given) × (resolved : List DeclarationOf) × (doc : Json) × IsGivenBy SaysInText begun given × ResolvesTo given resolved × IsHeld doc × Describes resolved (collects_all given.config.collect) doc × Appends old new (text_of doc)
described said meant begun text old new (given, is_given, of) grown = (
  given,
  of.made.derived.resolved,
  document of.components,
  record { config = said_config said begun given.config is_given.config; text = is_given.text },
  record { declarations = of.made.declarations; read = of.made.read; resolves = meant given.config of.made.declarations of.made.derived.resolved of.made.derived.resolves },
  of.held,
  of.describes,
  subst (Appends old new) of.text_is grown,
)

-- nothing that a run is about is refused with a kind of configurations
refused_task : (kind : Kind) → IsTrue (is_of_configuration kind) → (ds : List DiangosticsInner) → HasFirst ds (λ d. d.kind ≡ kind) → (task : Task) → Refuses task (error.Refused ds) → ⊥
refused_task kind own ds first (of_source given) refused = no_configuration kind own ds first given.config given.text refused
refused_task kind own ds first (of_sample many) refused = refused

pub other_kind : (begun : Beginning) (kind : Kind) → IsTrue (is_of_configuration kind) → (line : List ℕ) → IsReportOf (IsRefusedGiven schema_gen begun) kind line → ⊥
other_kind begun kind own line reported =
    refused_task kind own reported.diagnostics reported.kind_is reported.cause.0 reported.cause.2

module _ (faults : RefusedHaveFaults) (begun : Beginning) where
  -- what refuses with such a kind is the file
  pub bad_config_cause : (kind : Kind) → IsTrue (is_of_configuration kind) → (line : List ℕ) → IsReported begun kind line → IsMisconfiguredBy kind begun
  bad_config_cause kind own line reported = by reported.cause
    where
      by : IsRefusedRun schema_gen begun (error.Refused reported.diagnostics) → IsMisconfiguredBy kind begun
      by (inl file) = file_fault faults kind reported.diagnostics reported.kind_is begun file
      by (inr (task, is, refused)) = absurd (refused_task kind own reported.diagnostics reported.kind_is task refused)

  -- a file that says no configuration is refused for what it holds
  only_cause : IsTrue begun.tells → IsMisconfigured begun → (kind : Kind) (line : List ℕ) → IsReported begun kind line → IsMisconfiguredBy kind begun
  only_cause told file kind line reported = by reported.cause
    where
      by : IsRefusedRun schema_gen begun (error.Refused reported.diagnostics) → IsMisconfiguredBy kind begun
      by (inl other) = file_fault faults kind reported.diagnostics reported.kind_is begun other
      by (inr (of_source given, is, refused)) = absurd (misconfigured begun told file given.config is.config)
      by (inr (of_sample many, is, refused)) = absurd (one_form begun.words (Some file.0) many file.2 is)

  pub only_bad_owed : IsTrue begun.tells → IsMisconfigured begun → (status : Status) → (status ≢ WriteFault → (text : List ℕ) × (report : List ℕ) × Owed begun status text report)
      → ((kind : Kind) × IsMisconfiguredBy kind begun × (status ≡ Refused kind)) ⊎ (status ≡ FileFault) ⊎ (status ≡ Memory) ⊎ (status ≡ WriteFault)
  unfolding Owes
  only_bad_owed told file Done owed =
      let answered = of_derive begun (Some file.0) file.2 _ (owed (λ e. cc)).2.0 in absurd (misconfigured begun told file answered.0.config answered.1.config)
  only_bad_owed told file (Refused kind) owed = let reported = (owed (λ e. cc)).2.0 in inl (kind, only_cause told file kind _ reported, refl)
  only_bad_owed told file Usage owed = absurd ((owed (λ e. cc)).2.0 (derive (Some file.0), file.2))
  only_bad_owed told file ReadFault owed = let configured = (owed (λ e. cc)).2.0 in absurd (misconfigured begun told file configured.0 configured.1)
  only_bad_owed told file WriteFault owed = inr (inr (inr refl))
  only_bad_owed told file Memory owed = inr (inr (inl refl))
  only_bad_owed told file FileFault owed = inr (inl refl)

-- words that ask for a sample are answered, unless writing fails or memory is wanted
module _ (begun : Beginning) (many : ℕ) (samples : IsSample begun.words many) where
  no_derive : (path : Option (List ℕ)) → IsDerive begun.words path → ⊥
  no_derive path derives = one_form begun.words path many derives samples

  no_cause : (e : DeriveError) → IsRefusedRun schema_gen begun e → ⊥
  no_cause e (inl file) = no_derive (Some file.0) file.2
  no_cause e (inr (of_source given, is, refused)) = no_derive is.config.0 is.config.1
  no_cause e (inr (of_sample other, is, refused)) = refused

  pub sample_owed : (status : Status) → (status ≢ WriteFault → (text : List ℕ) × (report : List ℕ) × Owed begun status text report)
      → (status ≡ Done) ⊎ (status ≡ Memory) ⊎ (status ≡ WriteFault)
  unfolding Owes
  sample_owed Done owed = inl refl
  sample_owed (Refused kind) owed = let reported = (owed (λ e. cc)).2.0 in absurd (no_cause (error.Refused reported.diagnostics) reported.cause)
  sample_owed Usage owed = absurd ((owed (λ e. cc)).2.0 (sample many, samples))
  sample_owed ReadFault owed = let configured = (owed (λ e. cc)).2.0 in absurd (no_derive configured.1.0 configured.1.1)
  sample_owed WriteFault owed = inr (inr refl)
  sample_owed Memory owed = inr (inl refl)
  sample_owed FileFault owed = let named = (owed (λ e. cc)).2.0 in absurd (no_derive (Some named.0) named.1)
