-- What follows from what a run owes.
use Rattle.std.proofs.Common.{◌≡◌, ◌∙◌, ◌⊎◌, ℕ, List, Option, Some, None, Result, Ok, Err, codes, inl, inr, refl, sym, subst}
use Rattle.reporting.specs.Beginning.{Beginning}
use Rattle.file_runs.specs.Owed.{Owed, IsDone, IsRefused, IsTold, IsSound, SoundRunsAreNotRefused}
use Rattle.file_runs.specs.Reports.{misuse_text}
use Rattle.file_runs.specs.Words.{Ask, AskFor, AreMisused, NameInput}
use Rattle.file_runs.specs.declared.request.Misuse.{Misuse}
use Rattle.file_runs.specs.declared.request.Question.{Question}
use Rattle.file_runs.specs.declared.request.Request.{Request}
use Rattle.file_runs.specs.declared.status.Status.{Status}
use Rattle.file_runs.specs.declared.status.Status.TheVariants.{Done, Refused, Usage, ReadFault, WriteFault, Memory, FileFault}

-- words ask for one thing
pub one_request : (words : List (List ℕ)) (r q : Request) → AskFor words r → AskFor words q → r ≡ q
one_request words r q (none, asks) (nothing, also) = let same : ◌≡◌ {A = Result Request Misuse} (Ok r) (Ok q) = sym asks ∙ also in cc

-- a question, or a document, or they are misused
pub no_request : (words : List (List ℕ)) (question : Question) (request : Request) → Ask words question → AskFor words request → ⊥
no_request words question request asks (none, also) = let same : ◌≡◌ {A = Option Question} (Some question) None = sym asks ∙ none in cc

no_misuse : (words : List (List ℕ)) (question : Question) (misuse : Misuse) → Ask words question → AreMisused words misuse → ⊥
no_misuse words question misuse asks (none, also) = let same : ◌≡◌ {A = Option Question} (Some question) None = sym asks ∙ none in cc

not_misused : (words : List (List ℕ)) (request : Request) (misuse : Misuse) → AskFor words request → AreMisused words misuse → ⊥
not_misused words request misuse (none, asks) (also, are) = let same : ◌≡◌ {A = Result Request Misuse} (Ok request) (Err misuse) = sym asks ∙ are in cc

module _ (begun : Beginning) where
  -- why a run ends so
  data Why : Status → Type 0 where
    asked : {status : Status} {request : Request} → AskFor begun.words request → Why status
    answered : {question : Question} → Ask begun.words question → Why Done
    misused : {misuse : Misuse} → AreMisused begun.words misuse → Why Usage
    for_memory : Why Memory

  why : (status : Status) (text report : List ℕ) → Owed begun status text report → Why status
  unfolding Owed
  why Done text report (inl document) = asked document.is_given.asked
  why Done text report (inr (answer, none)) = answered answer.1
  why Refused text report (inl configuration, none) = asked configuration.asked
  why Refused text report (inr (inl files), none) = asked files.is_given.asked
  why Refused text report (inr (inr warned), none) = asked warned.is_given.asked
  why Usage text report ((misuse, are, is), none) = misused are
  why ReadFault text report ((request, asks, of), none, is) = asked asks
  why WriteFault text report owed = absurd owed
  why Memory text report owed = for_memory
  why FileFault text report ((path, cause, (request, asks, of), is), none) = asked asks

  -- words that are misused end so, or for want of memory
  misused_why : (misuse : Misuse) → AreMisused begun.words misuse → (status : Status) → Why status → (status ≡ Usage) ⊎ (status ≡ Memory) ⊎ (status ≡ WriteFault)
  misused_why misuse are status (asked {request = request} asks) = absurd (not_misused begun.words request misuse asks are)
  misused_why misuse are Done (answered {question} asks) = absurd (no_misuse begun.words question misuse asks are)
  misused_why misuse are Usage (misused also) = inl refl
  misused_why misuse are Memory for_memory = inr (inl refl)

  -- and a question with its answer, or for want of memory
  question_why : (question : Question) → Ask begun.words question → (status : Status) → Why status → (status ≡ Done) ⊎ (status ≡ Memory) ⊎ (status ≡ WriteFault)
  question_why question asks status (asked {request = request} for_it) = absurd (no_request begun.words question request asks for_it)
  question_why question asks Done (answered also) = inl refl
  question_why question asks Usage (misused {misuse} are) = absurd (no_misuse begun.words question misuse asks are)
  question_why question asks Memory for_memory = inr (inl refl)

module _ (begun : Beginning) (status : Status) (text report : List ℕ) (owed : Owed begun status text report) where
  owed_as : (other : Status) → status ≡ other → Owed begun other text report
  owed_as other is = subst (λ s. Owed begun s text report) is owed

  pub done_owed : status ≡ Done → IsDone begun text report
  unfolding Owed
  done_owed is = owed_as Done is

  pub refused_owed : status ≡ Refused → IsRefused begun report
  unfolding Owed
  refused_owed is = (owed_as Refused is).0

  pub usage_owed : status ≡ Usage → (misuse : Misuse) × AreMisused begun.words misuse × (report ≡ misuse_text misuse)
  unfolding Owed
  usage_owed is = (owed_as Usage is).0

  pub read_owed : status ≡ ReadFault → NameInput begun.words
  unfolding Owed
  read_owed is = (owed_as ReadFault is).0

  pub read_line : status ≡ ReadFault → report ≡ codes "-: cannot be read\n"
  unfolding Owed
  read_line is = (owed_as ReadFault is).2

  pub only_usage : (misuse : Misuse) → AreMisused begun.words misuse → (status ≡ Usage) ⊎ (status ≡ Memory) ⊎ (status ≡ WriteFault)
  only_usage misuse are = misused_why begun misuse are status (why begun status text report owed)

  pub only_answer : (question : Question) → Ask begun.words question → (status ≡ Done) ⊎ (status ≡ Memory) ⊎ (status ≡ WriteFault)
  only_answer question asks = question_why begun question asks status (why begun status text report owed)

-- what is sound is not refused
pub complete_owed : SoundRunsAreNotRefused → (begun : Beginning) (status : Status) (text report : List ℕ) → Owed begun status text report → IsTold begun → IsSound begun → (status ≡ ReadFault → ⊥) → (status ≡ FileFault → ⊥) → (status ≡ Done) ⊎ (status ≡ Memory)
unfolding Owed
complete_owed law begun Done text report owed told sound calm file_calm = inl refl
complete_owed law begun Refused text report owed told sound calm file_calm = absurd (law begun report told sound owed.0)
complete_owed law begun Usage text report owed told sound calm file_calm = absurd (not_misused begun.words sound.given.request owed.0.0 sound.is_given.asked owed.0.1)
complete_owed law begun ReadFault text report owed told sound calm file_calm = absurd (calm refl)
complete_owed law begun WriteFault text report owed told sound calm file_calm = absurd owed
complete_owed law begun Memory text report owed told sound calm file_calm = inr refl
complete_owed law begun FileFault text report owed told sound calm file_calm = absurd (file_calm refl)

-- what a run owes by its status, for the search
pub ruleset consequences = (read_owed, read_line)
