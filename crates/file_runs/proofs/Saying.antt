-- What the file of a configuration says.
use Rattle.std.proofs.Common.{◌≡◌, ◌∙◌, ℕ, List, Bool, Option, Some, Result, inl, inr, sym, subst}
use Rattle.std.proofs.lemmas.Result.{IfErr-weaker}
use Rattle.diag.specs.Refusal.{IsErrorFor, Refuses}
use Rattle.diag.specs.declared.error.DeriveError.{DeriveError}
use Rattle.diag.specs.declared.error.DeriveError.TheVariants as error
use Rattle.files.specs.Held.{IsHeld}
use Rattle.configuration.specs.Configuration.{Configuration}
use Rattle.configuration_json.specs.Form.{IsConfigurationText, IsRefusedText}
use Rattle.configuration_json.specs.Said.{IsSaidBy, SayNone}
use Rattle.configuration_json.specs.declared.part.ConfigPart.{ConfigPart}
use Rattle.telling.specs.Told.{told_text}
use Rattle.file_runs.specs.Contents.{IsReadOf, TellsConfig, TellsError, IsFaultyRead}
use Rattle.file_runs.specs.Given.{told_config}
use Rattle.file_runs.specs.Owed.{status_of}
use Rattle.file_runs.specs.declared.ending.Ending.{Ending}
use Rattle.file_runs.specs.declared.ending.Ending.TheVariants.{Done, Refused, Usage, ReadFault, Memory, FileFault}
use Rattle.file_runs.specs.declared.status.Status.TheVariants as status

-- it refuses a file of which this was read
abbrev pub RefusesRead : ℕ → Option (List ℕ) → DeriveError → Type 0
RefusesRead most read e = (text : List ℕ) → IsReadOf most text read → SayNone text × IsRefusedText text e

refuses_whole : (most : ℕ) (bytes given : List ℕ) (e : DeriveError) → given ≡ bytes → IsErrorFor (λ e. IsRefusedText given e × ((c : Configuration) → ¬ (IsConfigurationText given c))) e → IsErrorFor (RefusesRead most (Some bytes)) e
refuses_whole most bytes given e same (inl memory) = inl memory
refuses_whole most bytes given e same (inr (refused, none)) = inr (λ text of. subst (λ t. SayNone t × IsRefusedText t e) (same ∙ sym of.0) (none, refused))

-- what refuses bytes refuses the file of which they were read
pub refused_read : (most : ℕ) (read : Option (List ℕ)) (bytes given : List ℕ) (r : Result Configuration DeriveError) → read ≡ Some bytes → given ≡ bytes
    → Refuses r (λ e. IsRefusedText given e × ((c : Configuration) → ¬ (IsConfigurationText given c))) → Refuses r (RefusesRead most read)
refused_read most read bytes given r is same refuses =
    subst (λ o. Refuses r (RefusesRead most o)) (sym is) (IfErr-weaker r (IsErrorFor (λ e. IsRefusedText given e × ((c : Configuration) → ¬ (IsConfigurationText given c)))) (IsErrorFor (RefusesRead most (Some bytes))) (λ e. refuses_whole most bytes given e same) refuses)

module _ (tells : Bool) (held : List ℕ → Option (List ℕ)) (most : ℕ) (path also : List ℕ) (read : Option (List ℕ)) (same : also ≡ path) (made : (text : List ℕ) × IsHeld tells (held also) text × IsReadOf most text read) where
  held_there : IsHeld tells (held path) made.0
  held_there = subst (λ p. IsHeld tells (held p) made.0) same made.1

  -- the configuration of the file at the path
  pub said_there : (named : Option (List ℕ)) (c : Configuration) → named ≡ Some path → ((text : List ℕ) → IsReadOf most text read → IsConfigurationText text c) → IsSaidBy IsConfigurationText tells held named c
  said_there named c is says = subst (λ o. IsSaidBy IsConfigurationText tells held o c) (sym is) (made.0, held_there, says made.0 made.2)

  -- or what is told where it has none
  pub told_there : (other : List ℕ) (e : DeriveError) (ending : Ending) → other ≡ path → IsErrorFor (RefusesRead most read) e → TellsError (IsFaultyRead most read) other e ending → TellsConfig tells (held path) path ending
  told_there other (error.Refused d) (Refused report) at (inl memory) tells_it = cc
  told_there other (error.Refused d) (Refused report) at (inr refuses) tells_it =
      let refused = refuses made.0 made.2 in
      record {
        bytes = made.0;
        is_held = held_there;
        none = refused.0;
        refusal = d;
        refused = refused.1;
        part = tells_it.0;
        faulty = tells_it.1 made.0 made.2;
        report_is = subst (λ p. report ≡ told_text (told_config p d tells_it.0)) at tells_it.2;
      }
  told_there other (error.Refused d) Memory at why tells_it = tt
  told_there other (error.Refused d) (Done text beside) at why tells_it = absurd tells_it
  told_there other (error.Refused d) (Usage report) at why tells_it = absurd tells_it
  told_there other (error.Refused d) ReadFault at why tells_it = absurd tells_it
  told_there other (error.Refused d) (FileFault report) at why tells_it = absurd tells_it
  told_there other error.Memory (Refused report) at why tells_it = absurd tells_it
  told_there other error.Memory Memory at why tells_it = tt
  told_there other error.Memory (Done text beside) at why tells_it = absurd tells_it
  told_there other error.Memory (Usage report) at why tells_it = absurd tells_it
  told_there other error.Memory ReadFault at why tells_it = absurd tells_it
  told_there other error.Memory (FileFault report) at why tells_it = absurd tells_it

-- no file that cannot be read is told so
pub no_fault : (IsFaulty : Option ConfigPart → Type 0) (path : List ℕ) (e : DeriveError) (ending : Ending) → TellsError IsFaulty path e ending → status_of ending ≡ status.FileFault → ⊥
no_fault IsFaulty path (error.Refused d) (FileFault report) tells is = tells
no_fault IsFaulty path error.Memory (FileFault report) tells is = tells
no_fault IsFaulty path e (Refused report) tells is = cc
no_fault IsFaulty path e Memory tells is = cc
no_fault IsFaulty path e (Done text beside) tells is = cc
no_fault IsFaulty path e (Usage report) tells is = cc
no_fault IsFaulty path e ReadFault tells is = cc
