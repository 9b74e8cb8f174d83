-- What a run reports commands nothing.
use Rattle.std.proofs.Common.{◌≡◌, ℕ, List, [], ◌∷◌, true, nat_lt, Option, inl, inr, codes, refl, sym, subst}
use Rattle.std.proofs.lemmas.Bool.{and_parts, ltb-true}
use Rattle.std.proofs.lemmas.Str.{encodes-IsAscii}
use Rattle.std.proofs.lemmas.Str.Ascii.{IsAscii-nil, IsAscii-cons}
use Rattle.std.specs.List.{list_all}
use Rattle.std.specs.Str.{IsAscii}
use Rattle.serde_json.specs.Data.{Data}
use Rattle.schema_core.specs.Document.{Entry}
use Rattle.telling.specs.Printable.{printable, CommandsNothing, PrintableCommandsNothing, BothCommandNothing}
use Rattle.reporting.specs.Beginning.{Beginning}
use Rattle.file_runs.specs.Given.{Named, RefusesOption}
use Rattle.file_runs.specs.Owed.{wanted_of, Owed, IsRefused, ReportsCommandNothing}
use Rattle.file_runs.specs.Shown.{IsUnmade, no_openapi, name_taken, IsUnshown, unmade, differs, IsUnwritten}
use Rattle.file_runs.specs.declared.request.Request.{Request}
use Rattle.file_runs.specs.declared.status.Status.{Status}
use Rattle.file_runs.specs.declared.status.Status.TheVariants.{Done, Refused, Usage, ReadFault, WriteFault, Memory, FileFault}

-- a text of ASCII
ascii : (cs : List ℕ) → list_all (λ c. nat_lt c 128) cs ≡ true → IsAscii cs
ascii [] all = IsAscii-nil
ascii (c ∷ cs) all = let both = and_parts (nat_lt c 128) (list_all (λ b. nat_lt b 128) cs) all in IsAscii-cons c cs (ltb-true c 128 both.0) (ascii cs both.1)

read_fault : CommandsNothing (codes "-: cannot be read\n")
read_fault = (codes "-: cannot be read\n", (refl, (refl, (refl, (refl, (refl, (refl, (refl, (refl, (refl, (refl, (refl, (refl, (refl, (refl, (refl, (refl, (refl, (refl, tt)))))))))))))))))), sym (encodes-IsAscii (codes "-: cannot be read\n") (ascii (codes "-: cannot be read\n") refl)))

module _ (printed : PrintableCommandsNothing) (both : BothCommandNothing) where
  nothing : CommandsNothing []
  nothing = ([], tt, refl)

  -- a text that is shown of another
  of_shown : (report text : List ℕ) → report ≡ printable text → CommandsNothing report
  of_shown report text is = subst CommandsNothing (sym is) (printed text)

  of_unmade : (openapi : Option Named) (document : Data) (line : List ℕ) → IsUnmade openapi document line → CommandsNothing line
  of_unmade openapi document line (no_openapi none) = of_shown line _ refl
  of_unmade openapi document line (name_taken taken) = of_shown line _ refl

  of_unshown : (r : Request) (components : List Entry) (openapi check : Option Named) (line : List ℕ) → IsUnshown r components openapi check line → CommandsNothing line
  of_unshown r components openapi check line (unmade why) = of_unmade openapi _ line why
  of_unshown r components openapi check line (differs value difference made is) = of_shown line _ refl

  of_refused : (begun : Beginning) (report : List ℕ) → IsRefused begun report → CommandsNothing report
  of_refused begun report (inl misconfigured) = by misconfigured.refused
    where
      by : RefusesOption begun.tells begun.held misconfigured.request report → CommandsNothing report
      by (inl (path, is, config)) = of_shown report _ config.report_is
      by (inr (path, is, document)) = of_shown report _ document.report_is
  of_refused begun report (inr (inl files)) = of_shown report _ files.report_is
  of_refused begun report (inr (inr unwritten)) = by unwritten.why
    where
      by : IsUnwritten (wanted_of unwritten.given) unwritten.components unwritten.warnings report → CommandsNothing report
      by (inl (strict, some, is)) = of_shown report _ is
      by (inr (calm, line, unshown, is)) = subst CommandsNothing (sym is) (both _ line (printed _) (of_unshown _ _ _ _ line unshown))

  pub commands_nothing : ReportsCommandNothing
  unfolding Owed
  commands_nothing begun Done text report (inl document) = of_shown report _ document.report_is
  commands_nothing begun Done text report (inr (answer, is)) = subst CommandsNothing (sym is) nothing
  commands_nothing begun Refused text report (refused, out) = of_refused begun report refused
  commands_nothing begun Usage text report ((misuse, misused, is), out) = of_shown report _ is
  commands_nothing begun ReadFault text report (named, out, is) = subst CommandsNothing (sym is) read_fault
  commands_nothing begun WriteFault text report none = absurd none
  commands_nothing begun Memory text report (out, is) = subst CommandsNothing (sym is) nothing
  commands_nothing begun FileFault text report ((path, cause, named, is), out) = of_shown report _ is
