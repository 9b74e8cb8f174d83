-- The status of an ending, and the bytes that it has for `out` and `err`.
use Rattle.std.specs.Prelude.{◌≡◌, ℕ, List, [], codes}
use Rattle.diag.specs.Diagnostics.{HasFirst}
use Rattle.diag.specs.declared.diagnostics.DiangosticsInner.{DiangosticsInner}
use Rattle.diag.specs.declared.error.DeriveError.{DeriveError}
use Rattle.diag.specs.declared.error.DeriveError.TheVariants as error
use Rattle.reporting.specs.Report.{refusal_line}
use Rattle.reporting.specs.declared.status.Status.{Status}
use Rattle.reporting.specs.declared.status.Status.TheVariants as status
use Rattle.reporting.specs.declared.ending.Ending.{Ending}
use Rattle.reporting.specs.declared.ending.Ending.TheVariants.{Done, Refused, Usage, ReadFault, Memory, FileFault}

abbrev pub status_of : Ending → Status
status_of (Done text) = status.Done
status_of (Refused kind line) = status.Refused kind
status_of (Usage line) = status.Usage
status_of ReadFault = status.ReadFault
status_of Memory = status.Memory
status_of FileFault = status.FileFault

abbrev pub document_of : Ending → List ℕ
document_of (Done text) = text
document_of (Refused kind line) = []
document_of (Usage line) = []
document_of ReadFault = []
document_of Memory = []
document_of FileFault = []

abbrev pub report_of : Ending → List ℕ
report_of (Done text) = []
report_of (Refused kind line) = line
report_of (Usage line) = line.now
report_of ReadFault = codes "read fault\n"
report_of Memory = []
report_of FileFault = codes "file fault\n"

-- the ending tells these diagnostics, by the kind of the first and the line of all, or it is want of memory
abbrev pub Reports : List DiangosticsInner → Ending → Type 0
Reports diagnostics (Done text) = ⊥
Reports diagnostics (Refused kind line) = HasFirst diagnostics (λ d. d.kind ≡ kind) × (line ≡ refusal_line diagnostics)
Reports diagnostics (Usage line) = ⊥
Reports diagnostics ReadFault = ⊥
Reports diagnostics Memory = Unit {0}
Reports diagnostics FileFault = ⊥

-- the ending tells the error
abbrev pub ReportsError : DeriveError → Ending → Type 0
ReportsError (error.Refused diagnostics) ending = Reports diagnostics ending
ReportsError error.Memory ending = ending ≡ Memory
