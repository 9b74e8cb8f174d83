-- What is written where there is no document, and what answers a question.
use Rattle.std.specs.Prelude.{ℕ, List, ◌++◌, codes}
use Rattle.files.specs.declared.cause.Cause.{Cause}
use Rattle.files.specs.declared.cause.Cause.TheVariants.{Missing, Denied, IsFolder, Unknown}
use Rattle.telling.specs.Printable.{printable}
use Rattle.documents.specs.declared.comparing.Difference.{Difference}
use Rattle.documents.specs.declared.comparing.Difference.TheVariants.{Missing as Absent, Surplus, Another, Elsewhere}
use Rattle.file_runs.specs.declared.request.Question.{Question}
use Rattle.file_runs.specs.declared.request.Question.TheVariants.{Help, Version}
use Rattle.file_runs.specs.declared.request.Valued.{Valued}
use Rattle.file_runs.specs.declared.request.Valued.TheVariants.{Config, Only, Exclude, StandIn, OpenApi, Check}
use Rattle.file_runs.specs.declared.request.Misuse.{Misuse}
use Rattle.file_runs.specs.declared.request.Misuse.TheVariants.{UnknownOption, NoValue, GivenTwice, InputTwice, NoFile}
use Rattle.file_runs.specs.declared.reports.TheConstants.{HELP, VERSION}

abbrev pub option_name : Valued → List ℕ
option_name Config = codes "--config"
option_name Only = codes "--only"
option_name Exclude = codes "--exclude"
option_name StandIn = codes "--stand-in"
option_name OpenApi = codes "--openapi"
option_name Check = codes "--check"

-- how words are misused, and how to use the program
abbrev pub misuse_line : Misuse → List ℕ
misuse_line (UnknownOption word) = codes "unknown option " ++ word
misuse_line (NoValue valued) = codes "option " ++ (option_name valued ++ codes " lacks its value")
misuse_line (GivenTwice valued) = codes "option " ++ (option_name valued ++ codes " is given twice")
misuse_line InputTwice = codes "- is named twice"
misuse_line NoFile = codes "no file is named"

abbrev pub misuse_text : Misuse → List ℕ
misuse_text misuse = printable (misuse_line misuse ++ codes "\nusage: schema_gen_file [OPTION].. [--] FILE..\n")

-- a file that cannot be read, and why, as far as that is known
abbrev pub cause_text : Cause → List ℕ
cause_text Missing = codes "there is no such file"
cause_text Denied = codes "permission denied"
cause_text IsFolder = codes "it is a directory"
cause_text Unknown = codes "reading it failed"

abbrev pub fault_line : List ℕ → Cause → List ℕ
fault_line path cause = printable (path ++ (codes ": cannot be read: " ++ (cause_text cause ++ codes "\n")))

-- why a document that an option names is not taken: it is no JSON, or too long; no OpenAPI document; or has a schema of the name
abbrev pub document_line : List ℕ → List ℕ
document_line path = printable (path ++ codes ": BadConfig: this is no JSON of at most 16777216 bytes\n")

abbrev pub openapi_line : List ℕ → List ℕ
openapi_line path = printable (path ++ codes ": BadConfig: this is no OpenAPI document: a JSON object, whose components and their schemas are objects\n")

abbrev pub taken_line : (path name : List ℕ) → List ℕ
taken_line path name = printable (path ++ (codes ": DuplicateName: the document has a schema " ++ (name ++ codes " of its own\n")))

-- how a document differs
abbrev pub difference_text : Difference → List ℕ
difference_text (Absent name) = name ++ codes " is missing"
difference_text (Surplus name) = name ++ codes " is described no more"
difference_text (Another name) = name ++ codes " is another"
difference_text Elsewhere = codes "what stands beside the schemas is another"

-- how the document at the path differs
abbrev pub difference_line : List ℕ → Difference → List ℕ
difference_line path found = printable (path ++ (codes ": " ++ (difference_text found ++ codes "\n")))

-- what answers a question
abbrev pub answer_text : Question → List ℕ
answer_text Help = HELP.now
answer_text Version = VERSION.now
