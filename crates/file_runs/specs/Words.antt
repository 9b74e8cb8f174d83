-- What the words after the program's name ask for, by the conventions of Unix tools (POSIX, "Utility Syntax Guidelines"; GNU,
-- "Program Argument Syntax Conventions"): each word is one step, and the words are taken one after the other.
use Rattle.std.specs.Prelude.{◌≡◌, ◌≤◌, ◌⊎◌, ℕ, List, [], ◌∷◌, ◌++◌, Bool, true, false, not, cond, ◌&&◌, ◌||◌, length, take, drop, codes, is_some, Option, Some, None, Result, Ok, Err}
use Rattle.std.specs.Option.{option_or}
use Rattle.std.specs.Str.{bytes_eq}
use Rattle.texts.specs.Names.{is_in}
use Rattle.gathering.specs.Files.{most_bytes}
use Rattle.file_runs.specs.declared.request.Question.{Question}
use Rattle.file_runs.specs.declared.request.Question.TheVariants.{Help, Version}
use Rattle.file_runs.specs.declared.request.Flag.{Flag}
use Rattle.file_runs.specs.declared.request.Flag.TheVariants.{Serde, Strict, AnyOf, Pretty, SkipRefused, NotPlain}
use Rattle.file_runs.specs.declared.request.Valued.{Valued}
use Rattle.file_runs.specs.declared.request.Valued.TheVariants.{Config, Only, Exclude, StandIn, OpenApi, Check}
use Rattle.file_runs.specs.declared.request.Misuse.{Misuse}
use Rattle.file_runs.specs.declared.request.Misuse.TheVariants.{UnknownOption, NoValue, GivenTwice, InputTwice, NoFile}
use Rattle.file_runs.specs.declared.request.Request.{Request}
use Rattle.file_runs.specs.declared.arguments.State.{State}
use Rattle.file_runs.specs.declared.arguments.Stop.{Stop}
use Rattle.file_runs.specs.declared.arguments.Stop.TheVariants as stop

-- whether the second word is the first
abbrev pub is : List ℕ → List ℕ → Bool
is text word = is_in word (text ∷ [])

-- the option without a value that the word is
abbrev pub flag_of : List ℕ → Option Flag
flag_of word =
    cond (is (codes "--serde") word) (Some Serde)
    (cond (is (codes "--strict") word) (Some Strict)
    (cond (is (codes "--any-of") word) (Some AnyOf)
    (cond (is (codes "--pretty") word) (Some Pretty) (cond (is (codes "--skip-refused") word) (Some SkipRefused) (cond (is (codes "--not-plain") word) (Some NotPlain) None)))))

-- the option whose value is the next word
abbrev pub valued_of : List ℕ → Option Valued
valued_of word =
    cond (is (codes "--config") word) (Some Config)
    (cond (is (codes "--only") word) (Some Only)
    (cond (is (codes "--exclude") word) (Some Exclude) (cond (is (codes "--stand-in") word) (Some StandIn) (cond (is (codes "--openapi") word) (Some OpenApi) (cond (is (codes "--check") word) (Some Check) None)))))

-- ---- questions, which are answered whatever else the words say

abbrev pub question_of : List ℕ → Option Question
question_of word = cond (is_in word (codes "-h" ∷ codes "--help" ∷ [])) (Some Help) (cond (is (codes "--version") word) (Some Version) None)

-- the first question before a `--` that ends the options; whether the first word is the value of an option, which ends none
abbrev pub question_from : (is_value : Bool) → List (List ℕ) → Option Question
question_from is_value [] = None
question_from is_value (word ∷ words) =
    cond (not is_value && is (codes "--") word) None
    (option_or (question_of word) (question_from (not is_value && is_some (valued_of word)) words))

abbrev pub question_in : List (List ℕ) → Option Question
question_in words = question_from false words

-- ---- options and files

-- the option with its value behind `=`
abbrev pub given_of : List ℕ → Option (Valued × List ℕ)
given_of word =
    cond (bytes_eq (take 9 word) (codes "--config=")) (Some (Config, drop 9 word))
    (cond (bytes_eq (take 7 word) (codes "--only=")) (Some (Only, drop 7 word))
    (cond (bytes_eq (take 10 word) (codes "--exclude=")) (Some (Exclude, drop 10 word))
    (cond (bytes_eq (take 11 word) (codes "--stand-in=")) (Some (StandIn, drop 11 word))
    (cond (bytes_eq (take 10 word) (codes "--openapi=")) (Some (OpenApi, drop 10 word))
    (cond (bytes_eq (take 8 word) (codes "--check=")) (Some (Check, drop 8 word)) None)))))

-- the path of the input
abbrev pub is_input : List ℕ → Bool
is_input path = is (codes "-") path

abbrev pub is_option : List ℕ → Bool
is_option word = bytes_eq (take 1 word) (codes "-") && not (is_input word)

-- ---- what is asked for, with one more option or file

abbrev pub once : Valued → Option (List ℕ) → Request → Result Request Misuse
once valued None r = Ok r
once valued (Some before) r = Err (GivenTwice valued)

-- the path is that of the input, which is named before
abbrev pub names_input_again : List ℕ → Request → Bool
names_input_again path r = is_input path && (is_in path r.files || is_in path r.stand_ins)

abbrev pub with_value : Valued → List ℕ → Request → Result Request Misuse
with_value Config path r = once Config r.config (record r { config = Some path })
with_value Only name r = Ok (record r { selection = record r.selection { only = r.selection.only ++ name ∷ [] } })
with_value Exclude name r = Ok (record r { selection = record r.selection { exclude = r.selection.exclude ++ name ∷ [] } })
with_value StandIn path r = cond (names_input_again path r) (Err InputTwice) (Ok (record r { stand_ins = r.stand_ins ++ path ∷ [] }))
with_value OpenApi path r = once OpenApi r.openapi (record r { openapi = Some path })
with_value Check path r = once Check r.check (record r { check = Some path })

abbrev pub with_file : List ℕ → Request → Result Request Misuse
with_file path r = cond (names_input_again path r) (Err InputTwice) (Ok (record r { files = r.files ++ path ∷ [] }))

-- ---- one word

abbrev pub going_on : State → Result Request Misuse → Result State Misuse
going_on s (Ok r) = Ok (record s { request = r; pending = None })
going_on s (Err m) = Err m

abbrev pub with_given : Option (Valued × List ℕ) → List ℕ → State → Result State Misuse
with_given (Some given) word s = going_on s (with_value given.0 given.1 s.request)
with_given None word s = cond (is_option word) (Err (UnknownOption word)) (going_on s (with_file word s.request))

abbrev pub with_valued : Option Valued → List ℕ → State → Result State Misuse
with_valued (Some valued) word s = Ok (record s { pending = Some valued })
with_valued None word s = with_given (given_of word) word s

abbrev pub with_flag : Flag → Request → Request
with_flag Serde r = record r { selection = record r.selection { serde = true } }
with_flag Strict r = record r { strict = true }
with_flag AnyOf r = record r { any_of = true }
with_flag Pretty r = record r { pretty = true }
with_flag SkipRefused r = record r { selection = record r.selection { skip_refused = true } }
with_flag NotPlain r = record r { selection = record r.selection { not_plain = true } }

abbrev pub with_flagged : Option Flag → List ℕ → State → Result State Misuse
with_flagged (Some flag) word s = Ok (record s { request = with_flag flag s.request })
with_flagged None word s = with_valued (valued_of word) word s

-- where options may stand
abbrev pub with_option : List ℕ → State → Result State Misuse
with_option word s = cond (is (codes "--") word) (Ok (record s { ended = true })) (with_flagged (flag_of word) word s)

-- a value of the option before it, or a file behind `--`, or what stands where options may
abbrev pub with_word : Option Valued → List ℕ → State → Result State Misuse
with_word (Some valued) word s = going_on s (with_value valued word s.request)
with_word None word s = cond s.ended (going_on s (with_file word s.request)) (with_option word s)

-- ---- all words

abbrev pub and_then : (State → Result State Misuse) → Result State Misuse → Result State Misuse
and_then next (Ok s) = next s
and_then next (Err m) = Err m

abbrev pub after : List (List ℕ) → State → Result State Misuse
after [] s = Ok s
after (word ∷ words) s = and_then (after words) (with_word s.pending word s)

abbrev pub nothing_asked : State
nothing_asked = record {
  request = record {
    selection = record { serde = false; only = []; exclude = []; skip_refused = false; not_plain = false; own = 0 };
    strict = false;
    any_of = false;
    pretty = false;
    config = None;
    openapi = None;
    check = None;
    files = [];
    stand_ins = [];
  };
  pending = None;
  ended = false;
}

-- the stand-ins are read behind the files, which are the user's own
abbrev pub with_stand_ins : Request → Request
with_stand_ins r = record r { selection = record r.selection { own = length r.files }; files = r.files ++ r.stand_ins; stand_ins = [] }

abbrev pub with_some : List (List ℕ) → Request → Result Request Misuse
with_some [] r = Err NoFile
with_some (path ∷ paths) r = Ok (with_stand_ins r)

abbrev pub at_end : Option Valued → Request → Result Request Misuse
at_end (Some valued) r = Err (NoValue valued)
at_end None r = with_some r.files r

abbrev pub finished : Result State Misuse → Result Request Misuse
finished (Ok s) = at_end s.pending s.request
finished (Err m) = Err m

-- what the words ask for, or why they ask for nothing
unfoldable pub asked : List (List ℕ) → Result Request Misuse
asked words = finished (after words nothing_asked)

-- ---- what words say

-- the words ask this, and nothing else counts
abbrev pub Ask : List (List ℕ) → Question → Type 0
Ask words question = question_in words ≡ Some question

abbrev pub AskFor : List (List ℕ) → Request → Type 0
AskFor words request = (question_in words ≡ None) × (asked words ≡ Ok request)

abbrev pub AreMisused : List (List ℕ) → Misuse → Type 0
AreMisused words misuse = (question_in words ≡ None) × (asked words ≡ Err misuse)

-- the request names the document at the path: its OpenAPI document, or the one that it compares with
abbrev pub IsOfDocument : Request → List ℕ → Type 0
IsOfDocument r path = (r.openapi ≡ Some path) ⊎ (r.check ≡ Some path)

-- the path stands in an option of the request
abbrev pub IsOfOption : Request → List ℕ → Type 0
IsOfOption r path = (r.config ≡ Some path) ⊎ IsOfDocument r path

-- the request names the input, and the file at the path, in an option or among its files
abbrev pub IsOfInput : Request → Type 0
IsOfInput r = is_in (codes "-") r.files ≡ true

abbrev pub IsOfPath : Request → List ℕ → Type 0
IsOfPath r path = IsOfOption r path ⊎ ((is_in path r.files ≡ true) × (is_input path ≡ false))

-- the request names the input, and all of it is read: nothing is left out, or it is told, and not too long
abbrev pub IsOfWholeInput : Request → (left : Option (List ℕ)) → Type 0
IsOfWholeInput r left = IsOfInput r × ((r.selection.skip_refused ≡ false) ⊎ ((text : List ℕ) × (left ≡ Some text) × (length text ≤ most_bytes)))

abbrev pub NameWholeInput : List (List ℕ) → (left : Option (List ℕ)) → Type 0
NameWholeInput words left = (request : Request) × AskFor words request × IsOfWholeInput request left

abbrev pub NameInput : List (List ℕ) → Type 0
NameInput words = (request : Request) × AskFor words request × IsOfInput request

abbrev pub NamePath : List (List ℕ) → List ℕ → Type 0
NamePath words path = (request : Request) × AskFor words request × IsOfPath request path

-- ---- what functions answer on the way

-- a function answers what is said, unless memory ran out
abbrev pub Answers : {A : Type 0} → Result A Misuse → Result A Stop → Type 0
Answers said (Ok x) = said ≡ Ok x
Answers said (Err stop.Memory) = Unit {0}
Answers said (Err (stop.Misused misuse)) = said ≡ Err misuse
