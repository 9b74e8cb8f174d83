-- What is told of a refusal.
use Rattle.std.specs.Prelude.{ℕ, ◌≤◌, List, [], ◌∷◌, ◌++◌, length, take, drop, bytes_eq, cond, option_map, Option, Some, None, codes}
use Rattle.std.proofs.Common.{arith}
use Rattle.std.specs.Option.{option_or}
use Rattle.diag.specs.Kind.{name_of}
use Rattle.diag.specs.declared.kind.Kind.{Kind}
use Rattle.diag.specs.declared.kind.Kind.TheVariants.{BadRow, AliasDepth, TooDeep, Syntax, SerdeTag, MissingRow, DuplicateName, UnknownType, BadArgument, TypeSize, TooManyInstances, NameClash, InlineDepth, TooManyCopies}
use Rattle.diag.specs.declared.diagnostics.DiangosticsInner.{DiangosticsInner}
use Rattle.diag.specs.declared.suggestion.Suggestion.{Suggestion}
use Rattle.diag.specs.declared.suggestion.Suggestion.TheVariants.{Help}
use Rattle.telling.specs.Told.{told_at}
use Rattle.telling.specs.declared.part.Place.{Place}
use Rattle.telling.specs.declared.told.Told.{Told}
use Rattle.texts.specs.Span.{no_span}
use Rattle.texts.specs.declared.span.Span.{Span}

-- a whole text stands at its first line
abbrev pub whole : Place
whole = record { line = 1; column = 1; before = []; behind = [] }

-- a text begins before it ends
pub from_zero : (n : ℕ) → 0 ≤ n
from_zero n = omega arith

-- all of a text
abbrev pub whole_span : List ℕ → Span
whole_span text = record { start = 0; end = length text; ordered = from_zero (length text) }

-- ---- what the reader may do

-- suggestions have the helps first
abbrev pub help_of : List Suggestion → Option (List ℕ)
help_of (Help text ∷ others) = Some text
help_of _ = None

-- the name in the message of an unknown type
abbrev pub unknown_type : List ℕ → Option (List ℕ)
unknown_type message = cond (bytes_eq (take 13 message) (codes "unknown type ")) (Some (drop 13 message)) None

abbrev pub declare_help : List ℕ → List ℕ
declare_help name = codes "add a declaration that says its JSON, as `struct " ++ (name ++ codes "(String);`, or the file that declares it; stand_ins/ has types of other crates, and no `type` with parameters is read, nor one in a block")

-- about a fault of the kind, whatever is told of it
abbrev pub plain_help : Kind → Option (List ℕ)
plain_help BadRow = Some (codes "an alias is the text of a type, as it stands behind the `:` of a field")
plain_help AliasDepth = Some (codes "leave out the alias, and declare a struct of its name")
plain_help TooDeep = Some (codes "give an inner type a struct of its own")
plain_help Syntax = Some (codes "rewrite it; or leave the declaration out by --exclude PATH:LINE, the line of its name, and add one that says its JSON")
plain_help SerdeTag = Some (codes "keep one `tag` or `untagged`, and `content` only beside a `tag`")
plain_help MissingRow = Some (codes "give it a `rename`")
plain_help DuplicateName = Some (codes "rename one; of two under a `cfg`, leave the declaration out by --exclude PATH:LINE, the line of its name, and add it with one of them")
plain_help BadArgument = Some (codes "give it a struct of its own")
plain_help TypeSize = Some (codes "give a part of it a struct of its own")
plain_help TooManyInstances = Some (codes "raise `limit` in the configuration, at most to 4096")
plain_help NameClash = Some (codes "rename one of the declarations")
plain_help InlineDepth = Some (codes "put a struct with named fields in place of a tuple, of a map's key or of a type argument")
plain_help TooManyCopies = Some (codes "raise `copies` in the configuration, at most to 100000")
plain_help _ = None

-- about a fault of the kind, with this message
abbrev pub kind_help : Kind → List ℕ → Option (List ℕ)
kind_help UnknownType message = option_map declare_help (unknown_type message)
kind_help kind message = plain_help kind

abbrev pub entry_help : DiangosticsInner → Option (List ℕ)
entry_help entry = option_or (help_of entry.suggestions) (kind_help entry.kind entry.message)

-- ---- what is told

abbrev pub told_entry : List ℕ → Place → List ℕ → DiangosticsInner → Told
told_entry path place text entry = record (told_at path place text entry.span (name_of entry.kind) entry.message) { help = entry_help entry }

-- what is told of the refusal of a text that stands at this place in the file of the path
abbrev pub told_by : List ℕ → Place → List ℕ → List DiangosticsInner → Told
told_by path place text [] = told_at path place text no_span [] []
told_by path place text (entry ∷ entries) = told_entry path place text entry

-- what is told without a place
abbrev pub told_plainly : (path label message : List ℕ) → Told
told_plainly path label message = record { path = path; shown = None; label = label; message = message; help = None }

-- what is told of a file that is too long
abbrev pub told_longer : List ℕ → Told
told_longer path = told_plainly path (codes "TooLong") (codes "the file is longer than 16777216 bytes")

-- what is told of a refusal that has no place, of the file of the path, or of none
abbrev pub told_unplaced : List ℕ → List DiangosticsInner → Told
told_unplaced path [] = told_plainly path [] []
told_unplaced path (entry ∷ entries) = record (told_plainly path (name_of entry.kind) entry.message) { help = entry_help entry }

-- what is told of a text behind which bytes stand that are no UTF-8, at its end
abbrev pub told_broken : List ℕ → List ℕ → Span → Told
told_broken path text end = record (told_at path whole text end (codes "Syntax") (codes "unexpected text in a declaration")) { help = Some (codes "these bytes are no UTF-8") }
