-- Diagnostics as lists of entries, of which the first speaks for all.
use Rattle.std.specs.Prelude.{ℕ, List, [], ◌∷◌, ◌++◌, Option, Some, None, codes}
use Rattle.std.specs.Fmt.{decimal}
use Rattle.std.specs.List.{flat_map, join_by}
use Rattle.diag.specs.declared.diagnostics.DiangosticsInner.{DiangosticsInner}
use Rattle.diag.specs.declared.kind.Kind.{Kind}
use Rattle.texts.specs.declared.span.Span.{Span}
use Rattle.diag.specs.declared.suggestion.Suggestion.{Suggestion}
use Rattle.diag.specs.Kind.{name_of}
use Rattle.diag.specs.Suggestion.{inserted, line_of}

-- an entry without suggestions and instances
abbrev pub diagnostic : Kind → Span → List ℕ → DiangosticsInner
diagnostic kind span message = record { span = span; kind = kind; message = message; suggestions = []; instances = [] }

-- there is a first entry, and this holds of it
abbrev pub HasFirst : List DiangosticsInner → (DiangosticsInner → Type 0) → Type 0
HasFirst [] P = ⊥
HasFirst (entry ∷ entries) P = P entry

-- the message of the first entry
abbrev pub message_of : List DiangosticsInner → List ℕ
message_of [] = []
message_of (entry ∷ entries) = entry.message

-- the first entry has one suggestion more, at its place in the order
abbrev pub with_suggestion : Suggestion → List DiangosticsInner → List DiangosticsInner
with_suggestion suggestion [] = []
with_suggestion suggestion (entry ∷ entries) = record entry { suggestions = inserted suggestion entry.suggestions } ∷ entries

-- the first entry has one instance more, at the end
abbrev pub with_instance : List ℕ → List DiangosticsInner → List DiangosticsInner
with_instance instance [] = []
with_instance instance (entry ∷ entries) = record entry { instances = entry.instances ++ instance ∷ [] } ∷ entries

-- the suggestions a line each, after an empty line
abbrev pub lines_of : List Suggestion → List ℕ
lines_of [] = []
lines_of (suggestion ∷ suggestions) = 10 ∷ 10 ∷ join_by line_of (10 ∷ []) (suggestion ∷ suggestions)

-- an entry as a report prints it: its message, and its suggestions
abbrev pub entry_text : DiangosticsInner → List ℕ
entry_text entry = entry.message ++ lines_of entry.suggestions

-- the entries as a report prints them, joined by new lines
abbrev pub text_of : List DiangosticsInner → List ℕ
text_of entries = join_by entry_text (10 ∷ []) entries

-- the first entry's kind and its span's bytes, and then the entries as a report prints them
abbrev pub located_of : List DiangosticsInner → List ℕ
located_of [] = []
located_of (entry ∷ entries) =
    name_of entry.kind ++ (codes " " ++ (decimal entry.span.start
    ++ (codes ".." ++ (decimal entry.span.end ++ (codes ": " ++ text_of (entry ∷ entries))))))

-- the entries of all, in order; of no diagnostics, none
abbrev pub joined_of : List (List DiangosticsInner) → Option (List DiangosticsInner)
joined_of [] = None
joined_of (entries ∷ others) = Some (flat_map (λ part. part) (entries ∷ others))
