-- What is left out in a round, and what is told of it.
use Rattle.std.specs.Prelude.{◌≡◌, ◌⊎◌, ◌↔◌, ℕ, List, [], ◌∷◌, ◌++◌, Bool, true, false, not, ◌&&◌, cond, find, codes, Option, Some, None}
use Rattle.std.specs.List.{filter, flat_map}
use Rattle.std.specs.Str.{bytes_eq}
use Rattle.reaching.specs.declared.node.Node.{Node}
use Rattle.scopes.specs.Names.{duplicate_message}
use Rattle.telling.specs.Told.{told_at}
use Rattle.telling.specs.declared.told.Told.{Told}
use Rattle.texts.specs.Names.{is_in}
use Rattle.texts.specs.declared.span.Span.{Span}
use Rattle.prepare.specs.declared.file_items.FileItem.{FileItem}
use Rattle.gathering.specs.Reading.{file_name}
use Rattle.file_derivation.specs.declared.judged.Judged.{Judged}
use Rattle.file_derivation.specs.declared.judged.Verdict.{Verdict}
use Rattle.file_derivation.specs.declared.judged.Verdict.TheVariants.{Fault, Sound}

-- ---- names

abbrev pub IsItemIn : List FileItem → FileItem → Type 0
IsItemIn [] i = ⊥
IsItemIn (j ∷ items) i = (j ≡ i) ⊎ IsItemIn items i

abbrev pub faulty_name : FileItem → Verdict → List (List ℕ)
faulty_name i (Fault told) = i.declared.name ∷ []
faulty_name i (Sound span) = []

-- the names of the items at fault
abbrev pub faulty_names : List Judged → List (List ℕ)
faulty_names judged = flat_map (λ j. faulty_name j.item.now j.verdict) judged

-- A name is left out where it is that of an item at fault, or of an item that names one that is left out.
pub data IsLeftOut (items : List FileItem) (faulty : List (List ℕ)) : List ℕ → Type 0 where
  at_fault : {name : List ℕ} → is_in name faulty ≡ true → IsLeftOut items faulty name
  needs_one : {other : List ℕ} (i : FileItem) → IsItemIn items i → is_in other i.declared.names ≡ true → IsLeftOut items faulty other → IsLeftOut items faulty i.declared.name

-- ---- what is told

abbrev pub label : List ℕ
label = codes "left out"

-- of a file, where this is told of its fault
abbrev pub told_of_file : Told → Told
told_of_file told = record told { label = label }

-- of an item at fault, where this is told of its fault
abbrev pub told_faulty : FileItem → Told → Told
told_faulty i told = record told { label = label; message = i.declared.name ++ (codes ": " ++ told.message) }

-- of another than the name, that it is left out
abbrev pub is_needed : (is_out : List ℕ → Bool) → (name other : List ℕ) → Bool
is_needed is_out name other = is_out other && not (bytes_eq other name)

-- why one of the name is left out: it needs another, or else another has its name
abbrev pub why : (name : List ℕ) → (needed : Option (List ℕ)) → List ℕ
why name (Some other) = name ++ (codes " needs " ++ other)
why name None = name ++ (codes ": " ++ duplicate_message name)

-- why an item without a fault of its own is left out: one at fault has its name, or it needs the first of the others that it names and that are left out; where it names none of these, another of its name does
abbrev pub reason : (is_out is_faulty : List ℕ → Bool) → Node → List ℕ
reason is_out is_faulty n = why n.name (cond (is_faulty n.name) None (find (is_needed is_out n.name) n.names))

-- of such an item, at its name
abbrev pub told_needing : (names : List (List ℕ)) → FileItem → Span → (message : List ℕ) → Told
told_needing names i span message = told_at (file_name names i.file) i.place i.text span label message

-- of an item that is left out: its fault, or the reason
abbrev pub line : (names : List (List ℕ)) → (is_out is_faulty : List ℕ → Bool) → FileItem → Verdict → Told
line names is_out is_faulty i (Fault told) = told_faulty i told
line names is_out is_faulty i (Sound span) = told_needing names i span (reason is_out is_faulty i.declared)

-- the name is that of one at fault, or else of another that is left out
abbrev pub picks : (first is_out is_faulty : Bool) → Bool
picks true is_out is_faulty = is_faulty
picks false is_out is_faulty = is_out && not is_faulty

abbrev pub line_if : Bool → Told → List Told
line_if picked told = cond picked (told ∷ []) []

-- what is told of the items of these names
abbrev pub lines_of : (first : Bool) → (names : List (List ℕ)) → (is_out is_faulty : List ℕ → Bool) → List Judged → List Told
lines_of first names is_out is_faulty judged =
    flat_map (λ j. line_if (picks first (is_out j.item.now.declared.name) (is_faulty j.item.now.declared.name)) (line names is_out is_faulty j.item.now j.verdict)) judged

-- first of the items whose names are those at fault, then of those that need them
abbrev pub round_lines : (names : List (List ℕ)) → (is_out is_faulty : List ℕ → Bool) → List Judged → List Told
round_lines names is_out is_faulty judged = lines_of true names is_out is_faulty judged ++ lines_of false names is_out is_faulty judged

-- ---- a round

abbrev pub kept_by : (is_out : List ℕ → Bool) → List FileItem → List FileItem
kept_by is_out items = filter (λ i. not (is_out i.declared.name)) items

-- Where items are judged so, this is told of those that are left out, and the others are kept.
pub record IsRound (names : List (List ℕ)) (items : List FileItem) (judged : List Judged) (told : List Told) (kept : List FileItem) : Type 0 where
  pub is_out : List ℕ → Bool
  pub decides : (name : List ℕ) → (is_out name ≡ true) ↔ IsLeftOut items (faulty_names judged) name
  pub lines : told ≡ round_lines names is_out (λ name. is_in name (faulty_names judged)) judged
  pub others : kept ≡ kept_by is_out items
