-- Selected declarations, each read from its own text.
use Rattle.std.specs.Prelude.{◌⊎◌, ℕ, List, [], ◌∷◌, ◌++◌, map, length, get_or, replicate}
use Rattle.diag.specs.Refusal.{RefusesNone}
use Rattle.diag.specs.declared.diagnostics.DiangosticsInner.{DiangosticsInner}
use Rattle.diag.specs.declared.error.DeriveError.{DeriveError}
use Rattle.diag.specs.declared.error.DeriveError.TheVariants.{Refused}
use Rattle.renaming.specs.Refusals.{HaveNoRows}
use Rattle.syntax.specs.Items.{DeclaredItem, declarations_view}
use Rattle.syntax.specs.Named.{AreNamed}
use Rattle.syntax.specs.Source.{Reads, NestsTooDeep, IsTooDeep, IsUnreadable}
use Rattle.telling.specs.declared.told.Told.{Told}
use Rattle.texts.specs.declared.span.Span.{Span}
use Rattle.prepare.specs.Blanks.{text_read}
use Rattle.prepare.specs.declared.file_items.FileItem.{FileItem}
use Rattle.gathering.specs.Telling.{told_by}
use Rattle.gathering.specs.declared.reading.Reading.{Reading}

-- The text is read as these declarations, no deeper than it may be, and their names have rows.
pub record IsReadAs (text : List ℕ) (ds : List DeclaredItem) : Type 0 where
  pub read : Reads text ds
  pub shallow : (span : Span) → ¬ (NestsTooDeep text span)
  pub rows : RefusesNone (HaveNoRows ds)

-- the error refuses the text: it nests too deep, or else it has no reading, or else its declarations have no rows
abbrev pub IsRefusedText : List ℕ → DeriveError → Type 0
IsRefusedText text e = (IsTooDeep text e ⊎ IsUnreadable text e) ⊎ ((ds : List DeclaredItem) × Reads text ds × HaveNoRows ds e)

-- the name of the file of this number
abbrev pub file_name : List (List ℕ) → ℕ → List ℕ
file_name names file = get_or names file []

-- what is told of a refusal of the declaration's text
abbrev pub told_of : List (List ℕ) → FileItem → List DiangosticsInner → Told
told_of names i d = told_by (file_name names i.file) i.place i.text d

-- Of the declarations of files each is read from its own text, in order: these are read, each from that one, and this is told of the others.
pub data AreRead (names : List (List ℕ)) : (items from : List FileItem) → List DeclaredItem → List Told → Type 0 where
  nothing_read : AreRead names [] [] [] []
  is_read : {i : FileItem} {items from : List FileItem} {es ds : List DeclaredItem} {faults : List Told} → IsReadAs (text_read i) es → AreRead names items from ds faults
      → AreRead names (i ∷ items) (replicate (length es) i ++ from) (es ++ ds) faults
  is_refused : {i : FileItem} {items from : List FileItem} {ds : List DeclaredItem} {faults : List Told} {d : List DiangosticsInner} → IsRefusedText (text_read i) (Refused d) → AreRead names items from ds faults
      → AreRead names (i ∷ items) from ds (told_of names i d ∷ faults)

-- These declarations of files are read so far: each from its own text or told of, each field in braces with a name, each name with its row.
pub record HasRead (names : List (List ℕ)) (items : List FileItem) (r : Reading) : Type 0 where
  pub read : AreRead names items (map (λ i. i.now) r.from) (declarations_view r.declarations) r.faults
  pub named : AreNamed (declarations_view r.declarations)
  pub rows : RefusesNone (HaveNoRows (declarations_view r.declarations))
