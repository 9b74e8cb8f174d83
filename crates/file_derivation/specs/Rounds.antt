-- What is left out by rounds, until nothing is at fault.
use Rattle.std.specs.Prelude.{◌≡◌, ◌≢◌, ℕ, suc, List, [], ◌∷◌, ◌++◌, length, slice_get, Some, None}
use Rattle.std.specs.List.{AllByRecursion}
use Rattle.diag.specs.declared.diagnostics.DiangosticsInner.{DiangosticsInner}
use Rattle.diag.specs.declared.error.DeriveError.TheVariants.{Refused}
use Rattle.configuration.specs.Configuration.{Configuration}
use Rattle.syntax.specs.Items.{DeclaredItem}
use Rattle.telling.specs.declared.told.Told.{Told}
use Rattle.texts.specs.Span.{no_span}
use Rattle.texts.specs.declared.span.Span.{Span}
use Rattle.prepare.specs.declared.file_items.FileItem.{FileItem}
use Rattle.prepare.specs.Blanks.{text_read}
use Rattle.gathering.specs.Reading.{IsReadAs, IsRefusedText, told_of, AreRead}
use Rattle.selecting.specs.declared.selection.Selection.{Selection}
use Rattle.file_derivation.specs.Faults.{IsFaultAt}
use Rattle.file_derivation.specs.Helps.{Origin, origin_of}
use Rattle.file_derivation.specs.LeftOut.{faulty_names, IsRound}
use Rattle.file_derivation.specs.declared.judged.Judged.{Judged}
use Rattle.file_derivation.specs.declared.judged.Verdict.{Verdict}
use Rattle.file_derivation.specs.declared.judged.Verdict.TheVariants.{Fault, Sound}

-- ---- items that cannot be read

-- where the first of declarations has its name
abbrev pub name_span : List DeclaredItem → Span
name_span [] = no_span
name_span (d ∷ ds) = d.ident.span

-- the item is at fault where its text is refused
abbrev pub IsTextVerdict : (names : List (List ℕ)) → FileItem → Verdict → Type 0
IsTextVerdict names i (Fault told) = (d : List DiangosticsInner) × IsRefusedText (text_read i) (Refused d) × (told ≡ told_of names i d)
IsTextVerdict names i (Sound span) = (ds : List DeclaredItem) × IsReadAs (text_read i) ds × (span ≡ name_span ds)

-- Each of the items is judged by its text, in order.
pub data AreTexts (names : List (List ℕ)) : List FileItem → List Judged → Type 0 where
  no_text : AreTexts names [] []
  one_text : {items : List FileItem} {judged : List Judged} (j : Judged) → IsTextVerdict names j.item.now j.verdict → AreTexts names items judged → AreTexts names (j.item.now ∷ items) (j ∷ judged)

-- What cannot be read is left out, and what needs it; this is told of it, and the others are kept.
abbrev pub LeavesTexts : (names : List (List ℕ)) → List FileItem → List Told → List FileItem → Type 0
LeavesTexts names items told kept = (judged : List Judged) × AreTexts names items judged × IsRound names items judged told kept

-- each of the items can be read
abbrev pub CanBeRead : List FileItem → Type 0
CanBeRead items = AllByRecursion (λ i. (ds : List DeclaredItem) × IsReadAs (text_read i) ds) items

-- ---- declarations at fault

-- the item is at fault where this declaration, which is read from it, is
abbrev pub IsVerdictAt : Configuration → List DeclaredItem → Origin → ℕ → DeclaredItem → Verdict → Type 0
IsVerdictAt c ds o at d (Fault told) = IsFaultAt c ds o at (Some told)
IsVerdictAt c ds o at d (Sound span) = IsFaultAt c ds o at None × (span ≡ d.ident.span)

-- The items that the first so many declarations are read from are judged by these, in order.
pub data AreVerdicts (c : Configuration) (ds : List DeclaredItem) (o : Origin) : ℕ → List Judged → Type 0 where
  none_yet : AreVerdicts c ds o 0 []
  one_more : {at : ℕ} {judged : List Judged} {d : DeclaredItem} (j : Judged) → AreVerdicts c ds o at judged → slice_get ds at ≡ Some d → slice_get o.from at ≡ Some j.item.now → IsVerdictAt c ds o at d j.verdict
      → AreVerdicts c ds o (suc at) (judged ++ j ∷ [])

-- the items are judged by all declarations that they read as
pub record AreJudged (s : Selection) (c : Configuration) (names : List (List ℕ)) (items : List FileItem) (judged : List Judged) : Type 0 where
  pub from : List FileItem
  pub declarations : List DeclaredItem
  pub read : AreRead names items from declarations []
  pub verdicts : AreVerdicts c declarations (origin_of names s from) (length declarations) judged

-- By rounds what is at fault is left out, and what needs it, until nothing is; this is told of it, and these are the last.
pub data LeavesFaults (s : Selection) (c : Configuration) (names : List (List ℕ)) : List FileItem → List Told → List FileItem → Type 0 where
  nothing_more : {items : List FileItem} {judged : List Judged} → AreJudged s c names items judged → faulty_names judged ≡ [] → LeavesFaults s c names items [] items
  one_round : {items kept last : List FileItem} {judged : List Judged} {told more : List Told} → AreJudged s c names items judged → faulty_names judged ≢ [] → IsRound names items judged told kept → LeavesFaults s c names kept more last
      → LeavesFaults s c names items (told ++ more) last
