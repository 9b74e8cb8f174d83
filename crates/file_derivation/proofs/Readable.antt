-- Items that can be read, and what is left of them.
use Rattle.std.proofs.Common.{◌≡◌, ◌∙◌, refl, sym, subst, ap, ℕ, List, [], ◌∷◌, ◌++◌, length, replicate, Bool, true, false, not, cond, bytes_eq}
use Rattle.std.proofs.lemmas.Bool.{false≢true, or_left}
use Rattle.texts.specs.Names.{is_in}
use Rattle.syntax.specs.Items.{DeclaredItem}
use Rattle.telling.specs.declared.told.Told.{Told}
use Rattle.prepare.specs.declared.file_items.FileItem.{FileItem}
use Rattle.prepare.specs.Blanks.{text_read}
use Rattle.gathering.specs.Laws.{ReadAsOne}
use Rattle.gathering.specs.Reading.{IsReadAs, AreRead, nothing_read, is_read}
use Rattle.file_derivation.specs.LeftOut.{faulty_name, faulty_names, at_fault, kept_by, IsRound}
use Rattle.file_derivation.specs.Rounds.{CanBeRead, IsTextVerdict, AreTexts, no_text, one_text}
use Rattle.file_derivation.specs.declared.judged.Judged.{Judged}
use Rattle.file_derivation.specs.declared.judged.Verdict.{Verdict}
use Rattle.file_derivation.specs.declared.judged.Verdict.TheVariants.{Fault, Sound}
use Rattle.file_derivation.proofs.Out.{itself, in_right}

-- what can be read is read, and nothing is told of it
read_so : (names : List (List ℕ)) (items : List FileItem) → CanBeRead items → (from : List FileItem) × (ds : List DeclaredItem) × AreRead names items from ds []
read_so names [] can = ([], [], nothing_read)
read_so names (i ∷ items) (own, can) =
    let more = read_so names items can in
    (replicate (length own.0) i ++ more.0, own.0 ++ more.1, is_read own.1 more.2)

pub none_told : ReadAsOne → (names : List (List ℕ)) (items from : List FileItem) (ds : List DeclaredItem) (faults : List Told) → CanBeRead items → AreRead names items from ds faults → faults ≡ []
none_told one names items from ds faults can read =
    let so = read_so names items can in
    (one names items so.0 from so.1 ds faults so.2 read).2

-- of what nothing is told, that can be read
pub can_be_read : (names : List (List ℕ)) (items from : List FileItem) (ds : List DeclaredItem) → AreRead names items from ds [] → CanBeRead items
can_be_read names [] from ds read = tt
can_be_read names (i ∷ items) from ds (is_read {es = es} own more) = ((es, own), can_be_read names items _ _ more)

-- ---- what is left of items

kept_one : (b : Bool) (i : FileItem) (kept : List FileItem) → (b ≡ true → (ds : List DeclaredItem) × IsReadAs (text_read i) ds) → CanBeRead kept → CanBeRead (cond b (i ∷ kept) kept)
kept_one true i kept own can = (own refl, can)
kept_one false i kept own can = can

pub kept_can : (is_out : List ℕ → Bool) (items : List FileItem) → CanBeRead items → CanBeRead (kept_by is_out items)
kept_can is_out [] can = tt
kept_can is_out (i ∷ items) (own, can) = kept_one (not (is_out i.declared.name)) i (kept_by is_out items) (λ e. own) (kept_can is_out items can)

-- a round leaves what can be read of what can be read
pub round_can : {names : List (List ℕ)} {items kept : List FileItem} {judged : List Judged} {told : List Told} → IsRound names items judged told kept → CanBeRead items → CanBeRead kept
round_can {items = items} round can = subst CanBeRead (sym round.others) (kept_can round.is_out items can)

module _ (names : List (List ℕ)) (is_out : List ℕ → Bool) where
  -- an item that is not left out can be read
  sound_one : (i : FileItem) (v : Verdict) (others : List (List ℕ)) → IsTextVerdict names i v → ((name : List ℕ) → is_in name (faulty_name i v ++ others) ≡ true → is_out name ≡ true) → not (is_out i.declared.name) ≡ true
      → (ds : List DeclaredItem) × IsReadAs (text_read i) ds
  sound_one i (Sound span) others is out kept = (is.0, is.1)
  sound_one i (Fault told) others is out kept =
      let gone : is_out i.declared.name ≡ true = out i.declared.name (or_left (bytes_eq i.declared.name i.declared.name) (is_in i.declared.name others) (itself i.declared.name)) in
      absurd (false≢true (ap not (sym gone) ∙ kept))

  kept_texts : {items : List FileItem} {judged : List Judged} → AreTexts names items judged → ((name : List ℕ) → is_in name (faulty_names judged) ≡ true → is_out name ≡ true) → CanBeRead (kept_by is_out items)
  kept_texts no_text out = tt
  kept_texts (one_text {items} {judged} j is more) out =
      kept_one (not (is_out j.item.now.declared.name)) j.item.now (kept_by is_out items) (sound_one j.item.now j.verdict (faulty_names judged) is out)
      (kept_texts more (λ name h. out name (in_right name (faulty_name j.item.now j.verdict) (faulty_names judged) h)))

-- what is left where texts are judged can be read
pub texts_can : {names : List (List ℕ)} {items kept : List FileItem} {judged : List Judged} {told : List Told} → AreTexts names items judged → IsRound names items judged told kept → CanBeRead kept
texts_can {names} texts round = subst CanBeRead (sym round.others) (kept_texts names round.is_out texts (λ name h. (round.decides name).1 (at_fault h)))
