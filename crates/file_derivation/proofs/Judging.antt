-- Items that are judged by their texts or their declarations.
use Rattle.std.proofs.Common.{◌≡◌, ◌≢◌, ◌∙◌, ◌⊎◌, inl, inr, refl, ap, sym, subst, ℕ, zero, suc, List, [], ◌∷◌, ◌++◌, length, replicate, Some, None, append-nil, append_assoc}
use Rattle.std.specs.Prelude.{slice_get, slice_index_or}
use Rattle.std.proofs.lemmas.Option.{none-some, same_Some}
use Rattle.diag.specs.declared.diagnostics.DiangosticsInner.{DiangosticsInner}
use Rattle.diag.specs.declared.error.DeriveError.TheVariants.{Refused}
use Rattle.configuration.specs.Configuration.{Configuration}
use Rattle.syntax.specs.Items.{DeclaredItem}
use Rattle.telling.specs.declared.told.Told.{Told}
use Rattle.prepare.specs.declared.file_items.FileItem.{FileItem}
use Rattle.prepare.specs.Blanks.{text_read}
use Rattle.gathering.specs.Reading.{IsReadAs, IsRefusedText, told_of, AreRead, nothing_read, is_read, is_refused}
use Rattle.file_derivation.specs.Faults.{AreFaults}
use Rattle.file_derivation.specs.Faults as faults
use Rattle.file_derivation.specs.Helps.{Origin}
use Rattle.file_derivation.specs.LeftOut.{IsItemIn, faulty_name, faulty_names}
use Rattle.file_derivation.specs.Rounds.{AreTexts, no_text, one_text, IsVerdictAt, AreVerdicts, none_yet, one_more}
use Rattle.file_derivation.specs.declared.judged.Judged.{Judged}
use Rattle.file_derivation.specs.declared.judged.Verdict.{Verdict}
use Rattle.file_derivation.specs.declared.judged.Verdict.TheVariants.{Fault, Sound}
use Rattle.file_derivation.proofs.Out.{AreWithin}

-- ---- one item

-- one item is read, or is refused
pub read_one : {names : List (List ℕ)} {i : FileItem} {from : List FileItem} {ds : List DeclaredItem} {told : List Told} → AreRead names (i ∷ []) from ds told
    → ((told ≡ []) × IsReadAs (text_read i) ds) ⊎ ((d : List DiangosticsInner) × IsRefusedText (text_read i) (Refused d) × (told ≡ told_of names i d ∷ []))
read_one {i = i} (is_read {es = es} r nothing_read) = inl (refl, subst (IsReadAs (text_read i)) (sym (append-nil es)) r)
read_one (is_refused {d = d} r nothing_read) = inr (d, r, refl)

pub refused_one : {names : List (List ℕ)} {i : FileItem} {items from : List FileItem} {ds : List DeclaredItem} {told : List Told} (t : Told) → AreRead names items from ds told → items ≡ i ∷ [] → told ≢ [] → t ≡ slice_index_or told 0 t
    → (d : List DiangosticsInner) × IsRefusedText (text_read i) (Refused d) × (t ≡ told_of names i d)
refused_one {names = names} {i = i} {from = from} {ds = ds} {told = told} t are one some is = elim (read_one (subst (λ (v : List FileItem). AreRead names v from ds told) one are)) [
  | inl (none, r) ↦ absurd (some none)
  | inr (d, r, same) ↦ (d, r, is ∙ ap (λ (v : List Told). slice_index_or v 0 t) same)
]

-- ---- where the items come from

wider : (items : List FileItem) (x : FileItem) (judged : List Judged) → AreWithin items judged → AreWithin (x ∷ items) judged
wider items x [] all = tt
wider items x (j ∷ judged) all = (inr all.0, wider items x judged all.1)

pub texts_within : {names : List (List ℕ)} {items : List FileItem} {judged : List Judged} → AreTexts names items judged → AreWithin items judged
texts_within no_text = tt
texts_within (one_text {items = items} {judged = judged} j is more) = (inl refl, wider items j.item.now judged (texts_within more))

all_more : (items : List FileItem) (judged : List Judged) (j : Judged) → AreWithin items judged → IsItemIn items j.item.now → AreWithin items (judged ++ j ∷ [])
all_more items [] j all one = (one, tt)
all_more items (k ∷ judged) j all one = (all.0, all_more items judged j all.1 one)

item_at : (from : List FileItem) (at : ℕ) (i : FileItem) → slice_get from at ≡ Some i → IsItemIn from i
item_at [] at i e = absurd (none-some i e)
item_at (x ∷ from) zero i e = inl (same_Some x i e)
item_at (x ∷ from) (suc at) i e = inr (item_at from at i e)

repeated : (n : ℕ) (x : FileItem) (from : List FileItem) (i : FileItem) → IsItemIn (replicate n x ++ from) i → (x ≡ i) ⊎ IsItemIn from i
repeated zero x from i h = inr h
repeated (suc n) x from i (inl same) = inl same
repeated (suc n) x from i (inr h) = repeated n x from i h

read_within : {names : List (List ℕ)} {items from : List FileItem} {ds : List DeclaredItem} {told : List Told} → AreRead names items from ds told → (i : FileItem) → IsItemIn from i → IsItemIn items i
read_within nothing_read i h = h
read_within (is_read {i = x} {from = from} {es = es} r more) i h = elim (repeated (length es) x from i h) [ inl same ↦ inl same | inr k ↦ inr (read_within more i k) ]
read_within (is_refused r more) i h = inr (read_within more i h)

pub verdicts_within : {names : List (List ℕ)} {items from : List FileItem} {ds es : List DeclaredItem} {told : List Told} {c : Configuration} {o : Origin} {n : ℕ} {judged : List Judged} → AreRead names items from es told → o.from ≡ from → AreVerdicts c ds o n judged → AreWithin items judged
verdicts_within r same none_yet = tt
verdicts_within {items = items} {o = o} r same (one_more {at = at} {judged = judged} j more found placed is) =
    all_more items judged j (verdicts_within r same more) (read_within r j.item.now (subst (λ v. IsItemIn v j.item.now) same (item_at o.from at j.item.now placed)))

-- ---- without a fault

pub names_behind : (judged : List Judged) (j : Judged) → faulty_names (judged ++ j ∷ []) ≡ faulty_names judged ++ faulty_name j.item.now j.verdict
names_behind [] j = append-nil (faulty_name j.item.now j.verdict)
names_behind (k ∷ judged) j = ap (λ v. faulty_name k.item.now k.verdict ++ v) (names_behind judged j) ∙ sym (append_assoc (faulty_name k.item.now k.verdict) (faulty_names judged) (faulty_name j.item.now j.verdict))

none_left : (xs ys : List (List ℕ)) → xs ++ ys ≡ [] → (xs ≡ []) × (ys ≡ [])
none_left [] ys e = (refl, e)
none_left (x ∷ xs) ys e = (cc, cc)

sound_one : (c : Configuration) (ds : List DeclaredItem) (o : Origin) (at : ℕ) (d : DeclaredItem) (i : FileItem) (v : Verdict) → IsVerdictAt c ds o at d v → faulty_name i v ≡ [] → AreFaults c ds o at [] → AreFaults c ds o (suc at) []
sound_one c ds o at d i (Fault told) is none more = let no : i.declared.name ∷ [] ≡ [] = none in cc
sound_one c ds o at d i (Sound span) is none more = faults.one_more None more is.0

-- of items without a fault each declaration is without fault
pub no_faults : {c : Configuration} {ds : List DeclaredItem} {o : Origin} {n : ℕ} {judged : List Judged} → AreVerdicts c ds o n judged → faulty_names judged ≡ [] → AreFaults c ds o n []
no_faults none_yet e = faults.none_yet
no_faults {c = c} {ds = ds} {o = o} (one_more {at = at} {judged = judged} {d = d} j more found placed is) e =
    let none = none_left (faulty_names judged) (faulty_name j.item.now j.verdict) (sym (names_behind judged j) ∙ e) in
    sound_one c ds o at d j.item.now j.verdict is none.1 (no_faults more none.0)
