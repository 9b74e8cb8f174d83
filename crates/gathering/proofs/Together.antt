-- Texts read one after another.
use Rattle.std.proofs.Common.{◌≡◌, ◌∙◌, ◌⊎◌, inl, inr, refl, ap, ap₂, sym, subst, ℕ, List, [], ◌∷◌, ◌++◌, length, map, append_assoc, replicate, Result, Ok, Err, OnOk}
use Rattle.std.specs.Borrow.{Bor}
use Rattle.std.proofs.lemmas.List.{append-nil, length-map, map-append}
use Rattle.diag.specs.Refusal.{RefusesNone}
use Rattle.diag.specs.declared.diagnostics.DiangosticsInner.{DiangosticsInner}
use Rattle.diag.specs.declared.error.DeriveError.{DeriveError}
use Rattle.diag.specs.declared.error.DeriveError.TheVariants.{Refused, Memory}
use Rattle.texts.specs.Lists.{Somewhere}
use Rattle.serde_names.specs.Asked.{asked_of, asked_of_item}
use Rattle.renaming.specs.Refusals.{IsNameless, IsRefusedItem, HaveNoRows}
use Rattle.syntax.specs.Items.{DeclaredItem, declaration_view, declarations_view}
use Rattle.syntax.specs.declared.item.Declaration.{Declaration}
use Rattle.syntax.specs.Named.{AreNamed}
use Rattle.syntax.specs.Source.{Reads}
use Rattle.prepare.specs.Blanks.{text_read}
use Rattle.prepare.specs.declared.file_items.FileItem.{FileItem}
use Rattle.telling.specs.declared.told.Told.{Told}
use Rattle.gathering.specs.Reading.{IsReadAs, IsRefusedText, told_of, AreRead, HasRead, nothing_read, is_read, is_refused}
use Rattle.gathering.specs.declared.reading.Reading.{Reading}
use Rattle.gathering.specs.Laws.{ReadAsOne}

-- ---- one text more

module _ (names : List (List ℕ)) (i : FileItem) where
  pub read_after : {items from : List FileItem} {ds es : List DeclaredItem} {faults : List Told} → AreRead names items from ds faults → IsReadAs (text_read i) es
      → AreRead names (items ++ i ∷ []) (from ++ replicate (length es) i) (ds ++ es) faults
  read_after {es = es} nothing_read r =
      subst (λ v. AreRead names (i ∷ []) v es []) (append-nil (replicate (length es) i))
      (subst (λ v. AreRead names (i ∷ []) (replicate (length es) i ++ []) v []) (append-nil es) (is_read r nothing_read))
  read_after {es = es} (is_read {i = j} {items = items} {from = from} {es = own} {ds = ds} {faults = faults} k more) r =
      subst (λ v. AreRead names (j ∷ (items ++ i ∷ [])) v ((own ++ ds) ++ es) faults) (sym (append_assoc (replicate (length own) j) from (replicate (length es) i)))
      (subst (λ v. AreRead names (j ∷ (items ++ i ∷ [])) (replicate (length own) j ++ (from ++ replicate (length es) i)) v faults) (sym (append_assoc own ds es)) (is_read k (read_after more r)))
  read_after (is_refused k more) r = is_refused k (read_after more r)

  pub refused_after : {items from : List FileItem} {ds : List DeclaredItem} {faults : List Told} {d : List DiangosticsInner} → AreRead names items from ds faults → IsRefusedText (text_read i) (Refused d)
      → AreRead names (items ++ i ∷ []) from ds (faults ++ told_of names i d ∷ [])
  refused_after nothing_read r = is_refused r nothing_read
  refused_after (is_read k more) r = is_read k (refused_after more r)
  refused_after (is_refused k more) r = is_refused k (refused_after more r)

-- ---- what holds of all

pub named_together : (ds es : List DeclaredItem) → AreNamed ds → AreNamed es → AreNamed (ds ++ es)
named_together [] es h g = g
named_together (d ∷ ds) es h g = (h.0, named_together ds es h.1 g)

somewhere_split : {A : Type 0} (P : A → Type 0) (xs ys : List A) → Somewhere P (xs ++ ys) → Somewhere P xs ⊎ Somewhere P ys
somewhere_split P [] ys h = inr h
somewhere_split P (x ∷ xs) ys (inl h) = inl (inl h)
somewhere_split P (x ∷ xs) ys (inr h) = elim (somewhere_split P xs ys h) [ inl k ↦ inl (inr k) | inr k ↦ inr k ]

asked_together : (ds es : List DeclaredItem) → asked_of (ds ++ es) ≡ asked_of ds ++ asked_of es
asked_together [] es = refl
asked_together (d ∷ ds) es = ap (λ v. asked_of_item d ++ v) (asked_together ds es) ∙ sym (append_assoc (asked_of_item d) (asked_of ds) (asked_of es))

pub rows_together : (ds es : List DeclaredItem) → RefusesNone (HaveNoRows ds) → RefusesNone (HaveNoRows es) → RefusesNone (HaveNoRows (ds ++ es))
rows_together ds es h g e (inl refused) = elim (somewhere_split (λ d. IsRefusedItem d e) ds es refused) [ inl k ↦ h e (inl k) | inr k ↦ g e (inl k) ]
rows_together ds es h g e (inr nameless) =
    elim (somewhere_split (λ a. IsNameless a e) (asked_of ds) (asked_of es) (subst (Somewhere (λ a. IsNameless a e)) (asked_together ds es) nameless)) [ inl k ↦ h e (inr k) | inr k ↦ g e (inr k) ]

-- ---- one reading

abbrev OneReading : Type 0
OneReading = (source : List ℕ) (ds es : List DeclaredItem) → Reads source ds → Reads source es → ds ≡ es

module _ (one : OneReading) where
  not_refused : (text : List ℕ) (ds : List DeclaredItem) (e : DeriveError) → IsReadAs text ds → IsRefusedText text e → ⊥
  not_refused text ds e r (inl (inl deep)) = r.shallow deep.0 deep.2
  not_refused text ds e r (inl (inr unread)) = unread.3 ds r.read
  not_refused text ds e r (inr (es, read, rowless)) = r.rows e (subst (λ v. HaveNoRows v e) (one text es ds read r.read) rowless)

  pub as_one : ReadAsOne
  as_one names [] from others ds es faults nothing_read nothing_read = (refl, refl, refl)
  as_one names (i ∷ items) from others ds es faults (is_read {from = os} {es = own} {ds = rest} r more) (is_read {from = ps} {es = mine} {ds = left} k further) =
      let same = one (text_read i) own mine r.read k.read in
      let all = as_one names items os ps rest left faults more further in (
        ap₂ (λ a b. replicate (length a) i ++ b) same all.0,
        ap₂ (λ a b. a ++ b) same all.1,
        all.2,
      )
  as_one names (i ∷ items) from others ds es faults (is_read {es = own} r more) (is_refused {d = d} k further) = absurd (not_refused (text_read i) own (Refused d) r k)

-- ---- for the loop

pub none_rowless : RefusesNone (HaveNoRows [])
none_rowless e (inl h) = elim h [ ]
none_rowless e (inr h) = elim h [ ]

pub more_read : (names : List (List ℕ)) (i : FileItem) {items from after : List FileItem} {ds es behind : List DeclaredItem} {faults : List Told} (n : ℕ) → n ≡ length es
    → after ≡ from ++ replicate n i → behind ≡ ds ++ es → IsReadAs (text_read i) es → AreRead names items from ds faults → AreRead names (items ++ i ∷ []) after behind faults
more_read names i {items = items} {from = from} {after = after} {ds = ds} {es = es} {behind = behind} {faults = faults} n many from_is ds_is read are =
    let all = read_after names i are read in
    let mine : after ≡ from ++ replicate (length es) i = from_is ∙ ap (λ m. from ++ replicate m i) many in
    subst (λ (v : List FileItem). AreRead names (items ++ i ∷ []) v behind faults) (sym mine) (subst (λ (v : List DeclaredItem). AreRead names (items ++ i ∷ []) (from ++ replicate (length es) i) v faults) (sym ds_is) all)

-- the error that a refusal is tells of the text
pub refused_is : (text : List ℕ) (e : DeriveError) (d own : List DiangosticsInner) → e ≡ Refused d → own ≡ d → (e ≡ Memory) ⊎ IsRefusedText text e → IsRefusedText text (Refused own)
refused_is text e d own is same (inl memory) = let one : Memory ≡ Refused d = sym memory ∙ is in cc
refused_is text e d own is same (inr refused) = subst (λ v. IsRefusedText text (Refused v)) (sym same) (subst (IsRefusedText text) is refused)

-- ---- what is read so far

abbrev shown : List (Bor FileItem) → List FileItem
shown from = map (λ i. i.now) from

pub nothing_so_far : (names : List (List ℕ)) (ds : List Declaration) (from : List (Bor FileItem)) (faults : List Told) → ds ≡ [] → from ≡ [] → faults ≡ []
    → HasRead names [] (record { declarations = record { items = ds }; from = from; faults = faults })
nothing_so_far names ds from faults d f t =
    subst (λ v. HasRead names [] (record { declarations = record { items = v }; from = from; faults = faults })) (sym d)
    (subst (λ v. HasRead names [] (record { declarations = record { items = [] }; from = v; faults = faults })) (sym f)
    (subst (λ v. HasRead names [] (record { declarations = record { items = [] }; from = []; faults = v })) (sym t) (record { read = nothing_read; named = tt; rows = none_rowless })))

-- one text more that is read
pub read_so_far : {E : Type 0} (names : List (List ℕ)) (i : FileItem) (r : Reading) (o : Result Unit E) (own ds : List Declaration) (from : List (Bor FileItem)) (n : ℕ)
    → IsReadAs (text_read i) (map declaration_view own) → AreNamed (map declaration_view own) → n ≡ length own → shown from ≡ shown r.from ++ replicate n i → OnOk o (ds ≡ r.declarations.items ++ own)
    → OnOk o ((items : List FileItem) → HasRead names items r → HasRead names (items ++ i ∷ []) (record { declarations = record { items = ds }; from = from; faults = r.faults }))
read_so_far names i r (Err e) own ds from n read named many grown is = tt
read_so_far names i r (Ok u) own ds from n read named many grown is = λ items h.
    let es = map declaration_view own in
    let all : map declaration_view ds ≡ declarations_view r.declarations ++ es = ap (map declaration_view) is ∙ map-append declaration_view r.declarations.items own in
    let as_many : n ≡ length es = many ∙ sym (length-map own declaration_view) in
    record {
      read = more_read names i n as_many grown all read h.read;
      named = subst AreNamed (sym all) (named_together (declarations_view r.declarations) es h.named named);
      rows = subst (λ (v : List DeclaredItem). RefusesNone (HaveNoRows v)) (sym all) (rows_together (declarations_view r.declarations) es h.rows read.rows);
    }

-- one text more that is told of
pub told_so_far : {E : Type 0} (names : List (List ℕ)) (i : FileItem) (r : Reading) (o : Result Unit E) (d : List DiangosticsInner) (told : Told) (faults : List Told)
    → IsRefusedText (text_read i) (Refused d) → told ≡ told_of names i d → OnOk o (faults ≡ r.faults ++ told ∷ [])
    → OnOk o ((items : List FileItem) → HasRead names items r → HasRead names (items ++ i ∷ []) (record { declarations = r.declarations; from = r.from; faults = faults }))
told_so_far names i r (Err e) d told faults refused same is = tt
told_so_far names i r (Ok u) d told faults refused same is = λ items h.
    let all : faults ≡ r.faults ++ told_of names i d ∷ [] = is ∙ ap (λ (t : Told). r.faults ++ t ∷ []) same in
    record {
      read = subst (AreRead names (items ++ i ∷ []) (shown r.from) (declarations_view r.declarations)) (sym all) (refused_after names i h.read refused);
      named = h.named;
      rows = h.rows;
    }
