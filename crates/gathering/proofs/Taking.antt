-- Files one after another.
use Rattle.std.proofs.Common.{◌≡◌, ◌∙◌, ◌⊎◌, ◌≤◌, refl, ap, ap₂, sym, subst, inl, inr, ℕ, suc, ◌+◌, List, [], ◌∷◌, ◌++◌, length, map, take, IsUtf8, Option, Result, Ok, Err, IfOk, arith, append_assoc}
use Rattle.std.specs.Str.{IsValidUpTo}
use Rattle.std.proofs.lemmas.List.{append-nil, length-map, map_push}
use Rattle.prepare.specs.declared.file_items.FileItem.{FileItem}
use Rattle.telling.specs.declared.told.Told.{Told}
use Rattle.prepare.specs.FileItems.{AreItemsOf, AreAliasesOf}
use Rattle.prepare.specs.FileTexts.{text_of_file}
use Rattle.texts.specs.declared.span.Span.{Span}
use Rattle.gathering.specs.Files.{FileOf, most_bytes, IsEndOf, Has, IsTextOfFile, HasItems, HasImpls, HasAliases, IsToldOfFile, too_long, no_text, no_file, AreGathered, no_files, has_items, is_told, Have, have_none, has_own, none_told, HaveImpls, HaveAliases, Gathers}
use Rattle.prepare.specs.declared.file_items.FileImpl.{FileImpl}
use Rattle.prepare.specs.declared.file_items.FileAlias.{FileAlias}
use Rattle.gathering.specs.Stops.{IsHelpOfStop}
use Rattle.gathering.specs.Telling.{whole, told_by, told_broken}
use Rattle.gathering.specs.declared.gathered.Gathered.{Gathered}
use Rattle.diag.specs.declared.diagnostics.DiangosticsInner.{DiangosticsInner}
use Rattle.diag.specs.declared.error.DeriveError.{DeriveError}
use Rattle.diag.specs.declared.error.DeriveError.TheVariants.{Refused, Memory}
use Rattle.lexing.specs.Cut.{IsDepthError, OpensTooDeep}
use Rattle.prepare.specs.Prepared.{IsNoFile}
use Rattle.gathering.specs.Laws.{GatheredAsOne, AliasedAsOne}

next : (n : ℕ) (files : List FileOf) (f : FileOf) → n + length (f ∷ files) ≡ suc n + length files
next n files f = omega arith

-- one file more, with its declarations or told of
pub file_after : {n : ℕ} (files : List FileOf) (f : FileOf) {own items : List FileItem} {faults : List Told} → AreGathered n files items faults → HasItems (n + length files) f.bytes own → AreGathered n (files ++ f ∷ []) (items ++ own) faults
file_after {n = n} [] f {own = own} no_files h =
    let first : HasItems n f.bytes own = subst (λ m. HasItems m f.bytes own) (omega arith) h in
    subst (λ v. AreGathered n (f ∷ []) v []) (append-nil own) (has_items first no_files)
file_after {n = n} (g ∷ files) f {own = own} (has_items {own = mine} {items = items} {faults = faults} k more) h =
    subst (λ v. AreGathered n (g ∷ (files ++ f ∷ [])) v faults) (sym (append_assoc mine items own)) (has_items k (file_after files f more (subst (λ m. HasItems m f.bytes own) (next n files g) h)))
file_after {n = n} (g ∷ files) f {own = own} (is_told k more) h = is_told k (file_after files f more (subst (λ m. HasItems m f.bytes own) (next n files g) h))

pub told_after : {n : ℕ} (files : List FileOf) (f : FileOf) {told : Told} {items : List FileItem} {faults : List Told} → AreGathered n files items faults → IsToldOfFile f told → AreGathered n (files ++ f ∷ []) items (faults ++ told ∷ [])
told_after [] f no_files h = is_told h no_files
told_after (g ∷ files) f (has_items k more) h = has_items k (told_after files f more h)
told_after (g ∷ files) f (is_told k more) h = is_told k (told_after files f more h)

-- as many files as names
pub many : (names : List (List ℕ)) (files : List FileOf) → names ≡ map (λ f. f.name) files → length names ≡ 0 + length files
many names files e = ap length e ∙ length-map files (λ f. f.name) ∙ (omega arith)

pub named_after : (names : List (List ℕ)) (files : List FileOf) (f : FileOf) → names ≡ map (λ f. f.name) files → names ++ f.name ∷ [] ≡ map (λ f. f.name) (files ++ f ∷ [])
named_after names files f e = ap (λ v. v ++ f.name ∷ []) e ∙ sym (map_push (λ f. f.name) files f)

-- one file more, with its own or told of
module _ {A : Type 0} (HasOwn : ℕ → List ℕ → List A → Type 0) where
  pub own_after : {n : ℕ} (files : List FileOf) (f : FileOf) {own others : List A} → Have HasOwn n files others → HasOwn (n + length files) f.bytes own → Have HasOwn n (files ++ f ∷ []) (others ++ own)
  own_after {n = n} [] f {own = own} have_none h =
      let first : HasOwn n f.bytes own = subst (λ m. HasOwn m f.bytes own) (omega arith) h in
      subst (λ v. Have HasOwn n (f ∷ []) v) (append-nil own) (has_own first have_none)
  own_after {n = n} (g ∷ files) f {own = own} (has_own {own = mine} {others = rest} k more) h =
      subst (λ v. Have HasOwn n (g ∷ (files ++ f ∷ [])) v) (sym (append_assoc mine rest own)) (has_own k (own_after {n = suc n} files f more (subst (λ m. HasOwn m f.bytes own) (next n files g) h)))
  own_after {n = n} (g ∷ files) f {own = own} (none_told k more) h = none_told k (own_after {n = suc n} files f more (subst (λ m. HasOwn m f.bytes own) (next n files g) h))

  pub none_after : {n : ℕ} (files : List FileOf) (f : FileOf) {told : Told} {others : List A} → Have HasOwn n files others → IsToldOfFile f told → Have HasOwn n (files ++ f ∷ []) others
  none_after [] f have_none h = none_told h have_none
  none_after {n = n} (g ∷ files) f (has_own k more) h = has_own k (none_after {n = suc n} files f more h)
  none_after {n = n} (g ∷ files) f (none_told k more) h = none_told k (none_after {n = suc n} files f more h)

-- a file more is gathered
pub gathers_file : (files : List FileOf) (f : FileOf) (g after : Gathered) (n : ℕ) (own : List FileItem) (mine : List FileImpl) (named : List FileAlias) → n ≡ length g.names → after.names ≡ g.names ++ f.name ∷ [] → after.items ≡ g.items ++ own
    → after.impls ≡ g.impls ++ mine → after.aliases ≡ g.aliases ++ named → after.faults ≡ g.faults → HasItems n f.bytes own → HasImpls n f.bytes mine → HasAliases n f.bytes named → Gathers files g → Gathers (files ++ f ∷ []) after
gathers_file files f g after n own mine named number names items impls aliases faults has have gives gathers =
    let at = number ∙ many g.names files gathers.named in
    let has_own_items = subst (λ m. HasItems m f.bytes own) at has in
    let has_mine = subst (λ m. HasImpls m f.bytes mine) at have in
    let has_named = subst (λ m. HasAliases m f.bytes named) at gives in
    record {
      named = names ∙ named_after g.names files f gathers.named;
      items = subst (λ (v : List FileItem). AreGathered 0 (files ++ f ∷ []) v after.faults) (sym items) (subst (AreGathered 0 (files ++ f ∷ []) (g.items ++ own)) (sym faults) (file_after files f gathers.items has_own_items));
      impls = subst (HaveImpls 0 (files ++ f ∷ [])) (sym impls) (own_after HasImpls files f gathers.impls has_mine);
      aliases = subst (HaveAliases 0 (files ++ f ∷ [])) (sym aliases) (own_after HasAliases files f gathers.aliases has_named);
    }

pub gathers_told : (files : List FileOf) (f : FileOf) (g after : Gathered) (told : Told) → after.names ≡ g.names ++ f.name ∷ [] → after.items ≡ g.items → after.impls ≡ g.impls → after.aliases ≡ g.aliases → after.faults ≡ g.faults ++ told ∷ []
    → IsToldOfFile f told → Gathers files g → Gathers (files ++ f ∷ []) after
gathers_told files f g after told names items impls aliases faults is gathers = record {
  named = names ∙ named_after g.names files f gathers.named;
  items = subst (λ (v : List FileItem). AreGathered 0 (files ++ f ∷ []) v after.faults) (sym items) (subst (AreGathered 0 (files ++ f ∷ []) g.items) (sym faults) (told_after files f gathers.items is));
  impls = subst (HaveImpls 0 (files ++ f ∷ [])) (sym impls) (none_after HasImpls files f gathers.impls is);
  aliases = subst (HaveAliases 0 (files ++ f ∷ [])) (sym aliases) (none_after HasAliases files f gathers.aliases is);
}

-- what is of the text that is shown is of the bytes, which have that text
pub has_of : {A : Type 0} (Are : ℕ → List ℕ → List A → Type 0) (file : ℕ) (bytes : List ℕ) {text shown : List ℕ} {own : List A} → shown ≡ text → IsTextOfFile bytes text → Are file shown own
    → ((span : Span) → OpensTooDeep shown span → ⊥) → Has Are file bytes own
has_of Are file bytes {own = own} same text are shallow =
    let is = same ∙ text.2 in
    record { short = text.0; utf8 = text.1; are = subst (λ v. Are file v own) is are; shallow = subst (λ v. (span : Span) → OpensTooDeep v span → ⊥) is shallow }

-- the error that a refusal is refuses the text
pub cause_of : (text : List ℕ) (e : DeriveError) (d own : List DiangosticsInner) → e ≡ Refused d → own ≡ d → (e ≡ Memory) ⊎ IsDepthError text e ⊎ IsNoFile text e → IsDepthError text (Refused own) ⊎ IsNoFile text (Refused own)
cause_of text e d own is same (inl memory) = let one : Memory ≡ Refused d = sym memory ∙ is in cc
cause_of text e d own is same (inr cause) =
    subst (λ v. IsDepthError text (Refused v) ⊎ IsNoFile text (Refused v)) (sym same) (subst (λ v. IsDepthError text v ⊎ IsNoFile text v) is cause)

-- what is told of a file that is UTF-8 up to there alone, by its text so far
pub broken_of : {E : Type 0} (f : FileOf) (front : ℕ) (text : List ℕ) (r : Result Told E) → text ≡ text_of_file (take front f.bytes) → length f.bytes ≤ most_bytes → ¬ (IsUtf8 f.bytes) → IsValidUpTo f.bytes front
    → IfOk r (λ told. (end : Span) × IsEndOf text end × (told ≡ told_broken f.name text end)) → IfOk r (IsToldOfFile f)
broken_of f front text (Err e) is short broken valid told = tt
broken_of f front text (Ok t) is short broken valid (end, at, told) =
    subst (IsToldOfFile f) (sym (told ∙ ap (λ v. told_broken f.name v end) is)) (no_text {front = front} end short broken valid (subst (λ v. IsEndOf v end) is at))

-- what is told of a file whose text is refused
pub stopped_of : (f : FileOf) (text : List ℕ) (d : List DiangosticsInner) (told : Told) → text ≡ text_of_file f.bytes → length f.bytes ≤ most_bytes → IsUtf8 f.bytes
    → IsDepthError (text_of_file f.bytes) (Refused d) ⊎ IsNoFile (text_of_file f.bytes) (Refused d)
    → (help : Option (List ℕ)) × IsHelpOfStop f.name text d help × (told ≡ record (told_by f.name whole text d) { help = help }) → IsToldOfFile f told
stopped_of f text d told is short utf8 cause (help, is_help, same) =
    subst (IsToldOfFile f) (sym (same ∙ ap (λ (v : List ℕ). let all : Told = record (told_by f.name whole v d) { help = help } in all) is)) (no_file short utf8 cause (subst (λ (v : List ℕ). IsHelpOfStop f.name v d help) is is_help))

-- ---- one gathering

abbrev ItemsAreOne : Type 0
ItemsAreOne = (file : ℕ) (source : List ℕ) (items others : List FileItem) → AreItemsOf file source items → AreItemsOf file source others → items ≡ others

not_told : (n : ℕ) (f : FileOf) (own : List FileItem) (told : Told) → HasItems n f.bytes own → IsToldOfFile f told → ⊥
not_told n f own told h (too_long long) = let short = h.short in absurd (omega arith)
not_told n f own told h (no_text end short broken front empty) = broken h.utf8
not_told n f own told h (no_file short utf8 (inl deep) help) = h.shallow deep.0 deep.2
not_told n f own told h (no_file short utf8 (inr none) help) = none.3 h.are.0 h.are.1

pub as_one : ItemsAreOne → GatheredAsOne
as_one one n [] items others faults no_files no_files = (refl, refl)
as_one one n (f ∷ files) items others faults (has_items {own = own} {items = rest} h more) (has_items {own = mine} {items = left} k further) =
    let same = one n (text_of_file f.bytes) own mine h.are k.are in
    let all = as_one one (suc n) files rest left faults more further in
    (ap₂ (λ (a b : List FileItem). a ++ b) same all.0, all.1)
as_one one n (f ∷ files) items others faults (has_items {own = own} h more) (is_told {told = told} k further) = absurd (not_told n f own told h k)

-- ---- one list of aliases

abbrev AliasesAreOne : Type 0
AliasesAreOne = (file : ℕ) (source : List ℕ) (aliases others : List FileAlias) → AreAliasesOf file source aliases → AreAliasesOf file source others → aliases ≡ others

pub aliased_as_one : AliasesAreOne → AliasedAsOne
aliased_as_one one n [] items aliases others no_files have_none have_none = refl
aliased_as_one one n (f ∷ files) items aliases others (has_items {items = rest} h more) (has_own {own = own} {others = behind} k later) (has_own {own = mine} {others = left} l further) =
    ap₂ (λ (a b : List FileAlias). a ++ b) (one n (text_of_file f.bytes) own mine k.are l.are) (aliased_as_one one (suc n) files rest behind left more later further)
aliased_as_one one n (f ∷ files) items aliases others (has_items {own = own} h more) (has_own k later) (none_told {told = told} l further) = absurd (not_told n f own told h l)
aliased_as_one one n (f ∷ files) items aliases others (has_items {own = own} h more) (none_told {told = told} k later) r = absurd (not_told n f own told h k)
