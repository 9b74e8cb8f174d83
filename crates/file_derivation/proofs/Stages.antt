-- Stages of a derivation of files.
use Rattle.std.proofs.Common.{◌≡◌, ◌∙◌, ◌⊎◌, ◌↔◌, ◌≢◌, inl, inr, refl, sym, subst, arith, ℕ, List, [], length, replicate, Bool, true, false, IsTrue, Some, Result, Ok, Err, IfOk, IfErr, length-append}
use Rattle.std.proofs.lemmas.List.{length-replicate}
use Rattle.diag.specs.declared.diagnostics.DiangosticsInner.{DiangosticsInner}
use Rattle.diag.specs.declared.error.DeriveError.{DeriveError}
use Rattle.diag.specs.declared.error.DeriveError.TheVariants.{Refused, Memory}
use Rattle.configuration.specs.Configuration.{Configuration}
use Rattle.syntax.specs.Items.{DeclaredItem}
use Rattle.prepare.specs.declared.file_items.FileAlias.{FileAlias}
use Rattle.prepare.specs.declared.file_items.FileItem.{FileItem}
use Rattle.selecting.specs.Standing.{unknown_exclude}
use Rattle.telling.specs.declared.told.Told.{Told}
use Rattle.gathering.specs.Files.{FileOf}
use Rattle.gathering.specs.Reading.{AreRead, nothing_read, is_read, is_refused}
use Rattle.selecting.specs.declared.selection.Selection.{Selection}
use Rattle.file_derivation.specs.Outcomes.{names_of, AreTaken, AreNotKnown, AreDerivedFrom, AreTold, of_only, of_exclude, IfToldIs}
use Rattle.file_derivation.specs.declared.derive.Refusal.{Refusal}
use Rattle.file_derivation.specs.declared.derive.Refusal.TheVariants as refusals

-- what holds of an error that refuses holds of its refusal
pub refused_so : (P : DeriveError → Type 0) (e : DeriveError) (d own : List DiangosticsInner) → e ≡ Refused d → own ≡ d → (e ≡ Memory) ⊎ P e → P (Refused own)
refused_so P e d own is same (inl memory) = let one : Memory ≡ Refused d = sym memory ∙ is in cc
refused_so P e d own is same (inr cause) = subst (λ v. P (Refused v)) (sym same) (subst P is cause)

-- ---- what is told

pub told_if : {P Q : List Told → Type 0} (r : Refusal) → ((told : List Told) → P told → Q told) → IfToldIs P r → IfToldIs Q r
told_if refusals.Memory h is = tt
told_if (refusals.Told told) h is = h told is

pub if_ok : {A E : Type 0} {P Q : A → Type 0} (r : Result A E) → ((x : A) → P x → Q x) → IfOk r P → IfOk r Q
if_ok (Ok x) h is = h x is
if_ok (Err e) h is = tt

pub if_err : {A : Type 0} {P Q : List Told → Type 0} (r : Result A Refusal) → ((told : List Told) → P told → Q told) → IfErr r (IfToldIs P) → IfErr r (IfToldIs Q)
if_err (Ok x) h is = tt
if_err (Err e) h is = told_if e h is

pub not_known : {s : Selection} {c : Configuration} {files : List FileOf} {names : List (List ℕ)} {items : List FileItem} {aliases : List FileAlias} {faults told : List Told} → names ≡ names_of files → AreTaken s files items aliases faults
    → AreNotKnown s names items aliases told → AreTold s c files told
not_known {s = s} {c = c} {files = files} same taken (inl (name, found, is)) = subst (AreTold s c files) (sym is) (of_only taken found)
not_known {s = s} {c = c} {files = files} {items = items} {aliases = aliases} same taken (inr (text, known, found, is)) =
    subst (AreTold s c files) (sym is) (of_exclude taken known (subst (λ v. unknown_exclude v items aliases s.exclude ≡ Some text) same found))

pub read_for : {names others : List (List ℕ)} {items chosen from : List FileItem} {ds : List DeclaredItem} {faults told : List Told} → names ≡ others → items ≡ chosen → faults ≡ told → AreRead names items from ds faults → AreRead others chosen from ds told
read_for {names = names} {others = others} {items = items} {chosen = chosen} {from = from} {ds = ds} {faults = faults} {told = told} e f g are =
    subst (λ (v : List (List ℕ)). AreRead v chosen from ds told) e (subst (λ (v : List FileItem). AreRead names v from ds told) f (subst (AreRead names items from ds) g are))

pub some_told : {faults : List Told} (b : Bool) → IsTrue b ↔ (faults ≡ []) → b ≡ false → faults ≢ []
some_told true h e is = cc
some_told false h e is = let found = h.1 is in cc

pub none_told : {faults : List Told} (b : Bool) → IsTrue b ↔ (faults ≡ []) → b ≡ true → faults ≡ []
none_told true h e = h.0 refl
none_told false h e = cc

-- as many declarations as those that they are read from
pub as_many : {names : List (List ℕ)} {items from : List FileItem} {ds : List DeclaredItem} {faults : List Told} → AreRead names items from ds faults → length from ≡ length ds
as_many nothing_read = refl
as_many (is_read {i = i} {from = from} {es = es} {ds = ds} r more) =
    let mine = length-append (replicate (length es) i) from in
    let own = length-replicate (length es) i in
    let all = length-append es ds in
    let rest = as_many more in
    omega (arith, mine, own, all, rest)
as_many (is_refused r more) = as_many more
