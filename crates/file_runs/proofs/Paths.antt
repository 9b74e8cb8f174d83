-- Files that are read one after another.
use Rattle.std.proofs.Common.{◌≡◌, ◌<◌, ℕ, zero, suc, List, [], ◌∷◌, ◌++◌, Bool, true, false, length, get_or, Option, codes, refl, sym, subst, arith}
use Rattle.texts.specs.Names.{is_in}
use Rattle.files.specs.Held.{IsHeld}
use Rattle.streams.specs.Told.{IsAll}
use Rattle.gathering.specs.Files.{FileOf}
use Rattle.file_runs.specs.Contents.{IsTextBy}
use Rattle.file_runs.specs.Given.{AreFilesAt, HasBytesBy}
use Rattle.file_runs.specs.Words.{is_input}
use Rattle.file_runs.proofs.Told.{input_path, itself_in, behind_in}
use Rattle.reporting.specs.Beginning.{Beginning}

-- one file more
pub one_more : (Has : List ℕ → List ℕ → Type 0) (paths : List (List ℕ)) (files : List FileOf) (path text : List ℕ)
    → AreFilesAt Has paths files → Has path text → AreFilesAt Has (paths ++ path ∷ []) (files ++ record { name = path; bytes = text } ∷ [])
one_more Has [] [] path text are has = (refl, has, tt)
one_more Has [] (f ∷ files) path text are has = absurd are
one_more Has (p ∷ paths) [] path text are has = absurd are
one_more Has (p ∷ paths) (f ∷ files) path text (name, bytes, are) has = (name, bytes, one_more Has paths files path text are has)

-- what holds of the bytes of each path may be replaced
pub each_other : (Has Also : List ℕ → List ℕ → Type 0) → ((path text : List ℕ) → Has path text → Also path text) → (paths : List (List ℕ)) (files : List FileOf) → AreFilesAt Has paths files → AreFilesAt Also paths files
each_other Has Also follows [] [] are = tt
each_other Has Also follows [] (f ∷ files) are = absurd are
each_other Has Also follows (p ∷ paths) [] are = absurd are
each_other Has Also follows (p ∷ paths) (f ∷ files) (name, bytes, are) = (name, follows p f.bytes bytes, each_other Has Also follows paths files are)

-- what is read while files hold the same
pub held_back : (input tells ones : Bool) (held hold had has : Option (List ℕ)) (text : List ℕ) → tells ≡ ones → held ≡ hold → IsTextBy input tells held had has text → IsTextBy input ones hold had has text
held_back input tells ones held hold had has text same also is = subst (λ v. IsTextBy input ones v had has text) also (subst (λ v. IsTextBy input v held had has text) same is)

-- what a run begins with has the bytes that are read
pub begun_with : (begun : Beginning) (input : Bool) (tells : Bool) (held had has : Option (List ℕ)) (path text : List ℕ)
    → begun.tells ≡ tells → begun.held path ≡ held → begun.left ≡ had → IsTextBy input tells held had has text → HasBytesBy input begun path text
begun_with begun true tells held had has path text same holds left is = subst (λ v. IsAll v text) (sym left) is.0
begun_with begun false tells held had has path text same holds left is =
    subst (λ v. IsHeld v (begun.held path) text) (sym same) (subst (λ v. IsHeld tells v text) (sym holds) is)

-- what stands at a place of paths is one of them
pub is_at : (paths : List (List ℕ)) (at : ℕ) (path : List ℕ) → at < length paths → path ≡ get_or paths at path → is_in path paths ≡ true
is_at [] at path less is = absurd (omega arith)
is_at (p ∷ paths) zero path less is = subst (λ v. is_in path (v ∷ paths) ≡ true) is (itself_in path paths)
is_at (p ∷ paths) (suc at) path less is = behind_in path p paths (is_at paths at path (omega arith) is)

-- where one of the paths is that of the input, they name it
pub input_at : (paths : List (List ℕ)) (path : List ℕ) → is_in path paths ≡ true → is_input path ≡ true → is_in (codes "-") paths ≡ true
input_at paths path is input = subst (λ v. is_in v paths ≡ true) (input_path path input) is
