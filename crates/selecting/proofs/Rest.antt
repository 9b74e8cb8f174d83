-- The items of a list that are still to be gone over.
use Rattle.std.proofs.Common.{◌≡◌, ◌∙◌, ◌≤◌, ◌<◌, ◌-◌, ℕ, zero, suc, List, [], ◌∷◌, ◌++◌, length, map, take, drop, slice_index_or, get_or, refl, ap, ap₂, sym, arith}
use Rattle.std.proofs.lemmas.List.{take_all, map_push}
use Rattle.std.specs.Borrow.{Bor}
use Rattle.prepare.specs.declared.file_items.FileAlias.{FileAlias}

-- the first, and those behind it
pub split_first : {A : Type 0} (rest : List A) (x : A) → 1 ≤ length rest → x ≡ slice_index_or rest 0 x → rest ≡ x ∷ take (length rest - 1) (drop 1 rest)
split_first [] x some is = absurd (omega arith)
split_first (y ∷ ys) x some is =
    let rest : take (length (y ∷ ys) - 1) ys ≡ ys = take_all (length (y ∷ ys) - 1) ys (omega arith) in
    ap₂ (λ a b. a ∷ b) (sym is) (sym rest)

-- none are left
pub none_first : {A : Type 0} (rest : List A) → length rest < 1 → rest ≡ []
none_first [] none = refl
none_first (y ∷ rest) none = absurd (omega arith)

pub shown_push : {A : Type 0} (xs : List (Bor A)) (x : Bor A) (ys : List (Bor A)) → ys ≡ xs ++ x ∷ [] → map (λ (b : Bor A). b.now) ys ≡ map (λ (b : Bor A). b.now) xs ++ x.now ∷ []
shown_push xs x ys e = ap (map (λ b. b.now)) e ∙ map_push (λ b. b.now) xs x

-- the type's text of the alias at a place
pub text_at : (aliases : List (Bor FileAlias)) (at : ℕ) (first : Bor FileAlias) → at < length aliases → first ≡ slice_index_or aliases at first → get_or (map (λ (a : FileAlias). a.of) (map (λ (b : Bor FileAlias). b.now) aliases)) at [] ≡ first.now.of
text_at [] at first low is = absurd (omega arith)
text_at (a ∷ aliases) zero first low is = ap (λ v. v.now.of) (sym is)
text_at (a ∷ aliases) (suc at) first low is = text_at aliases at first (omega arith) is
