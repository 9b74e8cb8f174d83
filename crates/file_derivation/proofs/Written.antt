-- Impls by hand one by one, and lists that are empty.
use Rattle.std.proofs.Common.{◌≡◌, ◌∙◌, ◌↔◌, ℕ, List, [], ◌∷◌, ◌++◌, length, take, drop, map, Bool, true, false, not, cond, IsTrue, Some, None, refl, ap, ap₂, sym, arith, ◌<◌, ◌≤◌, ◌-◌}
use Rattle.std.specs.Prelude.{get_or}
use Rattle.std.proofs.lemmas.List.{take_all}
use Rattle.std.specs.Prelude.{filter, is_some}
use Rattle.syntax.specs.Items.{DeclaredItem}
use Rattle.scopes.specs.Names.{place_among}
use Rattle.prepare.specs.declared.file_items.FileImpl.{FileImpl}
use Rattle.file_derivation.specs.Warned.{told_impl, told_impls, is_declared, has_some}

pub impls_more : (names : List (List ℕ)) (ds : List DeclaredItem) (x : FileImpl) (xs : List FileImpl) → told_impls names ds (x ∷ []) ++ told_impls names ds xs ≡ told_impls names ds (x ∷ xs)
impls_more names ds x xs = go (is_declared ds x.name)
  where
    rest : List FileImpl
    rest = filter (λ v. is_declared ds v.name) xs

    go : (b : Bool) → map (told_impl names) (cond b (x ∷ []) []) ++ map (told_impl names) rest ≡ map (told_impl names) (cond b (x ∷ rest) rest)
    go true = refl
    go false = refl

-- the impl is for a declaration
pub impl_told : (names : List (List ℕ)) (ds : List DeclaredItem) (x : FileImpl) (at : ℕ) → place_among ds x.name ≡ Some at → told_impls names ds (x ∷ []) ≡ told_impl names x ∷ []
impl_told names ds x at found = ap (λ o. map (told_impl names) (cond (is_some o) (x ∷ []) [])) found

-- it is for none
pub impl_untold : (names : List (List ℕ)) (ds : List DeclaredItem) (x : FileImpl) → place_among ds x.name ≡ None → told_impls names ds (x ∷ []) ≡ []
impl_untold names ds x none = ap (λ o. map (told_impl names) (cond (is_some o) (x ∷ []) [])) none

pub some_where : {A : Type 0} (b : Bool) (xs : List A) → IsTrue b ↔ (xs ≡ []) → not b ≡ has_some xs
some_where true [] is = refl
some_where true (x ∷ xs) is = let none = is.0 refl in cc
some_where false [] is = let found = is.1 refl in cc
some_where false (x ∷ xs) is = refl

pub some_mapped : {A B : Type 0} (f : A → B) (xs : List A) → has_some xs ≡ has_some (map f xs)
some_mapped f [] = refl
some_mapped f (x ∷ xs) = refl

pub split_first : {A : Type 0} (xs : List A) (x : A) → 1 ≤ length xs → x ≡ get_or xs 0 x → xs ≡ x ∷ take (length xs - 1) (drop 1 xs)
split_first [] x l e = absurd (omega arith)
split_first (y ∷ ys) x l e =
    let rest : take (length (y ∷ ys) - 1) ys ≡ ys = take_all (length (y ∷ ys) - 1) ys (omega arith) in
    ap₂ (λ a b. a ∷ b) (sym e) (sym rest)

pub none_first : {A : Type 0} (xs : List A) → length xs < 1 → xs ≡ []
none_first [] l = refl
none_first (x ∷ xs) l = absurd (omega arith)
