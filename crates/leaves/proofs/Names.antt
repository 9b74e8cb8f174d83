-- Each leaf has a name of its own.
use Rattle.std.proofs.Common.{◌≡◌, ◌≢◌, ℕ, List, [], ◌∷◌, Bool, true, false, cond, bytes_eq, Option, Some, None, MatchOption, refl, ap, sym, ◌∙◌}
use Rattle.std.proofs.lemmas.Slice.Eq.{bytes_eq-Decides}
use Rattle.leaves.specs.declared.leaf.Leaf.{Leaf}
use Rattle.leaves.specs.declared.leaf.Leaf.TheVariants as leaf
use Rattle.leaves.specs.Leaves.{leaves, leaf_among, leaf_of, name_of}

pub named_leaf : (l : Leaf) → leaf_of (name_of l) ≡ Some l
named_leaf leaf.String = refl
named_leaf leaf.Str = refl
named_leaf leaf.Char = refl
named_leaf leaf.Bool = refl
named_leaf leaf.I8 = refl
named_leaf leaf.I16 = refl
named_leaf leaf.I32 = refl
named_leaf leaf.I64 = refl
named_leaf leaf.I128 = refl
named_leaf leaf.Isize = refl
named_leaf leaf.U8 = refl
named_leaf leaf.U16 = refl
named_leaf leaf.U32 = refl
named_leaf leaf.U64 = refl
named_leaf leaf.U128 = refl
named_leaf leaf.Usize = refl
named_leaf leaf.F32 = refl
named_leaf leaf.F64 = refl

first_or_later :
    (name : List ℕ) (k l : Leaf) (later : Option Leaf) (b : Bool) → bytes_eq name (name_of k) ≡ b → (later ≡ Some l → name_of l ≡ name)
    → cond b (Some k) later ≡ Some l → name_of l ≡ name
first_or_later name k l later true same rest found =
    let is : k ≡ l = cc in
    ap name_of (sym is) ∙ sym ((bytes_eq-Decides name (name_of k)).0 same)
first_or_later name k l later false other rest found = rest found

pub among_named : (name : List ℕ) (ls : List Leaf) (l : Leaf) → leaf_among name ls ≡ Some l → name_of l ≡ name
among_named name [] l e = cc
among_named name (k ∷ ks) l e = first_or_later name k l (leaf_among name ks) (bytes_eq name (name_of k)) refl (among_named name ks l) e

-- a name has a leaf exactly where it is that leaf's
pub exact_of : (name : List ℕ) (r : Option Leaf) → r ≡ leaf_of name → MatchOption r ((l : Leaf) → name_of l ≢ name) (λ l. name_of l ≡ name)
exact_of name None e = λ l same. let p : None ≡ Some l = e ∙ (ap leaf_of (sym same) ∙ named_leaf l) in cc
exact_of name (Some l) e = among_named name leaves l (sym e)
