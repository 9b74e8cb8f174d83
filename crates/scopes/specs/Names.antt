-- The names that declarations give, and the places where they stand.
use Rattle.std.specs.Prelude.{◌≡◌, ℕ, zero, suc, List, [], ◌∷◌, ◌++◌, Bool, true, not, ◌&&◌, Option, IsTrue, codes}
use Rattle.texts.specs.Names.{is_in, IsDistinct, place_in}
use Rattle.diag.specs.Refusal.{IsRefusal}
use Rattle.diag.specs.declared.error.DeriveError.{DeriveError}
use Rattle.diag.specs.declared.kind.Kind.TheVariants.{DuplicateName}
use Rattle.written_types.specs.declared.written.Ident.{Ident}
use Rattle.syntax.specs.Items.{DeclaredItem}

abbrev pub declared_names : List DeclaredItem → List (List ℕ)
declared_names [] = []
declared_names (d ∷ ds) = d.ident.text ∷ declared_names ds

-- the name of the declaration at the place; past the end, none
abbrev pub declared_name : List DeclaredItem → ℕ → List ℕ
declared_name [] d = []
declared_name (x ∷ ds) zero = x.ident.text
declared_name (x ∷ ds) (suc d) = declared_name ds d

-- the place of the first declaration of the name
abbrev pub place_among : List DeclaredItem → List ℕ → Option ℕ
place_among ds name = place_in name (declared_names ds)

abbrev pub declared_idents : List DeclaredItem → List Ident
declared_idents [] = []
declared_idents (d ∷ ds) = d.ident ∷ declared_idents ds

abbrev pub texts : List Ident → List (List ℕ)
texts [] = []
texts (x ∷ xs) = x.text ∷ texts xs

-- no name stands in the list twice
abbrev pub are_distinct : List (List ℕ) → Bool
are_distinct [] = true
are_distinct (k ∷ ks) = not (is_in k ks) && are_distinct ks

-- the identifier is the first in the list whose name stands before it: the names before it are distinct, and its own is one of them
abbrev pub Repeats : List Ident → Ident → Type 0
Repeats xs x =
    (before : List Ident) × (behind : List Ident) × (xs ≡ before ++ x ∷ behind) × IsDistinct (texts before) × IsTrue (is_in x.text (texts before))

abbrev pub duplicate_message : List ℕ → List ℕ
duplicate_message name = codes "name " ++ (name ++ codes " is given twice")

-- the error refuses the first identifier whose name is given before
abbrev pub IsGivenTwice : List Ident → DeriveError → Type 0
IsGivenTwice xs e = (x : Ident) × Repeats xs x × IsRefusal DuplicateName x.span (duplicate_message x.text) e
