-- The declaration at a place, and the names that are known in it.
use Rattle.std.proofs.Common.{◌≡◌, ◌<◌, ◌+◌, ◌++◌, ◌∙◌, ℕ, zero, suc, List, [], ◌∷◌, Option, Some, unwrap_or, length, map, get_or, take, option_map, refl, ap, ap₂, arith}
use Rattle.std.specs.Prelude.{slice_get}
use Rattle.std.proofs.lemmas.Option.{slice_get-map, slice_get_read}
use Rattle.syntax.specs.declared.item.Declaration.{Declaration}
use Rattle.syntax.specs.Items.{DeclaredItem, declaration_view, declarations_view}
use Rattle.configuration.specs.Configuration.{Configuration}
use Rattle.scopes.specs.Names.{declared_name}
use Rattle.scopes.specs.Parameters.{generics_at}
use Rattle.scopes.specs.Scopes.{known_among, known_in}
use Rattle.scopes.specs.declared.scope.Scope.{Scope}
use Rattle.scopes.specs.declared.scope.Places.{Places}
use Rattle.warnings.specs.Flat.{known_of}

-- what is read at a place
pub declared_at : (items slice : List Declaration) (at : ℕ) (item : Declaration) → slice ≡ items → at < length items → item ≡ get_or slice at item → slice_get (map declaration_view items) at ≡ Some (declaration_view item)
declared_at items slice at item same less is =
    slice_get-map declaration_view items at
    ∙ ap (option_map declaration_view) (slice_get_read items (length items) at item refl less (is ∙ ap (λ (v : List Declaration). get_or v at item) same))

pub name_at : (ds : List DeclaredItem) (at : ℕ) (d : DeclaredItem) → slice_get ds at ≡ Some d → declared_name ds at ≡ d.ident.text
name_at [] at d is = absurd (cc)
name_at (x ∷ ds) zero d is = ap (λ (o : Option DeclaredItem). (unwrap_or o x).ident.text) is
name_at (x ∷ ds) (suc at) d is = name_at ds at d is

pub generics_are : (ds : List DeclaredItem) (at : ℕ) (d : DeclaredItem) → slice_get ds at ≡ Some d → generics_at ds at ≡ d.generics
generics_are [] at d is = absurd (cc)
generics_are (x ∷ ds) zero d is = ap (λ (o : Option DeclaredItem). (unwrap_or o x).generics) is
generics_are (x ∷ ds) (suc at) d is = generics_are ds at d is

-- the names that are known at the place of a declaration
pub known_there : (c : Configuration) (ds : List DeclaredItem) (at : ℕ) (d : DeclaredItem) → slice_get ds at ≡ Some d → known_among c.aliases ds (declared_name ds at) (generics_at ds at) ≡ known_of c ds d
known_there c ds at d is = ap₂ (known_among c.aliases ds) (name_at ds at d is) (generics_are ds at d is)

-- and those that are known in the scope of that place
pub known_here : (c : Configuration) (scope : Scope) (ps : Places) (at : ℕ) (d : DeclaredItem) → scope.places.now ≡ ps → scope.owner ≡ at → slice_get (declarations_view ps.declarations.now) at ≡ Some d →
    known_in c scope ≡ known_of c (declarations_view ps.declarations.now) d
known_here c scope ps at d places owner is =
    ap₂ (λ (qs : Places) (n : ℕ). known_among c.aliases (declarations_view qs.declarations.now) (declared_name (declarations_view qs.declarations.now) n) (generics_at (declarations_view qs.declarations.now) n)) places owner
    ∙ known_there c (declarations_view ps.declarations.now) at d is

-- one more, in front of what is behind a place
pub take_one : {A : Type 0} (xs : List A) (at : ℕ) (x : A) → slice_get xs at ≡ Some x → take (at + 1) xs ≡ take at xs ++ x ∷ []
take_one xs at x is = ap (λ n. take n xs) (one at) ∙ suc_one xs at x is
  where
    one : (n : ℕ) → n + 1 ≡ suc n
    one n = omega arith

    suc_one : {A : Type 0} (xs : List A) (at : ℕ) (x : A) → slice_get xs at ≡ Some x → take (suc at) xs ≡ take at xs ++ x ∷ []
    suc_one [] at x is = absurd (cc)
    suc_one (y ∷ ys) zero x is = ap (λ o. unwrap_or o y ∷ []) is
    suc_one (y ∷ ys) (suc at) x is = ap (λ zs. y ∷ zs) (suc_one ys at x is)
