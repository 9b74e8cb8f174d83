-- What is said of the body of the declaration at a place.
use Rattle.std.proofs.Common.{◌≡◌, ◌∙◌, ◌<◌, ◌≤◌, ℕ, zero, suc, Bool, List, [], ◌∷◌, length, map, get_or, ap, sym, refl, arith}
use Rattle.shapes.specs.Declarations.{BodyOf, fields, no_fields, DeclarationOf, declaration_at}
use Rattle.shapes.specs.Views.{body_view, declaration_view}
use Rattle.shapes.specs.declared.declaration.Declaration.{Declaration}
use Rattle.instances.proofs.Laws.{declared-at}

pub said_here : (say : BodyOf → Bool) (ds : List Declaration) (i : ℕ) (d : Declaration) → i < length ds → d ≡ get_or ds i d → say (body_view d.body) ≡ say (declaration_at (map declaration_view ds) i).body
said_here say ds i d l is = ap (λ (s : Declaration). say (body_view s.body)) is ∙ sym (ap (λ (s : DeclarationOf). say s.body) (declared-at declaration_view ds i d l))

-- past the end there are no fields
past : {A : Type 0} (f : A → DeclarationOf) (xs : List A) (i : ℕ) → length xs ≤ i → (declaration_at (map f xs) i).body ≡ fields no_fields
past f [] i l = refl
past f (x ∷ xs) zero l = absurd (omega (arith, l))
past f (x ∷ xs) (suc i) l = past f xs i (omega (arith, l))

pub said_past : (say : BodyOf → Bool) (ds : List Declaration) (i : ℕ) → length ds ≤ i → say (fields no_fields) ≡ say (declaration_at (map declaration_view ds) i).body
said_past say ds i l = sym (ap say (past declaration_view ds i l))
