-- The schemas of members.
use Rattle.std.proofs.Common.{ℕ, ◌+◌, ◌<◌, List, [], ◌∷◌, ◌++◌, Bool, true, false, cond, length, take, get_or, map, ◌≡◌, refl, ap, sym, ◌∙◌}
use Rattle.std.proofs.lemmas.List.{take_more, map_push}
use Rattle.open_types.specs.Open.{open_view}
use Rattle.schema_trees.specs.Schema.{SchemaOf}
use Rattle.schema_trees.specs.Schema as tree
use Rattle.component.specs.Leaves.{LeafOf}
use Rattle.shapes.specs.declared.declaration.Member.{Member}
use Rattle.shapes.specs.Declarations.{MemberOf}
use Rattle.shapes.specs.Views.{member_view}
use Rattle.terms.specs.Terms.{field_term, properties_of, required_names}

-- a member's property
abbrev pub property_of : Member → List ℕ × SchemaOf LeafOf
property_of m = (m.name, field_term m.annotations (open_view m.ty))

pub properties_are : (ms : List Member) → tree.properties_of (map property_of ms) ≡ properties_of (map member_view ms)
properties_are [] = refl
properties_are (m ∷ ms) = ap (tree.property m.name (field_term m.annotations (open_view m.ty))) (properties_are ms)

required-push : (ms : List MemberOf) (m : MemberOf) → required_names (ms ++ m ∷ []) ≡ required_names ms ++ cond m.required (m.name ∷ []) []
required-push [] m = refl
required-push (n ∷ ms) m = by n.required (required-push ms m)
  where
    by : (b : Bool) → required_names (ms ++ m ∷ []) ≡ required_names ms ++ cond m.required (m.name ∷ []) [] →
        cond b (n.name ∷ required_names (ms ++ m ∷ [])) (required_names (ms ++ m ∷ [])) ≡ cond b (n.name ∷ required_names ms) (required_names ms) ++ cond m.required (m.name ∷ []) []
    by true e = ap (λ ns. n.name ∷ ns) e
    by false e = e

-- the names that must be there so far, and one more member
pub required_more : (members : List Member) (i : ℕ) (m : Member) (names after : List (List ℕ)) → i < length members → m ≡ get_or members i m → names ≡ required_names (map member_view (take i members)) →
    after ≡ names ++ cond m.required (m.name ∷ []) [] → after ≡ required_names (map member_view (take (i + 1) members))
required_more members i m names after l is before e =
    e
    ∙ ap (λ ns. ns ++ cond m.required (m.name ∷ []) []) before
    ∙ sym (required-push (map member_view (take i members)) (member_view m))
    ∙ ap (λ (x : Member). required_names (map member_view (take i members) ++ member_view x ∷ [])) is
    ∙ sym (ap required_names (map_push member_view (take i members) (get_or members i m)))
    ∙ sym (ap (λ ms. required_names (map member_view ms)) (take_more members i m l))
