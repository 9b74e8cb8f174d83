-- The first member of a schema and the rest, and the component of a name.
use Rattle.std.proofs.Common.{◌≡◌, ℕ, zero, suc, ◌-◌, List, ◌∷◌, Bool, ◌&&◌, Some, string_bytes, refl, sym, ap, ◌∙◌, arith}
use Rattle.acceptance.specs.Json.{Json, Members}
use Rattle.acceptance.specs.Json as json
use Rattle.acceptance.specs.Acceptance.{keyword_holds, members_hold, readings_of, component_schema, component_accepts, accepts_with}
use Rattle.acceptance.specs.Keyword.{keyword_of}
use Rattle.acceptance_checker.specs.Layer.{json_of_value, json_of_entries}
use Rattle.acceptance_checker.proofs.Views.{Entry}

pub members_hold-first : (component : List ℕ → Json → Bool) (schema : Members) (e : Entry) (rest : List Entry) (name : List ℕ) (x v : Json) (b : Bool)
    → name ≡ string_bytes e.0 → x ≡ json_of_value e.1 → b ≡ keyword_holds (keyword_of name) schema x (readings_of component x) v
    → members_hold component schema (json_of_entries (e ∷ rest)) v ≡ (b && members_hold component schema (json_of_entries rest) v)
members_hold-first component schema e rest name x v b p q h =
    ap (λ t. t && members_hold component schema (json_of_entries rest) v) (sym (h ∙ λ i. keyword_holds (keyword_of (p i)) schema (q i) (readings_of component (q i)) v))

-- what the component of a name accepts at a depth above 0
pub component_there : (document : Json) (depth : ℕ) (name : List ℕ) (s v : Json) → (depth ≡ 0 → ⊥) → component_schema document name ≡ Some s
    → component_accepts document depth name v ≡ accepts_with (component_accepts document (depth - 1)) s v
component_there document zero name s v above found = absurd (above refl)
component_there document (suc depth) name s v above found =
    let less : suc depth - 1 ≡ depth = omega arith in
    (λ i. json.there (found i) (λ t. accepts_with (component_accepts document depth) t v)) ∙ sym (ap (λ n. accepts_with (component_accepts document n) s v) less)
