-- Laws of acceptance: a greater depth accepts no less, and nothing of the document counts but its components.
use Rattle.std.specs.Prelude.{ℕ, List, ◌≤◌, ◌≡◌, IsTrue}
use Rattle.acceptance.specs.Json.{Json}
use Rattle.acceptance.specs.Acceptance.{component_schema, accepts}

abbrev pub AcceptsDeeper : Type 0
AcceptsDeeper = (document s v : Json) (d e : ℕ) → d ≤ e → IsTrue (accepts document s v d) → IsTrue (accepts document s v e)

-- two documents with the same component of each name
abbrev pub SameComponents : Json → Json → Type 0
SameComponents d e = (name : List ℕ) → component_schema d name ≡ component_schema e name

abbrev pub ComponentsAlone : Type 0
ComponentsAlone = (d e : Json) → SameComponents d e → (s v : Json) (depth : ℕ) → accepts d s v depth ≡ accepts e s v depth
