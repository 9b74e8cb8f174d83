-- Documents with the same components accept the same.
use Rattle.std.proofs.Common.{ℕ, zero, suc, ◌≡◌, refl}
use Rattle.acceptance.specs.Json.{Json}
use Rattle.acceptance.specs.Json as json
use Rattle.acceptance.specs.Acceptance.{component_accepts, accepts_with, accepts}
use Rattle.acceptance.specs.Law.{SameComponents}

component-same : (d e : Json) → SameComponents d e → (depth : ℕ) → component_accepts d depth ≡ component_accepts e depth
component-same d e h zero = refl
component-same d e h (suc depth) = λ i name v. json.there (h name i) (λ s. accepts_with (component-same d e h depth i) s v)

pub accepts-same : (d e : Json) → SameComponents d e → (s v : Json) (depth : ℕ) → accepts d s v depth ≡ accepts e s v depth
accepts-same d e h s v depth = λ i. accepts_with (component-same d e h depth i) s v
