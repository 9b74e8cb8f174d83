use Rattle.std.proofs.Common.{◌≡◌, ◌∙◌, ◌<◌, ◌||◌, ℕ, zero, suc, List, [], ◌∷◌, Bool, true, false, length, get_or, map, codes, refl, ap, sym, arith}
use Rattle.written_types.specs.Written.{path_view}
use Rattle.attributes.specs.declared.attribute.Attribute.{Attribute}
use Rattle.attributes.specs.Attributes.{attribute_view, is_word}
use Rattle.derive_decl.specs.Fields.{is_deprecated}
use Rattle.derive_decl.proofs.annotations.is_deprecated.Goals as goal

or_true : (b : Bool) → (b || true) ≡ true
or_true true = refl
or_true false = refl

-- one of them is
deprecated_at : (xs : List Attribute) (i : ℕ) (a : Attribute) → i < length xs → a ≡ get_or xs i a → is_word (codes "deprecated") (path_view a.path) ≡ true → is_deprecated (map attribute_view xs) ≡ true
deprecated_at [] i a l e h = absurd (omega arith)
deprecated_at (x ∷ xs) zero a l e h = ap (λ (b : Attribute). is_word (codes "deprecated") (path_view b.path) || is_deprecated (map attribute_view xs)) (sym e) ∙ ap (λ b. b || is_deprecated (map attribute_view xs)) h
deprecated_at (x ∷ xs) (suc i) a l e h =
    ap (λ b. is_word (codes "deprecated") (path_view x.path) || b) (deprecated_at xs i a (omega arith) e h) ∙ or_true (is_word (codes "deprecated") (path_view x.path))

pub returns-then-is : goal.returns-then-is
returns-then-is c = sym (deprecated_at c.args.attributes.now c.loop-attribute.attribute-index c.attribute-item.result c.loop-attribute-test.true c.attribute-item.is (sym c.if-is.ensures))
