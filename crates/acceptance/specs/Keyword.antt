-- The members of a schema that bind values (JSON Schema 2020-12: Core, 8.2.3.1 and 10; Validation, 6.1 to 6.5).
use Rattle.std.specs.Prelude.{ℕ, List, [], ◌∷◌, codes, bytes_eq, cond}

pub data Keyword : Type 0 where
  types enumeration : Keyword
  minimum maximum exclusive_minimum exclusive_maximum multiple_of : Keyword
  min_length max_length : Keyword
  properties required additional_properties property_names min_properties max_properties : Keyword
  prefix_items items unique_items min_items max_items : Keyword
  all_of any_of one_of reference : Keyword
  other : Keyword

abbrev pub keywords : List (List ℕ × Keyword)
keywords =
    (codes "type", types) ∷ (codes "enum", enumeration)
    ∷ (codes "minimum", minimum) ∷ (codes "maximum", maximum) ∷ (codes "exclusiveMinimum", exclusive_minimum) ∷ (codes "exclusiveMaximum", exclusive_maximum) ∷ (codes "multipleOf", multiple_of)
    ∷ (codes "minLength", min_length) ∷ (codes "maxLength", max_length)
    ∷ (codes "properties", properties) ∷ (codes "required", required) ∷ (codes "additionalProperties", additional_properties) ∷ (codes "propertyNames", property_names)
    ∷ (codes "minProperties", min_properties) ∷ (codes "maxProperties", max_properties)
    ∷ (codes "prefixItems", prefix_items) ∷ (codes "items", items) ∷ (codes "uniqueItems", unique_items) ∷ (codes "minItems", min_items) ∷ (codes "maxItems", max_items)
    ∷ (codes "allOf", all_of) ∷ (codes "anyOf", any_of) ∷ (codes "oneOf", one_of) ∷ (codes "$ref", reference) ∷ []

abbrev pub keyword_among : List ℕ → List (List ℕ × Keyword) → Keyword
keyword_among k [] = other
keyword_among k (e ∷ es) = cond (bytes_eq k e.0) e.1 (keyword_among k es)

-- the keyword of a member's name; any other member binds nothing
abbrev pub keyword_of : List ℕ → Keyword
keyword_of k = keyword_among k keywords
