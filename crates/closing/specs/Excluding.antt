-- Which alternatives of a component accept a value: at most one, where the value tells one variant.
use Rattle.std.specs.Prelude.{◌⊎◌, Option, Some}
use Rattle.acceptance.specs.Json.{Json, Items, no_items, item, list, member_of}
use Rattle.acceptance.specs.Acceptance.{Accepts}
use Rattle.schema_core.specs.declared.alternatives.Alternatives.{Alternatives}
use Rattle.schema_core.specs.Form.{alternatives_word}
use Rattle.shapes.specs.Declarations.{BodyOf, units, numbers, variants}
use Rattle.shapes.specs.Plain.{IsTagged}
use Rattle.terms.specs.Telling.{TellsOne}

abbrev pub items_of : Option Json → Items
items_of (Some (list xs)) = xs
items_of _ = no_items

-- the schema's alternatives under the keyword, none where it has none
abbrev pub alternatives : Alternatives → Json → Items
alternatives by s = items_of (member_of (alternatives_word by) s)

abbrev pub IsAcceptedByOne : Json → Items → Json → Type 0
IsAcceptedByOne doc no_items v = ⊥
IsAcceptedByOne doc (item s ss) v = Accepts doc s v ⊎ IsAcceptedByOne doc ss v

-- behind an alternative that accepts the value none does
abbrev pub AtMostOneAccepts : Json → Items → Json → Type 0
AtMostOneAccepts doc no_items v = Unit {0}
AtMostOneAccepts doc (item s ss) v = (Accepts doc s v → IsAcceptedByOne doc ss v → ⊥) × AtMostOneAccepts doc ss v

-- the value tells at most one variant of the enum, whose schema has alternatives
abbrev pub TellsOneOf : BodyOf → Json → Type 0
TellsOneOf (variants tagging xs) v = TellsOne tagging v
TellsOneOf (units tagging names) v = IsTagged tagging
TellsOneOf (numbers tagging ns) v = IsTagged tagging
TellsOneOf _ v = ⊥
