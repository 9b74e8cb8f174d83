-- When a JSON value, read as a schema of a document, accepts a JSON value (JSON Schema 2020-12: Core, 8.2.3.1 and 10; Validation, 6.1 to 6.5).
-- This project's reading: `oneOf` asks for at least one, as `anyOf` does, a reference leads to a component of the document (OpenAPI 3.1, "Components Object"),
-- and a member that is not of its stated form binds nothing, like every member that is no keyword here.
use Rattle.std.specs.Prelude.{ℕ, zero, suc, ◌%◌, ℤ, pos, negsuc, List, [], ◌∷◌, Bool, true, false, not, ◌&&◌, ◌||◌, ◌==◌, Option, Some, None, option_map, option_and_then, nat_eq, int_le, length, drop, cond, codes, chars, IsTrue}
use Rattle.std.specs.List.{list_all, list_any}
use Rattle.acceptance.specs.Json.{Json, null, boolean, number, text, list, map, Items, no_items, item, Members, no_members, member, elements, entries, names, look, same, distinct, on_map, on_list, on_number, on_text, there, if_there, member_of}
use Rattle.texts.specs.Names.{is_in}
use Rattle.acceptance.specs.Keyword.{Keyword, keyword_of}
use Rattle.acceptance.specs.Keyword as keyword

-- ---- members that hold no schema

-- the words for what a value is; a whole number is an integer and a number
abbrev pub kinds_of : Json → List (List ℕ)
kinds_of null = codes "null" ∷ []
kinds_of (boolean b) = codes "boolean" ∷ []
kinds_of (number n) = codes "integer" ∷ codes "number" ∷ []
kinds_of (text s) = codes "string" ∷ []
kinds_of (list xs) = codes "array" ∷ []
kinds_of (map ms) = codes "object" ∷ []

-- the texts of a list of texts
abbrev pub texts_of : Items → Option (List (List ℕ))
texts_of no_items = Some []
texts_of (item (text k) xs) = option_map (λ ks. k ∷ ks) (texts_of xs)
texts_of (item _ xs) = None

abbrev pub if_texts : Option (List (List ℕ)) → (List (List ℕ) → Bool) → Bool
if_texts None p = true
if_texts (Some ks) p = p ks

-- `type`: one of the words is a kind of the value
abbrev pub type_holds : Json → Json → Bool
type_holds (text w) v = is_in w (kinds_of v)
type_holds (list ws) v = if_texts (texts_of ws) (list_any (λ w. is_in w (kinds_of v)))
type_holds _ v = true

-- `enum`: the value is in the list
abbrev pub enum_holds : Json → Json → Bool
enum_holds (list xs) v = list_any (same v) (elements xs)
enum_holds _ v = true

-- a member that is a whole number, and a test of it
abbrev pub if_number : Json → (ℤ → Bool) → Bool
if_number (number n) p = p n
if_number _ p = true

abbrev pub int_below : ℤ → ℤ → Bool
int_below m n = not (int_le n m)

abbrev pub magnitude : ℤ → ℕ
magnitude (pos n) = n
magnitude (negsuc n) = suc n

-- m is n times a whole number
abbrev pub is_multiple : ℤ → ℤ → Bool
is_multiple n m = cond (magnitude n == 0) (magnitude m == 0) (magnitude m % magnitude n == 0)

-- `required`: the map has each of the names
abbrev pub required_holds : Json → Json → Bool
required_holds (list ks) v = on_map v (λ es. if_texts (texts_of ks) (list_all (λ k. is_in k (names es))))
required_holds _ v = true

-- `uniqueItems`: the elements are pairwise distinct
abbrev pub unique_holds : Json → Json → Bool
unique_holds (boolean true) v = on_list v distinct
unique_holds _ v = true

-- ---- members that look at the one beside them

-- the names that `properties` of the schema speaks of
abbrev pub names_of : Option Json → List (List ℕ)
names_of (Some (map ps)) = names (entries ps)
names_of _ = []

abbrev pub named : Members → List (List ℕ)
named schema = names_of (look (codes "properties") (entries schema))

-- how many elements `prefixItems` of the schema speaks of
abbrev pub count_of : Option Json → ℕ
count_of (Some (list xs)) = length (elements xs)
count_of _ = 0

abbrev pub prefix_count : Members → ℕ
prefix_count schema = count_of (look (codes "prefixItems") (entries schema))

-- each entry whose name is not among these passes
abbrev pub others_pass : List (List ℕ) → (Json → Bool) → List (List ℕ × Json) → Bool
others_pass ks p es = list_all (λ e. is_in e.0 ks || p e.1) es

abbrev pub names_pass : (Json → Bool) → List (List ℕ × Json) → Bool
names_pass p es = list_all (λ e. p (text e.0)) es

-- ---- references

-- what follows a front
abbrev pub after : List ℕ → List ℕ → Option (List ℕ)
after [] s = Some s
after (c ∷ cs) [] = None
after (c ∷ cs) (d ∷ s) = cond (nat_eq c d) (after cs s) None

-- the name that a reference leads to
abbrev pub target_of : List ℕ → Option (List ℕ)
target_of s = after (codes "#/components/schemas/") s

abbrev pub at_target : (List ℕ → Json → Bool) → Option (List ℕ) → Json → Bool
at_target component (Some n) v = component n v
at_target component None v = false

-- `$ref`: the component of the name accepts the value
abbrev pub reference_holds : (List ℕ → Json → Bool) → Json → Json → Bool
reference_holds component (text s) v = at_target component (target_of s) v
reference_holds component _ v = true

-- ---- a schema

-- what a member's value says: as a schema, as a map of schemas, as a list of schemas by position, of which all or one accept, and as a reference
pub record Readings : Type 0 where
  pub as_schema : Json → Bool
  pub as_properties : Json → Bool
  pub as_prefix : List Json → Bool
  pub as_all : Json → Bool
  pub as_one : Json → Bool
  pub as_reference : Json → Bool

-- The member with value x of the schema holds of v.
abbrev pub keyword_holds : Keyword → Members → Json → Readings → Json → Bool
keyword_holds keyword.types schema x r v = type_holds x v
keyword_holds keyword.enumeration schema x r v = enum_holds x v
keyword_holds keyword.minimum schema x r v = if_number x (λ n. on_number v (λ m. int_le n m))
keyword_holds keyword.maximum schema x r v = if_number x (λ n. on_number v (λ m. int_le m n))
keyword_holds keyword.exclusive_minimum schema x r v = if_number x (λ n. on_number v (λ m. int_below n m))
keyword_holds keyword.exclusive_maximum schema x r v = if_number x (λ n. on_number v (λ m. int_below m n))
keyword_holds keyword.multiple_of schema x r v = if_number x (λ n. on_number v (is_multiple n))
keyword_holds keyword.min_length schema x r v = if_number x (λ n. on_text v (λ s. int_le n (pos (length (chars s)))))
keyword_holds keyword.max_length schema x r v = if_number x (λ n. on_text v (λ s. int_le (pos (length (chars s))) n))
keyword_holds keyword.properties schema x r v = r.as_properties v
keyword_holds keyword.required schema x r v = required_holds x v
keyword_holds keyword.additional_properties schema x r v = on_map v (others_pass (named schema) r.as_schema)
keyword_holds keyword.property_names schema x r v = on_map v (names_pass r.as_schema)
keyword_holds keyword.min_properties schema x r v = if_number x (λ n. on_map v (λ es. int_le n (pos (length es))))
keyword_holds keyword.max_properties schema x r v = if_number x (λ n. on_map v (λ es. int_le (pos (length es)) n))
keyword_holds keyword.prefix_items schema x r v = on_list v r.as_prefix
keyword_holds keyword.items schema x r v = on_list v (λ xs. list_all r.as_schema (drop (prefix_count schema) xs))
keyword_holds keyword.unique_items schema x r v = unique_holds x v
keyword_holds keyword.min_items schema x r v = if_number x (λ n. on_list v (λ xs. int_le n (pos (length xs))))
keyword_holds keyword.max_items schema x r v = if_number x (λ n. on_list v (λ xs. int_le (pos (length xs)) n))
keyword_holds keyword.all_of schema x r v = r.as_all v
keyword_holds keyword.any_of schema x r v = r.as_one v
keyword_holds keyword.one_of schema x r v = r.as_one v
keyword_holds keyword.reference schema x r v = r.as_reference v
keyword_holds keyword.other schema x r v = true

-- A schema accepts a value, where `component` says what the component of a name accepts.
abbrev mutual
  pub accepts_with : (List ℕ → Json → Bool) → Json → Json → Bool
  accepts_with component (boolean b) v = b
  accepts_with component (map ms) v = members_hold component ms ms v
  accepts_with component _ v = false

  -- each of these members of the schema holds
  pub members_hold : (List ℕ → Json → Bool) → Members → Members → Json → Bool
  members_hold component schema no_members v = true
  members_hold component schema (member k x ms) v =
      keyword_holds (keyword_of k) schema x (record {
        as_schema = accepts_with component x;
        as_properties = properties_accept component x;
        as_prefix = prefix_accepts component x;
        as_all = all_accept component x;
        as_one = one_accepts component x;
        as_reference = reference_holds component x;
      }) v
      && members_hold component schema ms v

  pub properties_accept : (List ℕ → Json → Bool) → Json → Json → Bool
  properties_accept component (map ps) v = on_map v (each_property component ps)
  properties_accept component _ v = true

  -- each entry that one of the schemas is named for is accepted by it
  pub each_property : (List ℕ → Json → Bool) → Members → List (List ℕ × Json) → Bool
  each_property component no_members es = true
  each_property component (member k x ps) es = if_there (look k es) (accepts_with component x) && each_property component ps es

  pub prefix_accepts : (List ℕ → Json → Bool) → Json → List Json → Bool
  prefix_accepts component (list ss) vs = in_order component ss vs
  prefix_accepts component _ vs = true

  -- by position, as far as both go
  pub in_order : (List ℕ → Json → Bool) → Items → List Json → Bool
  in_order component no_items vs = true
  in_order component (item x ss) [] = true
  in_order component (item x ss) (v ∷ vs) = accepts_with component x v && in_order component ss vs

  pub all_accept : (List ℕ → Json → Bool) → Json → Json → Bool
  all_accept component (list ss) v = each_accepts component ss v
  all_accept component _ v = true

  pub each_accepts : (List ℕ → Json → Bool) → Items → Json → Bool
  each_accepts component no_items v = true
  each_accepts component (item x ss) v = accepts_with component x v && each_accepts component ss v

  pub one_accepts : (List ℕ → Json → Bool) → Json → Json → Bool
  one_accepts component (list ss) v = some_accepts component ss v
  one_accepts component _ v = true

  pub some_accepts : (List ℕ → Json → Bool) → Items → Json → Bool
  some_accepts component no_items v = false
  some_accepts component (item x ss) v = accepts_with component x v || some_accepts component ss v

-- what a member's value says, where `component` says what the component of a name accepts
abbrev pub readings_of : (List ℕ → Json → Bool) → Json → Readings
readings_of component x = record {
  as_schema = accepts_with component x;
  as_properties = properties_accept component x;
  as_prefix = prefix_accepts component x;
  as_all = all_accept component x;
  as_one = one_accepts component x;
  as_reference = reference_holds component x;
}

-- ---- a document

-- the schema of the component of the name
abbrev pub component_schema : Json → List ℕ → Option Json
component_schema document name = option_and_then (member_of name) (option_and_then (member_of (codes "schemas")) (member_of (codes "components") document))

-- what the component of a name accepts, where references are followed less often than the depth
abbrev pub component_accepts : Json → ℕ → List ℕ → Json → Bool
component_accepts document zero name v = false
component_accepts document (suc depth) name v = there (component_schema document name) (λ s. accepts_with (component_accepts document depth) s v)

-- The schema s of the document accepts v at the depth: references are followed so often at most, one behind the other.
abbrev pub accepts : Json → Json → Json → ℕ → Bool
accepts document s v depth = accepts_with (component_accepts document depth) s v

-- The schema s of the document accepts v.
abbrev pub Accepts : Json → Json → Json → Type 0
Accepts document s v = (depth : ℕ) × IsTrue (accepts document s v depth)
