-- The references of a schema, met through the members that hold schemas. One inside an `enum`, an example or an extension is none.
use Rattle.std.specs.Prelude.{ℕ, List, IsSomeAnd}
use Rattle.acceptance.specs.Json.{Json, null, boolean, number, text, list, map, Items, no_items, item, Members, no_members, member}
use Rattle.acceptance.specs.Keyword.{Keyword, keyword_of}
use Rattle.acceptance.specs.Keyword as keyword
use Rattle.acceptance.specs.Acceptance.{target_of}

-- a reference leads to a name that has Q
abbrev pub ReferenceHas : (List ℕ → Type 0) → Json → Type 0
ReferenceHas Q (text s) = IsSomeAnd (target_of s) Q
ReferenceHas Q _ = Unit {0}

-- of what a member's value says as a schema, a map of schemas, a list of schemas and a reference, what counts
abbrev pub AtKeyword : Keyword → (schema properties schemas reference : Type 0) → Type 0
AtKeyword keyword.properties s p l r = p
AtKeyword keyword.additional_properties s p l r = s
AtKeyword keyword.property_names s p l r = s
AtKeyword keyword.prefix_items s p l r = l
AtKeyword keyword.items s p l r = s
AtKeyword keyword.all_of s p l r = l
AtKeyword keyword.any_of s p l r = l
AtKeyword keyword.one_of s p l r = l
AtKeyword keyword.reference s p l r = r
AtKeyword _ s p l r = Unit {0}

-- Each reference of the schema leads to a name that has Q.
abbrev mutual
  pub EachReference : (List ℕ → Type 0) → Json → Type 0
  EachReference Q (map ms) = InMembers Q ms
  EachReference Q _ = Unit {0}

  pub InMembers : (List ℕ → Type 0) → Members → Type 0
  InMembers Q no_members = Unit {0}
  InMembers Q (member k x ms) = AtKeyword (keyword_of k) (EachReference Q x) (InProperties Q x) (InSchemas Q x) (ReferenceHas Q x) × InMembers Q ms

  pub InProperties : (List ℕ → Type 0) → Json → Type 0
  InProperties Q (map ps) = InEach Q ps
  InProperties Q _ = Unit {0}

  pub InEach : (List ℕ → Type 0) → Members → Type 0
  InEach Q no_members = Unit {0}
  InEach Q (member k x ps) = EachReference Q x × InEach Q ps

  pub InSchemas : (List ℕ → Type 0) → Json → Type 0
  InSchemas Q (list xs) = InItems Q xs
  InSchemas Q _ = Unit {0}

  pub InItems : (List ℕ → Type 0) → Items → Type 0
  InItems Q no_items = Unit {0}
  InItems Q (item x xs) = EachReference Q x × InItems Q xs
