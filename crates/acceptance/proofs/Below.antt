-- What is accepted at a depth is accepted at each greater depth.
use Rattle.std.proofs.Common.{ℕ, zero, suc, List, [], ◌∷◌, Bool, true, ◌≤◌, Option, Some, None, drop, ◌≡◌, arith}
use Rattle.acceptance.specs.Json.{Json, null, boolean, number, text, list, map, Items, no_items, item, Members, no_members, member, look}
use Rattle.acceptance.specs.Json as json
use Rattle.acceptance.specs.Keyword.{Keyword, keyword_of}
use Rattle.acceptance.specs.Keyword as keyword
use Rattle.acceptance.specs.Acceptance.{Readings, keyword_holds, named, prefix_count, target_of, at_target, reference_holds, accepts_with, members_hold, properties_accept, each_property, prefix_accepts, in_order, all_accept, each_accepts, one_accepts, some_accepts, component_schema, component_accepts, accepts}
use Rattle.acceptance.proofs.Laws.{Below, and-below, or-below, list_all-below, on_map-below, on_list-below, if_there-below, others-below, names-below}

pub record ReadingsBelow (p q : Readings) : Type 0 where
  pub schema : Below p.as_schema q.as_schema
  pub properties : Below p.as_properties q.as_properties
  pub prefix : Below p.as_prefix q.as_prefix
  pub all : Below p.as_all q.as_all
  pub one : Below p.as_one q.as_one
  pub reference : Below p.as_reference q.as_reference

keyword-below : (k : Keyword) (schema : Members) (x : Json) (p q : Readings) → ReadingsBelow p q → Below (keyword_holds k schema x p) (keyword_holds k schema x q)
keyword-below keyword.properties w x p q h = h.properties
keyword-below keyword.additional_properties w x p q h = on_map-below _ _ (others-below (named w) p.as_schema q.as_schema h.schema)
keyword-below keyword.property_names w x p q h = on_map-below _ _ (names-below p.as_schema q.as_schema h.schema)
keyword-below keyword.prefix_items w x p q h = on_list-below _ _ h.prefix
keyword-below keyword.items w x p q h = on_list-below _ _ (λ vs. list_all-below p.as_schema q.as_schema h.schema (drop (prefix_count w) vs))
keyword-below keyword.all_of w x p q h = h.all
keyword-below keyword.any_of w x p q h = h.one
keyword-below keyword.one_of w x p q h = h.one
keyword-below keyword.reference w x p q h = h.reference
keyword-below _ w x p q h = λ v e. e

-- where each component accepts no less, so does each schema
module _ (R S : List ℕ → Json → Bool) (h : (name : List ℕ) → Below (R name) (S name)) where
  target-below : (o : Option (List ℕ)) → Below (at_target R o) (at_target S o)
  target-below None v e = e
  target-below (Some name) v e = h name v e

  reference-below : (x : Json) → Below (reference_holds R x) (reference_holds S x)
  reference-below (text s) = target-below (target_of s)
  reference-below null = λ v e. e
  reference-below _ = λ v e. e

  mutual
    pub schema-below : (x : Json) → Below (accepts_with R x) (accepts_with S x)
    schema-below (map ms) = members-below ms ms
    schema-below (boolean b) = λ v e. e
    schema-below null = λ v e. e
    schema-below (number n) = λ v e. e
    schema-below (text s) = λ v e. e
    schema-below (list xs) = λ v e. e

    pub members-below : (schema ms : Members) → Below (members_hold R schema ms) (members_hold S schema ms)
    members-below w no_members = λ v e. e
    members-below w (member k x ms) = λ v. and-below _ _ _ _ (keyword-below (keyword_of k) w x _ _
        (record { schema = schema-below x; properties = properties-below x; prefix = prefix-below x; all = all-below x; one = one-below x; reference = reference-below x }) v) (members-below w ms v)

    pub properties-below : (x : Json) → Below (properties_accept R x) (properties_accept S x)
    properties-below (map ps) = on_map-below _ _ (each_property-below ps)
    properties-below (boolean b) = λ v e. e
    properties-below null = λ v e. e
    properties-below (number n) = λ v e. e
    properties-below (text s) = λ v e. e
    properties-below (list xs) = λ v e. e

    pub each_property-below : (ps : Members) → Below (each_property R ps) (each_property S ps)
    each_property-below no_members = λ v e. e
    each_property-below (member k x ps) = λ es. and-below _ _ _ _ (if_there-below (accepts_with R x) (accepts_with S x) (schema-below x) (look k es)) (each_property-below ps es)

    pub prefix-below : (x : Json) → Below (prefix_accepts R x) (prefix_accepts S x)
    prefix-below (list ss) = in_order-below ss
    prefix-below (boolean b) = λ v e. e
    prefix-below null = λ v e. e
    prefix-below (number n) = λ v e. e
    prefix-below (text s) = λ v e. e
    prefix-below (map ms) = λ v e. e

    pub in_order-below : (ss : Items) → Below (in_order R ss) (in_order S ss)
    in_order-below no_items = λ v e. e
    in_order-below (item x ss) = elim [ [] ↦ λ e. e | v ∷ vs ↦ and-below (accepts_with R x v) (in_order R ss vs) (accepts_with S x v) (in_order S ss vs) (schema-below x v) (in_order-below ss vs) ]

    pub all-below : (x : Json) → Below (all_accept R x) (all_accept S x)
    all-below (list ss) = each-below ss
    all-below (boolean b) = λ v e. e
    all-below null = λ v e. e
    all-below (number n) = λ v e. e
    all-below (text s) = λ v e. e
    all-below (map ms) = λ v e. e

    pub each-below : (ss : Items) → Below (each_accepts R ss) (each_accepts S ss)
    each-below no_items = λ v e. e
    each-below (item x ss) = λ v. and-below _ _ _ _ (schema-below x v) (each-below ss v)

    pub one-below : (x : Json) → Below (one_accepts R x) (one_accepts S x)
    one-below (list ss) = some-below ss
    one-below (boolean b) = λ v e. e
    one-below null = λ v e. e
    one-below (number n) = λ v e. e
    one-below (text s) = λ v e. e
    one-below (map ms) = λ v e. e

    pub some-below : (ss : Items) → Below (some_accepts R ss) (some_accepts S ss)
    some-below no_items = λ v e. e
    some-below (item x ss) = λ v. or-below _ _ _ _ (schema-below x v) (some-below ss v)

found-below : (R S : List ℕ → Json → Bool) → ((name : List ℕ) → Below (R name) (S name)) → (o : Option Json) → Below (λ v. json.there o (λ s. accepts_with R s v)) (λ v. json.there o (λ s. accepts_with S s v))
found-below R S h None v e = e
found-below R S h (Some s) v e = schema-below R S h s v e

component-deeper : (document : Json) (d e : ℕ) → d ≤ e → (name : List ℕ) → Below (component_accepts document d name) (component_accepts document e name)
component-deeper document zero e le name v p = cc
component-deeper document (suc d) zero le name v p = absurd (omega arith)
component-deeper document (suc d) (suc e) le name v p = found-below (component_accepts document d) (component_accepts document e) (component-deeper document d e (omega arith)) (component_schema document name) v p

pub accepts-deeper : (document s v : Json) (d e : ℕ) → d ≤ e → accepts document s v d ≡ true → accepts document s v e ≡ true
accepts-deeper document s v d e le p = schema-below (component_accepts document d) (component_accepts document e) (component-deeper document d e le) s v p
