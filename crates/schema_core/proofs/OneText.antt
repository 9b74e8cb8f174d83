-- A text stands for one value: read as JSON, by a depth that is enough, it gives the value back.
use Rattle.std.proofs.Common.{ℕ, ℤ, pos, negsuc, ◌+◌, ◌≤◌, List, [], ◌∷◌, Option, Some, None, option_map, map as map_list, ◌≡◌, refl, sym, ap, ap₂, ◌∙◌, arith}
use Rattle.std.proofs.lemmas.List.{append-nil, append_cancel_right}
use Rattle.json.specs.Json as json
use Rattle.json.specs.Lex.{tokens}
use Rattle.json.specs.Print.{IsNumber}
use Rattle.json.specs.Tree.{json_tokens, HasNumbers, ItemsHaveNumbers, MembersHaveNumbers, depth}
use Rattle.json.specs.Token.{Token}
use Rattle.json.proofs.Printed.Decimals.{IsNumber-decimal, IsNumber-signed_decimal}
use Rattle.json.proofs.Printed.Tokens.{tokens-print}
use Rattle.json.proofs.Printed.Trees.{value-json_tokens, ArePrintable-json_tokens}
use Rattle.serde_json.specs.Data.{Num}
use Rattle.serde_json.specs.Read.{number_of}
use Rattle.serde_json.specs.Written.{number_text, outline, items_outline, members_outline, compact_text}
use Rattle.serde_json.proofs.Numbers.{number_of-decimal, number_of-negative}
use Rattle.serde_json.proofs.Texts.{print-outline}
use Rattle.acceptance.specs.Json.{Json, null, boolean, number, text, list, map, Items, no_items, item, Members, no_members, member, entries}
use Rattle.acceptance.specs.Data.{num_of, number_of as number_held, data_of, items_data, members_data}
use Rattle.schema_trees.specs.Bound.{IsShort}
use Rattle.schema_trees.specs.Held.{IsInOrder, HasShortNumbers, ItemsHaveShortNumbers, MembersHaveShortNumbers}
use Rattle.schema_core.specs.declared.alternatives.Alternatives.{Alternatives}
use Rattle.schema_core.specs.Document.{Entry, entry_form, document_by, text_of}
use Rattle.schema_core.specs.Entries.{entry_names}
use Rattle.schema_core.specs.OneText.{OneText, OneDocument}
use Rattle.schema_core.proofs.InOrder.{entries_in_order}

-- ---- numbers

pub digits_read : (n : ℤ) → IsShort n → number_of (number_text (num_of n)) ≡ Some (num_of n)
digits_read (pos n) h = number_of-decimal n h
digits_read (negsuc n) h = number_of-negative n h

pub are_digits : (n : ℤ) → IsShort n → IsNumber (number_text (num_of n))
are_digits (pos n) h = IsNumber-decimal n h
are_digits (negsuc n) h = IsNumber-signed_decimal (negsuc n) h

held : (n : ℤ) → number_held (num_of n) ≡ number n
held (pos n) = refl
held (negsuc n) = refl

-- ---- the value of a tree of JSON

abbrev pub tree_of : Json → json.Json
tree_of x = outline (data_of x)

abbrev number_meant : Option Num → Json
number_meant None = null
number_meant (Some n) = number_held n

abbrev mutual
  meant : json.Json → Json
  meant json.null = null
  meant (json.boolean b) = boolean b
  meant (json.number s) = number_meant (number_of s)
  meant (json.string s) = text s
  meant (json.array js) = list (items_meant js)
  meant (json.object ms) = map (members_meant ms)

  items_meant : json.Items → Items
  items_meant json.no_items = no_items
  items_meant (json.item j js) = item (meant j) (items_meant js)

  members_meant : json.Members → Members
  members_meant json.no_members = no_members
  members_meant (json.member k j ms) = member k (meant j) (members_meant ms)

mutual
  meant_again : (x : Json) → HasShortNumbers x → meant (tree_of x) ≡ x
  meant_again null h = refl
  meant_again (boolean b) h = refl
  meant_again (number n) h = ap number_meant (digits_read n h) ∙ held n
  meant_again (text s) h = refl
  meant_again (list xs) h = ap list (items_again xs h)
  meant_again (map ms) h = ap map (members_again ms h)

  items_again : (xs : Items) → ItemsHaveShortNumbers xs → items_meant (items_outline (items_data xs)) ≡ xs
  items_again no_items h = refl
  items_again (item x xs) h = ap₂ item (meant_again x h.0) (items_again xs h.1)

  members_again : (ms : Members) → MembersHaveShortNumbers ms → members_meant (members_outline (members_data ms)) ≡ ms
  members_again no_members h = refl
  members_again (member k x ms) h = ap₂ (member k) (meant_again x h.0) (members_again ms h.1)

mutual
  has_numbers : (x : Json) → HasShortNumbers x → HasNumbers (tree_of x)
  has_numbers null h = tt
  has_numbers (boolean b) h = tt
  has_numbers (number n) h = are_digits n h
  has_numbers (text s) h = tt
  has_numbers (list xs) h = items_have_numbers xs h
  has_numbers (map ms) h = members_have_numbers ms h

  items_have_numbers : (xs : Items) → ItemsHaveShortNumbers xs → ItemsHaveNumbers (items_outline (items_data xs))
  items_have_numbers no_items h = tt
  items_have_numbers (item x xs) h = (has_numbers x h.0, items_have_numbers xs h.1)

  members_have_numbers : (ms : Members) → MembersHaveShortNumbers ms → MembersHaveNumbers (members_outline (members_data ms))
  members_have_numbers no_members h = tt
  members_have_numbers (member k x ms) h = (has_numbers x h.0, members_have_numbers ms h.1)

-- ---- the value of a text

pub tokens_are : (x : Json) → HasShortNumbers x → tokens (compact_text (data_of x)) ≡ json_tokens (tree_of x)
tokens_are x h = ap tokens (sym (print-outline (data_of x))) ∙ tokens-print (json_tokens (tree_of x)) (ArePrintable-json_tokens (tree_of x) (has_numbers x h))

pub tree_read : (x : Json) (n : ℕ) → depth (tree_of x) ≤ n → json.value n (json_tokens (tree_of x)) ≡ Some (tree_of x, [])
tree_read x n deep = ap (json.value n) (sym (append-nil (json_tokens (tree_of x)))) ∙ value-json_tokens (tree_of x) n [] deep

abbrev value_of : Option (json.Json × List Token) → Option Json
value_of = option_map (λ p. meant p.0)

value_back : (x : Json) (n : ℕ) → HasShortNumbers x → depth (tree_of x) ≤ n → value_of (json.value n (tokens (compact_text (data_of x)))) ≡ Some x
value_back x n h deep = ap (λ ts. value_of (json.value n ts)) (tokens_are x h) ∙ ap value_of (tree_read x n deep) ∙ ap Some (meant_again x h)

the_same : (x y : Json) → Some x ≡ Some y → x ≡ y
the_same x y e = cc

one_compact : (x y : Json) → HasShortNumbers x → HasShortNumbers y → compact_text (data_of x) ≡ compact_text (data_of y) → x ≡ y
one_compact x y h k e =
    let n = depth (tree_of x) + depth (tree_of y) in
    the_same x y (sym (value_back x n h (omega arith)) ∙ ap (λ s. value_of (json.value n (tokens s))) e ∙ value_back y n k (omega arith))

pub one_text : OneText
unfolding text_of
one_text x y h k e = one_compact x y h k (append_cancel_right (compact_text (data_of x)) (compact_text (data_of y)) (10 ∷ []) e)

-- ---- documents

abbrev members_in : Json → Members
members_in null = no_members
members_in (boolean b) = no_members
members_in (number n) = no_members
members_in (text s) = no_members
members_in (list xs) = no_members
members_in (map ms) = ms

-- what stands at the first of the members
abbrev first_in : Members → Json
first_in no_members = null
first_in (member k x ms) = x

-- the entries of the schemas of a document
abbrev schemas_in : Json → List (List ℕ × Json)
schemas_in d = entries (members_in (first_in (members_in (first_in (members_in d)))))

forms_back : (by : Alternatives) (es : List Entry) → IsInOrder (entry_names es) → schemas_in (document_by by es) ≡ map_list (entry_form by) es
forms_back by es o = entries_in_order by es o

pub one_document : OneDocument
one_document by es fs o p h k e = sym (forms_back by es o) ∙ ap schemas_in (one_text (document_by by es) (document_by by fs) h k e) ∙ forms_back by fs p
