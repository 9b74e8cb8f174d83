-- Small documents, computed: their texts, and what these are read as.
use Rattle.std.proofs.Common.{pos, negsuc, List, [], ◌∷◌, Some, codes, ◌≡◌, refl, arith}
use Rattle.std.specs.Fmt.{digits}
use Rattle.std.specs.List.Sorted.{IsStrictlySortedBy}
use Rattle.json.specs.Print.{escape_byte}
use Rattle.serde_json.specs.Data.{object, null as d_null, no_members as no_entries, member as entry}
use Rattle.serde_json.specs.Read.{read}
use Rattle.serde_json.proofs.OnLiterals.{serde_json_on_literals}
use Rattle.acceptance.specs.Json.{null, number, list, map, no_items, item, no_members, member}
use Rattle.acceptance.specs.Data.{data_of}
use Rattle.schema_trees.specs.declared.tree.SchemaTypeInner.TheVariants as word
use Rattle.schema_trees.specs.declared.tree.TypeWord.TheVariants.{One}
use Rattle.schema_trees.specs.Held.{HasShortNumbers, HasNamesInOrder}
use Rattle.schema_trees.specs.Bounds.{at_least}
use Rattle.schema_trees.specs.Annotations.{no_annotations}
use Rattle.schema_trees.specs.Objects.{word_facts, with_bounds, only_word}
use Rattle.schema_trees.specs.Schema.{object as object_schema, no_properties, no_part}
use Rattle.schema_core.specs.Document.{Entry, document, text_of}

no_components : text_of (document []) ≡ codes "{\"components\":{\"schemas\":{}}}\n"
unfolding text_of escape_byte
no_components = refl

-- a text, and a number that is not negative
abbrev a_name : Entry
a_name = (codes "Name", only_word (One word.String) no_annotations)

abbrev a_count : Entry
a_count = (codes "Count", object_schema (with_bounds (at_least (Some (pos 0))) (word_facts (One word.Integer) no_annotations)) no_properties no_part no_part)

abbrev two : List Entry
two = a_count ∷ a_name ∷ []

two_components : text_of (document two) ≡ codes "{\"components\":{\"schemas\":{\"Count\":{\"minimum\":0,\"type\":\"integer\"},\"Name\":{\"type\":\"string\"}}}}\n"
unfolding text_of digits serde_json_on_literals
two_components = refl

two_are_read : read (text_of (document two)) ≡ Some (data_of (document two))
unfolding text_of digits serde_json_on_literals
two_are_read = refl

two_are_in_order : HasNamesInOrder (document two)
unfolding IsStrictlySortedBy
two_are_in_order = ((tt, tt), (((tt, tt), ((((refl, tt), (tt, tt)), ((((refl, tt), (tt, tt)), (tt, (tt, tt))), (((tt, tt), (tt, tt)), tt))), tt)), tt))

two_are_short : HasShortNumbers (document two)
two_are_short = ((((omega arith, (tt, tt)), ((tt, tt), tt)), tt), tt)

-- the first and the last number that are short, and the next
short : HasShortNumbers (list (item (number (negsuc 9223372036854775807)) (item (number (pos 18446744073709551615)) no_items)))
short = (omega arith, (omega arith, tt))

too_long : HasShortNumbers (number (pos 18446744073709551616)) → ⊥
too_long h = omega arith

too_low : HasShortNumbers (number (negsuc 9223372036854775808)) → ⊥
too_low h = omega arith

-- names out of order are read in order
out_of_order : read (text_of (map (member (codes "b") null (member (codes "a") null no_members)))) ≡ Some (object (entry (codes "a") d_null (entry (codes "b") d_null no_entries)))
unfolding text_of serde_json_on_literals
out_of_order = refl
