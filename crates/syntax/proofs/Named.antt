-- The fields in braces of what the grammar reads have names.
use Rattle.std.proofs.Common.{List, refl}
use Rattle.std.specs.List.{AllByRecursion}
use Rattle.words.specs.Words.{Word}
use Rattle.words.specs.Lists.{IsList, no_items, last_item, more_items}
use Rattle.syntax.specs.Items.{FieldItem, FieldItems, VariantItem, DeclaredItem}
use Rattle.syntax.specs.ItemGrammar.{IsNamedField, named_field, IsFields, named_fields, unnamed_fields, no_fields, IsStructBody, in_braces, in_parentheses, fieldless, IsVariant, variant_item, struct_item, variants_in_braces, enum_item, IsDeclaration, structure, enumeration, IsItems, nothing, used, declared, IsSource, inner_doc, inner_attribute, items}
use Rattle.syntax.specs.Named.{HasName, HaveNames, IsNamedBody, AreNamed}

field_named : {ws rest : List Word} {f : FieldItem} → IsNamedField ws f rest → HasName f
field_named (named_field a v t) = refl

list_named : {ws : List Word} {fs : List FieldItem} → IsList IsNamedField ws fs → AllByRecursion HasName fs
list_named no_items = tt
list_named (last_item f) = (field_named f, tt)
list_named (more_items f fs) = (field_named f, list_named fs)

fields_named : {ws rest : List Word} {fs : FieldItems} → IsFields ws fs rest → HaveNames fs
fields_named (named_fields fs) = list_named fs
fields_named (unnamed_fields fs) = tt
fields_named no_fields = tt

variants_named : {ws : List Word} {vs : List VariantItem} → IsList IsVariant ws vs → AllByRecursion (λ v. HaveNames v.fields) vs
variants_named no_items = tt
variants_named (last_item (variant_item a fs d)) = (fields_named fs, tt)
variants_named (more_items (variant_item a fs d) vs) = (fields_named fs, variants_named vs)

body_named : {ws rest : List Word} {fs : FieldItems} → IsStructBody ws fs rest → HaveNames fs
body_named (in_braces w fs) = fields_named fs
body_named (in_parentheses fs w) = tt
body_named (fieldless w) = tt

declaration_named : {ws rest : List Word} {d : DeclaredItem} → IsDeclaration ws d rest → IsNamedBody d.body
declaration_named (structure (struct_item a v g b)) = body_named b
declaration_named (enumeration (enum_item a v g (variants_in_braces w vs))) = variants_named vs

items_named : {ws : List Word} {ds : List DeclaredItem} → IsItems ws ds → AreNamed ds
items_named nothing = tt
items_named (used u is) = items_named is
items_named (declared d is) = (declaration_named d, items_named is)

pub source_named : {ws : List Word} {ds : List DeclaredItem} → IsSource ws ds → AreNamed ds
source_named (inner_doc t is) = source_named is
source_named (inner_attribute is) = source_named is
source_named (items is) = items_named is
