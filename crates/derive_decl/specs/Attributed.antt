-- The attributes of declarations, and those from which nothing is derived.
use Rattle.std.specs.Prelude.{ℕ, List, [], ◌∷◌, ◌++◌, ◌||◌, Bool, cond, Option, Some, None, is_none, option_map, codes}
use Rattle.std.specs.List.{flat_map}
use Rattle.attributes.specs.Attributes.{AttributeItem, is_word}
use Rattle.syntax.specs.Items.{FieldItem, FieldItems, named, unnamed, unit, BodyItem, struct_body, enum_body, DeclaredItem}
use Rattle.derive_decl.specs.declared.feature.Feature.{Feature}
use Rattle.derive_decl.specs.declared.feature.Feature.TheVariants.{Schema, Repr}
use Rattle.derive_decl.specs.declared.feature.Other.{Other}

abbrev pub fields_in : FieldItems → List FieldItem
fields_in (named fs) = fs
fields_in (unnamed fs) = fs
fields_in unit = []

abbrev pub attributes_on : FieldItems → List AttributeItem
attributes_on fs = flat_map (λ f. f.attrs) (fields_in fs)

-- the attributes of the fields, or of each variant and its fields
abbrev pub attributes_inside : BodyItem → List AttributeItem
attributes_inside (struct_body fs) = attributes_on fs
attributes_inside (enum_body vs) = flat_map (λ v. v.attrs ++ attributes_on v.fields) vs

-- the attributes of a declaration and of its variants and fields, in order; those of its parameters are not kept
abbrev pub attributes_with : List AttributeItem → BodyItem → List AttributeItem
attributes_with attrs body = attrs ++ attributes_inside body

abbrev pub attributes_in : DeclaredItem → List AttributeItem
attributes_in d = attributes_with d.attrs d.body

abbrev pub attributes_among : List DeclaredItem → List AttributeItem
attributes_among ds = flat_map attributes_in ds

-- an attribute of `schema` or `repr`: nothing is derived from these
abbrev pub is_other : AttributeItem → Bool
is_other a = is_word (codes "schema") a.path || is_word (codes "repr") a.path

-- what such an attribute asks for, and where it stands
abbrev pub other_of : AttributeItem → Other
other_of a = record { span = a.span; feature = cond (is_word (codes "schema") a.path) Schema Repr }

-- the first of these
abbrev pub first_other : List AttributeItem → Option Other
first_other [] = None
first_other (a ∷ others) = cond (is_other a) (Some (other_of a)) (first_other others)

-- something is derived from each of these
abbrev pub are_derivable : List AttributeItem → Bool
are_derivable attrs = is_none (first_other attrs)

-- how a feature is written
abbrev pub feature_name : Feature → List ℕ
feature_name Schema = codes "schema"
feature_name Repr = codes "repr"

-- the feature that the first attribute of a declaration asks for from which nothing is derived
abbrev pub first_feature : DeclaredItem → Option Feature
first_feature d = option_map (λ o. o.feature) (first_other (attributes_in d))
