-- What a declaration is warned of: where the JSON that serde reads or writes is another than the schema says.
use Rattle.std.specs.Prelude.{◌≡◌, ◌++◌, List, [], map, Bool, true, false, cond, ◌&&◌, ◌||◌, codes, length, nat_lt, Option, None}
use Rattle.std.specs.List.{list_any, flat_map}
use Rattle.std.specs.Option.{option_map_or}
use Rattle.attributes.specs.Attributes.{AttributeItem}
use Rattle.written_types.specs.Written.{Written}
use Rattle.serde_rules.specs.declared.value.SerdeValue.{SerdeValue}
use Rattle.serde_rules.specs.Value.{is_required}
use Rattle.serde_names.specs.Kept.{value_of, is_kept, is_kept_variant, flattened}
use Rattle.syntax.specs.Items.{FieldItem, FieldItems, named, unnamed, unit, VariantItem, BodyItem, struct_body, enum_body, DeclaredItem}
use Rattle.open_types.specs.Open.{Open}
use Rattle.configuration.specs.Configuration.{Configuration}
use Rattle.resolving.specs.Known.{Known}
use Rattle.resolving.specs.Resolved.{resolved_type}
use Rattle.warnings.specs.declared.lookup.Lookup.{Lookup}
use Rattle.warnings.specs.declared.walk.Inside.{Inside}
use Rattle.warnings.specs.declared.walk.Around.{Around}
use Rattle.warnings.specs.declared.rules.Place.{Place}
use Rattle.warnings.specs.declared.rules.Place.TheVariants.{Struct, Tuple, Enum, Variant, Field, Flattened, Unnamed}
use Rattle.warnings.specs.declared.flat.Test.TheVariants.{NoMap}
use Rattle.warnings.specs.Rules.{WarningItem}
use Rattle.warnings.specs.Before.{stands_before, warnings_before}
use Rattle.warnings.specs.Types.{is_option, option_warnings}
use Rattle.warnings.specs.Keys.{warnings_of_keys}
use Rattle.warnings.specs.Through.{declarations_of}
use Rattle.warnings.specs.Flat.{FlatOf, flat_view, known, flattens, known_of, flats_of}
use Rattle.warnings.specs.Flattened.{asks_always, whole, warnings_of_flattened_type}

-- where a declaration is written: the declarations of the source, what they are where they are flattened, and the names that are known in this one
pub record InsideOf : Type 0 where
  pub declarations : List DeclaredItem
  pub flats : List FlatOf
  pub known : Known

-- the program's table of what the declarations are where they are flattened
abbrev pub IsKnown : Lookup → Type 0
IsKnown l = map flat_view l.flats ≡ flats_of l.config.now (declarations_of l.places.now)

-- what the program's values are
abbrev pub inside_view : Inside → InsideOf
inside_view i = record { declarations = declarations_of i.lookup.now.places.now; flats = map flat_view i.lookup.now.flats; known = known i.container.now }

-- ---- fields

-- what `skip` stands before is not looked at
abbrev pub unless_skipped : List AttributeItem → List WarningItem → List WarningItem
unless_skipped attributes said = cond (stands_before attributes (codes "skip")) [] said

-- where serde's items stand before a named field that they say this of
abbrev pub field_place : (denied default : Bool) → SerdeValue → Written → Place
field_place denied default value t = Field denied (is_option t) (default || value.default)

-- of the type of a named field that is kept
abbrev pub warnings_of_member : List DeclaredItem → (default : Bool) → SerdeValue → Written → List WarningItem
warnings_of_member ds default value t = option_warnings ds (is_required value default) value.double_option t ++ warnings_of_keys ds t

-- of a named field that is not flattened, where others are denied beside it or not, and where what has it has a `default` or not
abbrev pub warnings_of_field : List DeclaredItem → (denied default : Bool) → FieldItem → List WarningItem
warnings_of_field ds denied default f =
    warnings_before (field_place denied default (value_of f) f.ty) f.attrs
    ++ cond (is_kept f) (warnings_of_member ds default (value_of f) f.ty) []

-- what the type of a flattened field stands for, where the field is kept
abbrev pub flattened_type : Known → FieldItem → Option Open
flattened_type known f = cond (is_kept f) (resolved_type known f.ty) None

-- where serde's items stand before a flattened field of this type
abbrev pub flattened_place : List FlatOf → (denied : Bool) → Option Open → Place
flattened_place fs denied t = Flattened denied (option_map_or (λ u. asks_always fs (whole fs u)) t false)

-- of a flattened field, whose type stands for this
abbrev pub warnings_of_flattened : InsideOf → Around → FieldItem → Option Open → List WarningItem
warnings_of_flattened i a f t =
    warnings_before (flattened_place i.flats a.denied t) f.attrs
    ++ option_map_or (warnings_of_flattened_type i.flats i.declarations a.several f.ty) t []

abbrev pub warnings_of_either : InsideOf → Around → FieldItem → List WarningItem
warnings_of_either i a f = cond (value_of f).flatten (warnings_of_flattened i a f (flattened_type i.known f)) (warnings_of_field i.declarations a.denied a.default f)

abbrev pub warnings_of_unnamed : List DeclaredItem → FieldItem → List WarningItem
warnings_of_unnamed ds f = warnings_before Unnamed f.attrs ++ warnings_of_keys ds f.ty

abbrev pub warnings_of_named : InsideOf → Around → FieldItem → List WarningItem
warnings_of_named i a f = unless_skipped f.attrs (warnings_of_either i a f)

-- around named fields behind these attributes of their struct or variant
abbrev pub around_fields : List AttributeItem → List FieldItem → Around
around_fields around fs = record {
  denied = stands_before around (codes "deny_unknown_fields");
  default = stands_before around (codes "default");
  several = nat_lt 1 (length (flattened fs));
}

-- of fields behind these attributes of their struct or variant
abbrev pub warnings_of_fields : InsideOf → List AttributeItem → FieldItems → List WarningItem
warnings_of_fields i around (named fs) = flat_map (warnings_of_named i (around_fields around fs)) fs
warnings_of_fields i around (unnamed fs) = flat_map (warnings_of_unnamed i.declarations) fs
warnings_of_fields i around unit = []

-- ---- structs and enums

abbrev pub have_names : FieldItems → Bool
have_names (named fs) = true
have_names (unnamed fs) = false
have_names unit = false

-- of a variant, and of its fields
abbrev pub warnings_of_variant : InsideOf → VariantItem → List WarningItem
warnings_of_variant i v =
    unless_skipped v.attrs (warnings_before (Variant (have_names v.fields)) v.attrs ++ warnings_of_fields i v.attrs v.fields)

-- a variant that is kept has named fields
abbrev pub has_named_variant : List VariantItem → Bool
has_named_variant vs = list_any (λ v. is_kept_variant v && have_names v.fields) vs

-- where serde's items stand before a struct of these fields, and before an enum of these variants
abbrev pub struct_place : Known → FieldItems → Place
struct_place known (named fs) = Struct (flattens NoMap known fs)
struct_place known (unnamed fs) = Tuple (nat_lt 1 (length fs))
struct_place known unit = Tuple false

abbrev pub enum_place : List AttributeItem → List VariantItem → Place
enum_place around vs = Enum (stands_before around (codes "content")) (has_named_variant vs)

-- of what stands before a declaration, and of its fields or variants
abbrev pub warnings_of_body : InsideOf → List AttributeItem → BodyItem → List WarningItem
warnings_of_body i around (struct_body fs) = warnings_before (struct_place i.known fs) around ++ warnings_of_fields i around fs
warnings_of_body i around (enum_body vs) = warnings_before (enum_place around vs) around ++ flat_map (warnings_of_variant i) vs

-- where a declaration among these is written
abbrev pub inside_of : Configuration → List DeclaredItem → DeclaredItem → InsideOf
inside_of c ds d = record { declarations = ds; flats = flats_of c ds; known = known_of c ds d }

-- of a declaration, where names are looked up among these and among the aliases of the configuration
abbrev pub warnings_of : Configuration → List DeclaredItem → DeclaredItem → List WarningItem
warnings_of c ds d = warnings_of_body (inside_of c ds d) d.attrs d.body
