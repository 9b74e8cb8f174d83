-- What declarations are where a field of their type is flattened (serde.rs, "Struct flattening"): serde flattens structs, maps and enums, and nothing else.
use Rattle.std.specs.Prelude.{ℕ, List, [], ◌∷◌, Bool, true, false, not, cond, ◌&&◌, map, Option, Some, None, option_map, option_and_then, codes, length, nat_lt}
use Rattle.std.specs.List.{list_any}
use Rattle.std.specs.Option.{option_map_or}
use Rattle.std.specs.Borrow.{Bor}
use Rattle.attributes.specs.Attributes.{AttributeItem}
use Rattle.written_types.specs.Written.{Written}
use Rattle.serde_rules.specs.Value.{is_required}
use Rattle.serde_names.specs.Kept.{value_of, is_flattened, is_kept_variant}
use Rattle.syntax.specs.Items.{FieldItem, FieldItems, named, unnamed, unit, VariantItem, BodyItem, struct_body, enum_body, DeclaredItem}
use Rattle.open_types.specs.Open.{Open, any_value, free_object, map_of, option, through, param, open_view}
use Rattle.open_types.specs.Open as types
use Rattle.configuration.specs.Configuration.{Configuration}
use Rattle.resolving.specs.Known.{Known}
use Rattle.resolving.specs.Resolved.{resolved_type}
use Rattle.scopes.specs.Scopes.{known_among, known_in}
use Rattle.scopes.specs.declared.container.Container.{Container}
use Rattle.warnings.specs.Before.{stands_before}
use Rattle.warnings.specs.Through.{only_field}
use Rattle.warnings.specs.declared.flat.Flat.{Flat}
use Rattle.warnings.specs.declared.flat.Test.{Test}
use Rattle.warnings.specs.declared.flat.Test.TheVariants.{NoMap, Optional, Binding, Object}
use Rattle.warnings.specs.declared.flat.TheConstants.{DENYING, BINDING, NO_OBJECT, NO_UNIT, NO_OBJECT_UNTAGGED}

-- the names that are known where a type is written
abbrev pub known : Container → Known
known container = known_in container.config.now container.scope.now

-- ---- types

-- any JSON value, behind pointers perhaps
abbrev pub is_any : Open → Bool
is_any any_value = true
is_any (through h t) = is_any t
is_any _ = false

-- the schema of a map says more of its values than that they are JSON
abbrev pub binds : Open → Bool
binds (map_of h k t) = not (is_any t)
binds (option t) = binds t
binds (through h t) = binds t
binds _ = false

-- a JSON value of the type may be an object
abbrev pub may_be_object : Open → Bool
may_be_object any_value = true
may_be_object free_object = true
may_be_object (map_of h k t) = true
may_be_object (through h t) = may_be_object t
may_be_object (param i) = true
may_be_object (types.named d ts) = true
may_be_object _ = false

abbrev pub is_map : Open → Bool
is_map (map_of h k t) = true
is_map _ = false

abbrev pub is_optional : Open → Bool
is_optional (option t) = true
is_optional _ = false

abbrev pub passes : Test → Open → Bool
passes NoMap t = not (is_map t)
passes Optional t = is_optional t
passes Binding t = binds t
passes Object t = may_be_object t

-- what the written type stands for passes the test
abbrev pub is_resolved : Test → Known → Written → Bool
is_resolved test known t = option_map_or (passes test) (resolved_type known t) false

-- ---- structs

-- the schema asks for the member of a field, where what has it has a `default` or not; what a flattened field asks for is not looked at, but a map asks for none
abbrev pub asks : Known → (default : Bool) → FieldItem → Bool
asks known default f =
    cond (value_of f).skip false
    (cond (value_of f).flatten (is_resolved NoMap known f.ty) (is_required (value_of f) default && not (is_resolved Optional known f.ty)))

-- a flattened field whose type passes the test, alone and among others
abbrev pub is_flattened_as : Test → Known → FieldItem → Bool
is_flattened_as test known f = is_flattened f && is_resolved test known f.ty

abbrev pub flattens : Test → Known → List FieldItem → Bool
flattens test known fs = list_any (is_flattened_as test known) fs

-- what is said of members that stand among others', where those are denied or not, and the schema of a map binds them or not
abbrev pub beside_message : (denied bind : Bool) → Option (List ℕ)
beside_message denied bind = cond denied (Some DENYING.now) (cond bind (Some BINDING.now) None)

-- what is said of a struct of these fields
abbrev pub struct_message : Known → List AttributeItem → FieldItems → Option (List ℕ)
struct_message known around (named fs) = beside_message (stands_before around (codes "deny_unknown_fields")) (flattens Binding known fs)
struct_message known around (unnamed fs) = cond (nat_lt 1 (length fs)) (Some NO_OBJECT.now) None
struct_message known around unit = None

-- ---- enums

-- serde flattens no variant of these fields, where the values of the enum tell their variant by its name, or by nothing
abbrev pub is_unfit : Known → (untagged : Bool) → FieldItems → Bool
is_unfit known untagged unit = true
is_unfit known untagged (named fs) = false
is_unfit known untagged (unnamed (f ∷ [])) = untagged && not (is_resolved Object known f.ty)
is_unfit known untagged (unnamed fs) = untagged

abbrev pub has_unfit : Known → (untagged : Bool) → List VariantItem → Bool
has_unfit known untagged vs = list_any (λ v. is_kept_variant v && is_unfit known untagged v.fields) vs

-- the schema of a map among the members of a variant of these fields binds others
abbrev pub fields_bind : Known → FieldItems → Bool
fields_bind known (named fs) = flattens Binding known fs
fields_bind known (unnamed (f ∷ [])) = is_resolved Binding known f.ty
fields_bind known _ = false

abbrev pub variants_bind : Known → List VariantItem → Bool
variants_bind known vs = list_any (λ v. is_kept_variant v && fields_bind known v.fields) vs

-- what is said of an enum whose variants have their members beside a tag, or alone
abbrev pub tagged_message : Known → List AttributeItem → List VariantItem → Option (List ℕ)
tagged_message known around vs = beside_message (stands_before around (codes "deny_unknown_fields")) (variants_bind known vs)

abbrev pub untagged_message : Known → List AttributeItem → List VariantItem → Option (List ℕ)
untagged_message known around vs = cond (has_unfit known true vs) (Some NO_OBJECT_UNTAGGED.now) (tagged_message known around vs)

-- what is said of an externally tagged enum
abbrev pub external_message : Known → List VariantItem → Option (List ℕ)
external_message known vs = cond (has_unfit known false vs) (Some NO_UNIT.now) None

-- what is said of an enum of these variants; a content stands in a member of its own
abbrev pub enum_message : Known → List AttributeItem → List VariantItem → Option (List ℕ)
enum_message known around vs =
    cond (stands_before around (codes "content")) None
    (cond (stands_before around (codes "tag")) (tagged_message known around vs)
    (cond (stands_before around (codes "untagged")) (untagged_message known around vs) (external_message known vs)))

-- ---- declarations

-- what a declaration is where it is flattened: what its only unnamed field stands for, whether its schema asks for a member, and what is said of it
pub record FlatOf : Type 0 where
  pub content : Option Open
  pub asks : Bool
  pub message : Option (List ℕ)

-- what the program's values are
abbrev pub said_view : Option (Bor (List ℕ)) → Option (List ℕ)
said_view message = option_map (λ text. text.now) message

abbrev pub flat_view : Flat → FlatOf
flat_view f = record { content = option_map open_view f.content; asks = f.asks; message = said_view f.message }

-- an enum and a struct of unnamed fields ask for something, a unit struct for nothing
abbrev pub body_asks : Known → List AttributeItem → BodyItem → Bool
body_asks known around (struct_body (named fs)) = list_any (asks known (stands_before around (codes "default"))) fs
body_asks known around (struct_body unit) = false
body_asks known around _ = true

abbrev pub body_message : Known → List AttributeItem → BodyItem → Option (List ℕ)
body_message known around (struct_body fs) = struct_message known around fs
body_message known around (enum_body vs) = enum_message known around vs

-- what its only unnamed field stands for
abbrev pub content_of : Known → BodyItem → Option Open
content_of known body = option_and_then (λ f. resolved_type known f.ty) (only_field body)

abbrev pub flat_of : Known → DeclaredItem → FlatOf
flat_of known d = record {
  content = content_of known d.body;
  asks = body_asks known d.attrs d.body;
  message = body_message known d.attrs d.body;
}

-- the names that are known in a declaration among these
abbrev pub known_of : Configuration → List DeclaredItem → DeclaredItem → Known
known_of c ds d = known_among c.aliases ds d.ident.text d.generics

abbrev pub flat_at : Configuration → List DeclaredItem → DeclaredItem → FlatOf
flat_at c ds d = flat_of (known_of c ds d) d

abbrev pub flats_of : Configuration → List DeclaredItem → List FlatOf
flats_of c ds = map (flat_at c ds) ds
