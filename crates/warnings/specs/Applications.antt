-- The applications in types: names with arguments, as `HashMap<u32, bool>` (The Rust Reference, "Paths", "Types").
use Rattle.std.specs.Prelude.{List, [], ◌∷◌, ◌++◌, map}
use Rattle.std.specs.Borrow.{Bor}
use Rattle.std.specs.List.{flat_map}
use Rattle.written_types.specs.declared.written.PathSegment.{PathSegment}
use Rattle.written_types.specs.Written.{Written, Writtens, WrittenPath, Segments, Segment, Arguments, Argument, path, reference, tuple, slice, array, trait_object, no_types, more_types, path_of, no_segments, more_segments, plain, applied, no_arguments, more_arguments, lifetime_argument, constant_argument, type_argument, segment_view}
use Rattle.serde_names.specs.Kept.{kept, kept_variants}
use Rattle.syntax.specs.Items.{FieldItem, FieldItems, named, unnamed, unit, VariantItem, BodyItem, struct_body, enum_body}

-- what the program's values are
abbrev pub applications_view : List (Bor PathSegment) → List Segment
applications_view ss = map (λ s. segment_view s.now) ss

-- ---- in types, at any depth

abbrev mutual
  pub applications_in : Written → List Segment
  applications_in (path p) = applications_in_path p
  applications_in (reference t) = applications_in t
  applications_in (tuple ts s) = applications_in_types ts
  applications_in (slice t s) = applications_in t
  applications_in (array t s) = applications_in t
  applications_in (trait_object p s) = applications_in_path p

  pub applications_in_types : Writtens → List Segment
  applications_in_types no_types = []
  applications_in_types (more_types t ts) = applications_in t ++ applications_in_types ts

  pub applications_in_path : WrittenPath → List Segment
  applications_in_path (path_of leading ss s) = applications_in_segments ss

  pub applications_in_segments : Segments → List Segment
  applications_in_segments no_segments = []
  applications_in_segments (more_segments s ss) = applications_in_segment s ++ applications_in_segments ss

  pub applications_in_segment : Segment → List Segment
  applications_in_segment (plain x) = []
  applications_in_segment (applied x args) = applied x args ∷ applications_in_arguments args

  pub applications_in_arguments : Arguments → List Segment
  applications_in_arguments no_arguments = []
  applications_in_arguments (more_arguments a args) = applications_in_argument a ++ applications_in_arguments args

  pub applications_in_argument : Argument → List Segment
  applications_in_argument (type_argument t) = applications_in t
  applications_in_argument (lifetime_argument x) = []
  applications_in_argument (constant_argument ts) = []

-- ---- in the types of the fields of a body

abbrev pub in_each : List FieldItem → List Segment
in_each fs = flat_map (λ f. applications_in f.ty) fs

-- of named fields those that serde keeps; before unnamed ones its items are not read
abbrev pub in_fields : FieldItems → List Segment
in_fields (named fs) = in_each (kept fs)
in_fields (unnamed fs) = in_each fs
in_fields unit = []

abbrev pub in_variants : List VariantItem → List Segment
in_variants vs = flat_map (λ v. in_fields v.fields) (kept_variants vs)

abbrev pub applications_of : BodyItem → List Segment
applications_of (struct_body fs) = in_fields fs
applications_of (enum_body vs) = in_variants vs
