-- What schemas say of themselves (JSON Schema 2020-12, Validation, 8 and 9). It binds no value.
use Rattle.std.specs.Prelude.{ℕ, List, Bool, true, false, Option, Some, None}
use Rattle.acceptance.specs.Json.{Json, null}
use Rattle.schema_trees.specs.declared.annotations.AnnotationKeywords.{AnnotationKeywords as Annotations}

-- a description, a default, and whether what stands there is deprecated
abbrev pub annotations_of : Option (List ℕ) → Option Json → Option Bool → Annotations
annotations_of description default deprecated = record {
  title = None;
  description = description;
  default = default;
  example = None;
  examples = None;
  deprecated = deprecated;
  read_only = None;
  write_only = None;
  content_encoding = None;
  content_media_type = None;
}

abbrev pub no_annotations : Annotations
no_annotations = annotations_of None None None

-- what optional annotations say
abbrev pub said_by : Option Annotations → Annotations
said_by None = no_annotations
said_by (Some said) = said

abbrev pub where_true : Bool → Option Bool
where_true false = None
where_true true = Some true

-- that the place is deprecated, and its description
abbrev pub annotated : Bool → Option (List ℕ) → Annotations
annotated deprecated description = annotations_of description None (where_true deprecated)

abbrev pub described : Option (List ℕ) → Annotations
described = annotated false

-- a description, and null as the default
abbrev pub null_default : Option (List ℕ) → Annotations
null_default description = annotations_of description (Some null) None
