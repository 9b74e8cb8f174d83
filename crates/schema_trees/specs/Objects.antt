-- What objects say without a schema, and objects that say nothing else.
use Rattle.std.specs.Prelude.{ℕ, List, [], Option, None}
use Rattle.schema_trees.specs.declared.bounds.Bounds.{Bounds}
use Rattle.schema_trees.specs.declared.annotations.AnnotationKeywords.{AnnotationKeywords as Annotations}
use Rattle.schema_trees.specs.declared.tree.TypeWord.{TypeWord}
use Rattle.schema_trees.specs.Bounds.{no_bounds}
use Rattle.schema_trees.specs.Schema.{Facts, SchemaOf, object, no_properties, no_part}

-- a word of `type`, and annotations
abbrev pub word_facts : TypeWord → Annotations → Facts
word_facts w annotations = record {
  type_word = w;
  format = None;
  enum_values = None;
  required = [];
  bounds = no_bounds;
  annotations = annotations;
}

-- the same with another format, other names that must be there, and other bounds
abbrev pub with_format : Option (List ℕ) → Facts → Facts
with_format format f = record {
  type_word = f.type_word;
  format = format;
  enum_values = f.enum_values;
  required = f.required;
  bounds = f.bounds;
  annotations = f.annotations;
}

abbrev pub with_required : List (List ℕ) → Facts → Facts
with_required required f = record {
  type_word = f.type_word;
  format = f.format;
  enum_values = f.enum_values;
  required = required;
  bounds = f.bounds;
  annotations = f.annotations;
}

abbrev pub with_bounds : Bounds → Facts → Facts
with_bounds bounds f = record {
  type_word = f.type_word;
  format = f.format;
  enum_values = f.enum_values;
  required = f.required;
  bounds = bounds;
  annotations = f.annotations;
}

-- a word and annotations alone
abbrev pub only_word : {X : Type 0} → TypeWord → Annotations → SchemaOf X
only_word w annotations = object (word_facts w annotations) no_properties no_part no_part
