use Rattle.std.proofs.Common.{◌≡◌, map, take, Some}
use Rattle.syntax.specs.Items.{field_view}
use Rattle.serde_names.specs.Kept.{flattened}
use Rattle.derive_decl.specs.Resolved.{all_of, typed_of}
use Rattle.derive_decl.specs.Views.{known, typed_view}
use Rattle.derive_decl.proofs.flattened.resolve_fields.Given as goal

-- the fields so far that are flattened
abbrev pub invariant-loop-field : goal.invariant-loop-field
invariant-loop-field l = all_of (typed_of (known l.container)) (flattened (map field_view (take l.field-index l.fields))) ≡ Some (map typed_view l.typed.items)
