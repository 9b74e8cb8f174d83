use Rattle.std.proofs.Common.{◌≡◌, map, take, Some}
use Rattle.open_types.specs.Open.{open_view}
use Rattle.resolving.specs.Resolved.{resolved_type}
use Rattle.syntax.specs.Items.{FieldItem, field_view}
use Rattle.derive_decl.specs.Resolved.{all_of}
use Rattle.derive_decl.specs.Views.{known}
use Rattle.derive_decl.proofs.unnamed_fields.resolve_types.Given as goal

-- the types so far are those of the fields so far
abbrev pub invariant-loop-field : goal.invariant-loop-field
invariant-loop-field l =
    all_of (λ (f : FieldItem). resolved_type (known l.container).known f.ty) (map field_view (take l.field-index l.fields)) ≡ Some (map open_view l.types)
