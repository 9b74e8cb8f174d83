use Rattle.std.proofs.Common.{◌≡◌, drop, map}
use Rattle.std.specs.List.{flat_map}
use Rattle.syntax.specs.Items.{field_view}
use Rattle.derive_decl.specs.Attributed.{first_other}
use Rattle.derive_decl.proofs.attributed.first_on_fields.Given as goal

abbrev pub invariant-loop-field : goal.invariant-loop-field
invariant-loop-field l = first_other (flat_map (λ f. f.attrs) (map field_view (drop l.field-index l.fields))) ≡ first_other (flat_map (λ f. f.attrs) (map field_view l.fields))
