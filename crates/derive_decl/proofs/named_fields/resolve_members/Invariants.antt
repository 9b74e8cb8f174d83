use Rattle.std.proofs.Common.{◌≡◌, map, take, Some}
use Rattle.syntax.specs.Items.{field_view}
use Rattle.serde_names.specs.Kept.{own}
use Rattle.derive_decl.specs.Fields.{rules_view, written_idents}
use Rattle.derive_decl.specs.Resolved.{all_of, member_of}
use Rattle.derive_decl.specs.Views.{known, written_member_view}
use Rattle.derive_decl.proofs.named_fields.resolve_members.Given as goal

-- the members so far are those of the fields so far that have names of their own, with these
abbrev pub invariant-loop-field : goal.invariant-loop-field
invariant-loop-field l =
    (all_of (member_of (known l.container) (rules_view l.rules)) (own (map field_view (take l.field-index l.fields))) ≡ Some (map written_member_view l.members.items))
    × (written_idents l.container.config.now.renames l.rules.rename_all (own (map field_view (take l.field-index l.fields))) ≡ map (λ m. m.ident) l.members.items)
