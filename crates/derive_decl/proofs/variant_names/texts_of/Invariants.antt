use Rattle.std.proofs.Common.{◌≡◌, ◌++◌, map}
use Rattle.written_types.specs.declared.written.Ident.{Ident}
use Rattle.derive_decl.proofs.variant_names.texts_of.Given as goal

-- the names so far are those that were taken, and the others are left
abbrev pub invariant-loop-ident : goal.invariant-loop-ident
invariant-loop-ident l =
    (l.names ≡ map (λ (x : Ident). x.text) l.yielded)
    × (l.yielded ++ l.ident-iterator.rest.items ≡ l.initial.ident-iterator.rest.items)
