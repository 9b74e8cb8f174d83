use Rattle.std.proofs.Common.{◌≡◌, drop, map}
use Rattle.syntax.specs.Items.{declaration_view}
use Rattle.derive_decl.specs.Attributed.{attributes_among, first_other}
use Rattle.derive_decl.proofs.attributed.first_among.Given as goal

abbrev pub invariant-loop-declaration : goal.invariant-loop-declaration
invariant-loop-declaration l = first_other (attributes_among (map declaration_view (drop l.declaration-index l.declarations))) ≡ first_other (attributes_among (map declaration_view l.declarations))
