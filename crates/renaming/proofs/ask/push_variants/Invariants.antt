use Rattle.std.proofs.Common.{◌≡◌, ◌++◌, map, take}
use Rattle.diag.specs.Refusal.{RefusesNone}
use Rattle.syntax.specs.Items.{variant_view}
use Rattle.serde_names.specs.Asked.{asked_of_variants}
use Rattle.renaming.specs.Refusals.{AreRefusedVariants}
use Rattle.renaming.proofs.ask.push_variants.Given as goal

-- the names so far are those of the variants so far, of which none is refused
abbrev pub invariant-loop-variant : goal.invariant-loop-variant
invariant-loop-variant l = record {
  names : l.names ≡ l.initial.names ++ asked_of_variants l.rule (map variant_view (take l.variant-index l.variants));
  faultless : RefusesNone (AreRefusedVariants (map variant_view (take l.variant-index l.variants)));
}
