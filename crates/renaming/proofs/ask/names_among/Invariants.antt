use Rattle.std.proofs.Common.{◌≡◌, map, take}
use Rattle.diag.specs.Refusal.{RefusesNone}
use Rattle.syntax.specs.Items.{declaration_view}
use Rattle.serde_names.specs.Asked.{asked_of}
use Rattle.renaming.specs.Refusals.{AreRefusedItems}
use Rattle.renaming.proofs.ask.names_among.Given as goal

-- the names so far are those of the declarations so far, of which none is refused
abbrev pub invariant-loop-declaration : goal.invariant-loop-declaration
invariant-loop-declaration l = record {
  names : l.names ≡ asked_of (map declaration_view (take l.declaration-index l.declarations));
  faultless : RefusesNone (AreRefusedItems (map declaration_view (take l.declaration-index l.declarations)));
}
