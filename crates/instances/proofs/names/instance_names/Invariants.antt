use Rattle.std.proofs.Common.{◌≡◌, map, take}
use Rattle.std.specs.BTreeMap.{get_by_text}
use Rattle.shapes.specs.InstanceNames.{instance_name}
use Rattle.shapes.specs.Views.{declaration_view}
use Rattle.instances.specs.Numbers.{AreNamed}
use Rattle.instances.proofs.names.instance_names.Given as goal

-- the names so far, and their numbers
abbrev pub invariant-loop-number : goal.invariant-loop-number
invariant-loop-number l = record {
  are : l.names ≡ map (instance_name (map declaration_view l.declared)) (take l.number l.reach);
  named : AreNamed (get_by_text l.numbers) l.names;
}
