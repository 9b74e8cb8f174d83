use Rattle.std.proofs.Common.{◌≡◌, length, map, take, drop}
use Rattle.shapes.specs.Views.{declaration_view}
use Rattle.closing.specs.Made.{entries_from, entries_at}
use Rattle.closing.proofs.Made.{AreLeft}
use Rattle.closing.proofs.Entered.{AreKnown, name_at, its_schema}
use Rattle.closing.proofs.components.components_of.Given as goal

-- the components so far are entered, with the others they are all, and the schemas of these are left
abbrev pub invariant-loop-number : goal.invariant-loop-number
invariant-loop-number l = record {
  many : length l.made.items ≡ length l.reach;
  left : AreLeft (map declaration_view l.declared) l.reach l.shown.marks l.made.items (take l.number-index l.shown.components);
  entries : entries_from (map declaration_view l.declared) l.reach l.components (drop l.number-index l.shown.components) ≡ entries_at (map declaration_view l.declared) l.reach l.shown.components;
  known : AreKnown (name_at (map declaration_view l.declared) l.reach) (its_schema (map declaration_view l.declared) l.reach) (take l.number-index l.shown.components) l.components;
}
