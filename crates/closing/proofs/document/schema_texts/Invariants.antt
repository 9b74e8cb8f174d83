use Rattle.std.proofs.Common.{◌≡◌, List, ◌++◌, map}
use Rattle.std.specs.List.{AllByRecursion}
use Rattle.schema_core.specs.Document.{Entry}
use Rattle.shapes.specs.Views.{declaration_view}
use Rattle.inlining.specs.Inlining.{IsAmong}
use Rattle.closing.specs.Made.{entries_at}
use Rattle.closing.specs.Texts.{AreSchemaTexts}
use Rattle.closing.proofs.Entered.{its_schema}
use Rattle.closing.proofs.EntriesAt.{place_of, with_schema}
use Rattle.closing.proofs.document.schema_texts.Given as goal

-- the texts are those of some entries, which with those that are left are all, and the numbers that are left are of components
abbrev pub invariant-loop-name : goal.invariant-loop-name
invariant-loop-name l = record {
  written : (es : List Entry) × AreSchemaTexts l.by es l.texts × (es ++ map (with_schema (its_schema (map declaration_view l.declared) l.reach)) (map place_of l.name-iterator) ≡ entries_at (map declaration_view l.declared) l.reach l.shown.components);
  among : AllByRecursion (λ p. IsAmong p.1 l.shown.components) (map place_of l.name-iterator);
}
