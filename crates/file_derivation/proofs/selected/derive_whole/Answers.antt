use Rattle.std.proofs.Common.{◌≡◌, ◌∙◌, [], List, length, map, ap, sym, subst, inl, inr}
use Rattle.std.specs.Borrow.{Bor}
use Rattle.diag.specs.declared.error.DeriveError.TheVariants.{Refused}
use Rattle.schema_core.specs.Document.{document_by}
use Rattle.schema_core.specs.declared.alternatives.Alternatives.{Alternatives}
use Rattle.configuration.specs.Configuration.{Configuration, with_rows}
use Rattle.syntax.specs.Items.{declarations_view}
use Rattle.closing.specs.Described.{Describes}
use Rattle.compose.specs.Bounds.{collects_all}
use Rattle.compose.specs.Faults.{AreDerived, AreRefused}
use Rattle.prepare.specs.declared.file_items.FileAlias.{FileAlias}
use Rattle.prepare.specs.declared.file_items.FileItem.{FileItem}
use Rattle.std.proofs.lemmas.List.{length-map}
use Rattle.std.proofs.lemmas.Result.{err_from_is_err_and}
use Rattle.selecting.specs.Elsewhere.{found_by}
use Rattle.file_derivation.specs.Warned.{AreAllWarned}
use Rattle.file_derivation.specs.Faults.{AreFaults}
use Rattle.file_derivation.specs.Helps.{origin_of}
use Rattle.gathering.specs.Reading.{AreRead}
use Rattle.file_derivation.specs.Outcomes.{RefusesSelected, of_items, of_clashes, of_declarations, of_bounds, AreReadWhole, all_are, DerivesSelected}
use Rattle.file_derivation.proofs.Stages.{refused_so, told_if, as_many, some_told, none_told}
use Rattle.file_derivation.proofs.selected.derive_whole.Goals as goal

abbrev shown : List (Bor FileItem) → List FileItem
shown items = map (λ i. i.now) items

pub returns-then-not-is_empty-clause-told : goal.returns-then-not-is_empty-clause-told
returns-then-not-is_empty-clause-told c = λ whole.
    of_items whole c.requires.few c.in_ok-reading.ensures.read (some_told c.is_empty.result c.is_empty.ensures c.if-not-is_empty.true)

pub derive_read-requires : goal.derive_read-requires
derive_read-requires c = record {
  many = sym (length-map c.in_ok-reading.reading.from (λ i. i.now)) ∙ as_many c.in_ok-reading.ensures.read;
  named = c.in_ok-reading.ensures.named;
}

pub returns-in_err-are_distinct-clause-told : goal.returns-in_err-are_distinct-clause-told
returns-in_err-are_distinct-clause-told c =
    let s = c.args.selection.now in
    let config = c.args.config in
    let names = c.args.files.now.names.now in
    let chosen = shown c.args.chosen.now in
    let needed = map (λ (a : Bor FileAlias). a.now) c.args.needed.now in
    let none = none_told c.is_empty.result c.is_empty.ensures c.if-not-is_empty.false in
    let ds = declarations_view c.in_ok-reading.reading.declarations in
    let from = shown c.in_ok-reading.reading.from in
    let read = subst (AreRead names chosen from ds) none c.in_ok-reading.ensures.read in
    let whole : AreReadWhole names chosen from ds c.in_ok-push_rows_of.ensures.0 = record { few = c.requires.few; read = read; rows_are = c.in_ok-push_rows_of.ensures.1 } in
    let p = err_from_is_err_and c.from_residual-in_err-are_distinct.result c.from_residual-in_err-are_distinct.ensures.1 in
    rw (p.1, p.2)
    (told_if c.in_err-are_distinct.field-0.0
    (λ told is all. subst (RefusesSelected s config names chosen needed) (sym is.1) (of_clashes (all_are all whole) (λ none. is.0 (is.1 ∙ none)))) c.in_err-are_distinct.ensures.told)

pub returns-in-Ok-clause-derived : goal.returns-in-Ok-clause-derived
returns-in-Ok-clause-derived c = λ all.
    let s = c.args.selection.now in
    let config = c.args.config in
    let names = c.args.files.now.names.now in
    let chosen = shown c.args.chosen.now in
    let needed = map (λ (a : Bor FileAlias). a.now) c.args.needed.now in
    let none = none_told c.is_empty.result c.is_empty.ensures c.if-not-is_empty.false in
    let ds = declarations_view c.in_ok-reading.reading.declarations in
    let from = shown c.in_ok-reading.reading.from in
    let read = subst (AreRead names chosen from ds) none c.in_ok-reading.ensures.read in
    let elsewhere = found_by c.args.files.now.elsewhere.now in
    let impls = c.args.files.now.impls.now in
    let components = c.in-Ok.derived.0 in
    let configured : c.push_rows_of.new.config ≡ with_rows config c.in_ok-push_rows_of.ensures.0 = c.in_ok-push_rows_of.ensures.2 in
    let made = subst (λ (v : Configuration). (made : AreDerived v ds components) × ((by : Alternatives) → Describes made.resolved (collects_all v.collect) (document_by by components))) configured c.in-Ok.ensures.derived in
    let mine = c.in-Ok.ensures.warned [] c.new-warnings.ensures in
    let found : DerivesSelected s config names chosen needed elsewhere impls [] components mine.0 = record {
      shallow = c.requires.shallow;
      told = [];
      from = from;
      declarations = ds;
      rows = c.in_ok-push_rows_of.ensures.0;
      left = all_are all (record { few = c.requires.few; read = read; rows_are = c.in_ok-push_rows_of.ensures.1 });
      distinct = c.in_ok-are_distinct.ensures.distinct;
      derived = made.0;
      describes = made.1;
      warned = subst (λ (v : Configuration). AreAllWarned s.not_plain v names elsewhere ds from impls components [] mine.0) configured mine.1;
    } in
    (mine.0, found, mine.2)

pub returns-clause-told : goal.returns-clause-told
returns-clause-told c = λ all.
    let s = c.args.selection.now in
    let config = c.args.config in
    let names = c.args.files.now.names.now in
    let chosen = shown c.args.chosen.now in
    let needed = map (λ (a : Bor FileAlias). a.now) c.args.needed.now in
    let told = c.in_ok-told-in-Err-Refused.told in
    let none = none_told c.is_empty.result c.is_empty.ensures c.if-not-is_empty.false in
    let ds = declarations_view c.in_ok-reading.reading.declarations in
    let from = shown c.in_ok-reading.reading.from in
    let read = subst (AreRead names chosen from ds) none c.in_ok-reading.ensures.read in
    let rows = c.in_ok-push_rows_of.ensures.0 in
    let configured : c.push_rows_of.new.config ≡ with_rows config rows = c.in_ok-push_rows_of.ensures.2 in
    let whole : AreReadWhole names chosen from ds rows = record { few = c.requires.few; read = read; rows_are = c.in_ok-push_rows_of.ensures.1 } in
    let mine = c.in_ok-told-in-Err-Refused.ensures from ds read in
    elim mine [
      | inl (faults, some) ↦ of_declarations all whole (subst (λ (v : Configuration). AreFaults v ds (origin_of names s from) (length ds) told) configured faults) some
      | inr (clear, is) ↦
          let d = c.in-Err-Refused.refusal in
          let refused = refused_so (AreRefused c.push_rows_of.new.config ds) c.in-Err-Refused.field-0 _ d c.in-Err-Refused.field-0-is c.in-Err-Refused.refusal-is c.in-Err-Refused.ensures.refused in
          let faults = subst (λ (v : Configuration). AreFaults v ds (origin_of names s from) (length ds) []) configured clear in
          subst (RefusesSelected s config names chosen needed) (sym is) (of_bounds (all_are all whole) faults (subst (λ (v : Configuration). AreRefused v ds (Refused d)) configured refused))
    ]
