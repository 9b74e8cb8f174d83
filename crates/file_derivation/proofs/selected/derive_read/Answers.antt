use Rattle.std.proofs.Common.{◌≡◌, ◌∙◌, ◌++◌, Bool, not, List, map, ap, sym, subst}
use Rattle.std.specs.Borrow.{Bor}
use Rattle.schema_core.specs.Document.{Entry, document_by}
use Rattle.schema_core.specs.declared.alternatives.Alternatives.{Alternatives}
use Rattle.syntax.specs.Items.{declaration_view, declarations_view}
use Rattle.closing.specs.Described.{Describes}
use Rattle.compose.specs.Bounds.{collects_all}
use Rattle.compose.specs.Faults.{AreDerived}
use Rattle.prepare.specs.declared.file_items.FileItem.{FileItem}
use Rattle.selecting.specs.Elsewhere.{found_by}
use Rattle.file_derivation.specs.Elsewhere.{told_all_elsewhere}
use Rattle.file_derivation.specs.Warned.{has_some, told_impls, told_nothing, AreAllWarned}
use Rattle.file_derivation.proofs.Written.{some_where, some_mapped}
use Rattle.file_derivation.proofs.selected.derive_read.Goals as goal

abbrev shown : List (Bor FileItem) → List FileItem
shown items = map (λ i. i.now) items

pub returns-clause-derived : goal.returns-clause-derived
returns-clause-derived c =
    let config = c.args.config.now in
    let ds = declarations_view c.args.reading.declarations in
    subst (λ (v : List Entry). (made : AreDerived config ds v) × ((by : Alternatives) → Describes made.resolved (collects_all config.collect) (document_by by v))) (sym c.in_ok-with_warnings.ensures.derived) c.in_ok-composition.ensures.describes

pub returns-clause-warned : goal.returns-clause-warned
returns-clause-warned c = λ front first.
    let names = c.args.files.now.names.now in
    let plain = c.args.plain in
    let config = c.args.config.now in
    let items = c.args.reading.declarations.items in
    let ds = declarations_view c.args.reading.declarations in
    let from = shown c.as_slice-from.result.now in
    let impls = c.args.files.now.impls.now in
    let components = c.in_ok-composition.composition in
    let mine = c.in_ok-own.ensures front first in
    let elsewhere = found_by c.args.files.now.elsewhere.now in
    let before = ((front ++ mine.0) ++ told_impls names ds impls) ++ told_all_elsewhere names elsewhere ds from in
    let more = c.in_ok-warnings.ensures.told before (c.in_ok-named.ensures ((front ++ mine.0) ++ told_impls names ds impls) mine.2) in
    let is_declared = not c.is_empty-is_declared.result in
    let all = (before ++ more.0) ++ told_nothing is_declared (has_some components) in
    let some : is_declared ≡ has_some ds = some_where c.is_empty-is_declared.result items c.is_empty-is_declared.ensures ∙ some_mapped declaration_view items in
    let warned : AreAllWarned plain config names elsewhere ds from impls components front all = record {
      own = mine.0;
      warned = mine.1;
      unplain = more.0;
      not_plain = more.1;
      whole = ap (λ (b : Bool). (before ++ more.0) ++ told_nothing b (has_some components)) some;
    } in
    let given = c.in_ok-with_warnings.ensures in
    let read = subst (λ (v : List (Bor FileItem)). AreAllWarned plain config names elsewhere ds (shown v) impls components front all) c.as_slice-from.ensures warned in
    (all, subst (λ (v : List Entry). AreAllWarned plain config names elsewhere ds (shown c.args.reading.from) impls v front all) (sym given.derived) read, given.warned (before ++ more.0) more.2)
