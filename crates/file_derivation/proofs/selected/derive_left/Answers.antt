use Rattle.std.proofs.Common.{◌≡◌, ◌∙◌, ◌++◌, [], ◌∷◌, List, length, map, ap, sym, subst}
use Rattle.std.specs.Borrow.{Bor}
use Rattle.std.proofs.lemmas.Result.{err_from_is_err_and}
use Rattle.diag.specs.declared.error.DeriveError.TheVariants.{Refused}
use Rattle.schema_core.specs.Document.{document_by}
use Rattle.schema_core.specs.declared.alternatives.Alternatives.{Alternatives}
use Rattle.configuration.specs.Configuration.{Configuration}
use Rattle.syntax.specs.Items.{declarations_view}
use Rattle.closing.specs.Described.{Describes}
use Rattle.compose.specs.Bounds.{collects_all}
use Rattle.compose.specs.Faults.{AreDerived, AreRefused}
use Rattle.prepare.specs.declared.file_items.FileAlias.{FileAlias}
use Rattle.prepare.specs.declared.file_items.FileItem.{FileItem}
use Rattle.telling.specs.declared.told.Told.{Told}
use Rattle.selecting.specs.Elsewhere.{found_by}
use Rattle.file_derivation.specs.Faults.{AreFaults}
use Rattle.file_derivation.specs.Helps.{origin_of}
use Rattle.file_derivation.specs.LeftOut.{told_of_file}
use Rattle.file_derivation.specs.Warned.{AreAllWarned, AreFirst}
use Rattle.file_derivation.specs.Outcomes.{RefusesSelected, of_clashes, of_bounds, DerivesSelected}
use Rattle.file_derivation.proofs.Stages.{refused_so, told_if}
use Rattle.file_derivation.proofs.selected.derive_left.Goals as goal

abbrev shown : List (Bor FileItem) → List FileItem
shown items = map (λ i. i.now) items

pub derive_read-requires : goal.derive_read-requires
derive_read-requires c = record { many = c.in_ok-left.ensures.many; named = c.in_ok-left.ensures.named }

pub returns-in_err-are_distinct-clause-told : goal.returns-in_err-are_distinct-clause-told
returns-in_err-are_distinct-clause-told c =
    let s = c.args.selection.now in
    let config = c.args.config in
    let names = c.args.files.now.names.now in
    let chosen = shown c.args.chosen.now in
    let needed = map (λ (a : Bor FileAlias). a.now) c.args.needed.now in
    let p = err_from_is_err_and c.from_residual-in_err-are_distinct.result c.from_residual-in_err-are_distinct.ensures.1 in
    rw (p.1, p.2)
    (told_if c.in_err-are_distinct.field-0.0
    (λ told is skip.
    let left = c.in_ok-left.ensures.left skip in
    subst (RefusesSelected s config names chosen needed) (sym is.1) (of_clashes left.2 (λ none. is.0 (is.1 ∙ none)))) c.in_err-are_distinct.ensures.told)

pub returns-in-Ok-clause-derived : goal.returns-in-Ok-clause-derived
returns-in-Ok-clause-derived c = λ skip.
    let s = c.args.selection.now in
    let config = c.args.config in
    let names = c.args.files.now.names.now in
    let chosen = shown c.args.chosen.now in
    let needed = map (λ (a : Bor FileAlias). a.now) c.args.needed.now in
    let left = c.in_ok-left.ensures.left skip in
    let ds = declarations_view c.in_ok-left.left.declarations in
    let from = shown c.in_ok-left.left.from in
    let elsewhere = found_by c.args.files.now.elsewhere.now in
    let impls = c.args.files.now.impls.now in
    let components = c.in-Ok.derived.0 in
    let configured = left.3 in
    let made = subst (λ (v : Configuration). (made : AreDerived v ds components) × ((by : Alternatives) → Describes made.resolved (collects_all v.collect) (document_by by components))) configured c.in-Ok.ensures.derived in
    let front = map told_of_file c.args.files.now.faults.now ++ left.0 in
    let lines : c.left_of.new.lines ≡ front = left.4 ∙ ap (λ (v : List Told). v ++ left.0) c.in_ok-lines.ensures in
    let mine = c.in-Ok.ensures.warned front (subst (λ (v : List Told). AreFirst v c.of-warnings.result) lines c.of-warnings.ensures) in
    let found : DerivesSelected s config names chosen needed elsewhere impls (map told_of_file c.args.files.now.faults.now) components mine.0 = record {
      shallow = c.requires.shallow;
      told = left.0;
      from = from;
      declarations = ds;
      rows = left.1;
      left = left.2;
      distinct = c.in_ok-are_distinct.ensures.distinct;
      derived = made.0;
      describes = made.1;
      warned = subst (λ (v : Configuration). AreAllWarned s.not_plain v names elsewhere ds from impls components front mine.0) configured mine.1;
    } in
    (mine.0, found, mine.2)

pub returns-clause-told : goal.returns-clause-told
returns-clause-told c =
    let s = c.args.selection.now in
    let config = c.args.config in
    let names = c.args.files.now.names.now in
    let chosen = shown c.args.chosen.now in
    let needed = map (λ (a : Bor FileAlias). a.now) c.args.needed.now in
    let ds = declarations_view c.in_ok-left.left.declarations in
    let from = shown c.in_ok-left.left.from in
    let d = c.in-Err-Refused.refusal in
    let refused = refused_so (AreRefused c.left_of.new.config ds) c.in-Err-Refused.field-0 _ d c.in-Err-Refused.field-0-is c.in-Err-Refused.refusal-is c.in-Err-Refused.ensures.refused in
    told_if c.alone.result
    (λ told is skip.
    let left = c.in_ok-left.ensures.left skip in
    let beyond = subst (λ (v : Configuration). AreRefused v ds (Refused d)) left.3 refused in
    let faults = subst (λ (v : Configuration). AreFaults v ds (origin_of names s from) (length ds) []) left.3 c.in_ok-left.ensures.faultless in
    subst (RefusesSelected s config names chosen needed) (sym (is ∙ ap (λ (t : Told). t ∷ []) c.in_ok-told_unplaced-in-Err-Refused.ensures)) (of_bounds left.2 faults beyond)) c.alone.ensures
