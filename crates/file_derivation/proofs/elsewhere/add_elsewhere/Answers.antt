use Rattle.std.proofs.Common.{◌≡◌, ◌++◌, List, Option, None, Some, option_map, sym, subst, append-nil}
use Rattle.std.specs.Borrow.{Bor}
use Rattle.std.proofs.lemmas.Result.{on_ok_weaker}
use Rattle.texts.specs.declared.text.Text.{Text}
use Rattle.syntax.specs.Items.{declaration_view}
use Rattle.telling.specs.declared.told.Told.{Told}
use Rattle.file_derivation.specs.Elsewhere.{told_at_name, told_elsewhere, elsewhere_message}
use Rattle.file_derivation.specs.Warned.{AreFirst}
use Rattle.file_derivation.proofs.elsewhere.add_elsewhere.Goals as goal

pub returns-in-None : goal.returns-in-None
returns-in-None c = λ all first.
    let names = c.args.names.now in
    let d = declaration_view c.args.declaration.now in
    let i = c.args.item.now in
    let none : c.args.name ≡ None = c.in-None.is in
    subst (λ (o : Option (Bor Text)). AreFirst (all ++ told_elsewhere names d i (option_map (λ n. n.now) o)) c.args.warnings.now) (sym none)
    (subst (λ (v : List Told). AreFirst v c.args.warnings.now) (sym (append-nil all)) first)

pub returns-in_ok-told-in-Some : goal.returns-in_ok-told-in-Some
returns-in_ok-told-in-Some c =
    let names = c.args.names.now in
    let d = declaration_view c.args.declaration.now in
    let i = c.args.item.now in
    let some : c.args.name ≡ Some c.in-Some.name = c.in-Some.is in
    on_ok_weaker c.push.result
    (λ pushed all first.
    subst (λ (o : Option (Bor Text)). AreFirst (all ++ told_elsewhere names d i (option_map (λ n. n.now) o)) c.push.new.self) (sym some)
    (pushed all (told_at_name names d i (elsewhere_message c.in-Some.name.now)) first c.in_ok-told-in-Some.ensures)) c.push.ensures
