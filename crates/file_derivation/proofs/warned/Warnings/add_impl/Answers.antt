use Rattle.std.proofs.Common.{◌≡◌, ◌∙◌, ◌++◌, List, None, ap, sym, subst, append-nil}
use Rattle.std.specs.BTreeMap.{get_by_text}
use Rattle.std.proofs.lemmas.Result.{on_ok_weaker}
use Rattle.syntax.specs.Items.{declarations_view}
use Rattle.scopes.specs.Names.{place_among}
use Rattle.telling.specs.declared.told.Told.{Told}
use Rattle.file_derivation.specs.Warned.{told_impl, AreFirst}
use Rattle.file_derivation.proofs.Written.{impl_told, impl_untold}
use Rattle.file_derivation.proofs.warned.Warnings.add_impl.Goals as goal

pub returns-in-None : goal.returns-in-None
returns-in-None c = λ all first.
    let places = c.args.places.now in
    let ds = declarations_view places.declarations.now in
    let x = c.args.one.now in
    let none : place_among ds x.name ≡ None = sym (places.placed x.name) ∙ ap (get_by_text places.by_name) (sym c.as_str.ensures) ∙ sym c.in-None.ensures.value in
    subst (λ (v : List Told). AreFirst v c.args.self.now) (sym (ap (λ (v : List Told). all ++ v) (impl_untold c.args.names.now ds x none) ∙ append-nil all)) first

pub returns-in_ok-told-in-Some : goal.returns-in_ok-told-in-Some
returns-in_ok-told-in-Some c =
    let names = c.args.names.now in
    let places = c.args.places.now in
    let ds = declarations_view places.declarations.now in
    let x = c.args.one.now in
    let some = sym (places.placed x.name) ∙ ap (get_by_text places.by_name) (sym c.as_str.ensures) ∙ sym c.in-Some.ensures.value in
    on_ok_weaker c.push.result
    (λ pushed all first. subst (λ (v : List Told). AreFirst (all ++ v) c.push.new.self) (sym (impl_told names ds x _ some)) (pushed all (told_impl names x) first c.in_ok-told-in-Some.ensures)) c.push.ensures
