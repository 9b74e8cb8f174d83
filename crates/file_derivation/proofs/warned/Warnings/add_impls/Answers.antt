use Rattle.std.proofs.Common.{◌∙◌, ◌++◌, [], ◌∷◌, List, ap, sym, subst, append_assoc}
use Rattle.syntax.specs.Items.{declarations_view}
use Rattle.telling.specs.declared.told.Told.{Told}
use Rattle.file_derivation.specs.Warned.{told_impls, AreFirst}
use Rattle.file_derivation.proofs.Written.{impls_more, split_first}
use Rattle.file_derivation.proofs.warned.Warnings.add_impls.Goals as goal

pub impls-preserved : goal.impls-preserved
impls-preserved c = λ all first.
    let names = c.args.names.now in
    let ds = declarations_view c.args.places.now.declarations.now in
    let x = c.first-item.result in
    let one = told_impls names ds (x ∷ []) in
    let before = c.impls.invariant all first in
    let split = split_first c.impls.rest.now x c.in-len1-up.len_at_least c.first-item.is in
    let next = subst (λ (v : List Told). AreFirst v c.add_impl.new.self) (append_assoc all before.0 one) (c.in_ok-add_impl.ensures (all ++ before.0) before.1) in (
      before.0 ++ one,
      next,
      append_assoc before.0 one _ ∙ ap (λ (v : List Told). before.0 ++ v) (impls_more names ds x _ ∙ sym (ap (told_impls names ds) split)) ∙ before.2,
    )
