use Rattle.std.proofs.Common.{◌∙◌, ◌<◌, [], length, map, ap, sym, arith, inr}
use Rattle.std.specs.List.{cons_option}
use Rattle.derive_decl.specs.Views.{typed_view}
use Rattle.derive_decl.proofs.NamedForms.{several}
use Rattle.derive_decl.proofs.flattened.only_one_map.Goals as goal

pub returns-in-Some-clause-refused : goal.returns-in-Some-clause-refused
returns-in-Some-clause-refused c =
    let lt : c.loop-typed.typed-index < length c.args.fields.now = omega arith in
    inr (several typed_view c.args.fields.now c.loop-typed.typed-index c.typed-item.result (typed_view c.in-Some.first.now) c.args.ident.now c.in_ok-second_map.field-0 lt c.typed-item.is
    (sym c.is_map.ensures ∙ c.if-is_map.true) (c.loop-typed.invariant ∙ ap (λ o. map (λ f. typed_view f.now) (cons_option o [])) c.in-Some.is) c.in_ok-second_map.ensures)
