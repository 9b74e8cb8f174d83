use Rattle.std.proofs.Common.{◌≡◌, ◌∙◌, ◌<◌, ◌+◌, ◌++◌, [], ◌∷◌, length, map, take, ap, sym, subst, append-nil, arith, inl, inr}
use Rattle.std.proofs.lemmas.Grind.{common_steps}
use Rattle.std.proofs.lemmas.Result.{err_from_is_err_and}
use Rattle.diag.specs.Refusal.{RefusesNone}
use Rattle.syntax.specs.Items.{declaration_view}
use Rattle.serde_names.specs.Asked.{asked_of, asked_of_item}
use Rattle.renaming.specs.Refusals.{IsRefusedItem, AreRefusedItems}
use Rattle.renaming.proofs.Walks.{map_more, somewhere_at, flat_map-more, nowhere_more, nowhere_one}
use Rattle.renaming.proofs.ask.names_among.Goals as goal

pub returns-in_err-push_declaration-clause-refused : goal.returns-in_err-push_declaration-clause-refused
returns-in_err-push_declaration-clause-refused c =
    let p = err_from_is_err_and c.from_residual.result c.from_residual.ensures.1 in
    let lt : c.loop-declaration.declaration-index < length c.args.declarations.now = omega arith in
    rw (p.1, p.2)
    (elim c.in_err-push_declaration.ensures.refused [
      | inl memory ↦ inl memory
      | inr fault ↦ inr (somewhere_at declaration_view (λ d. IsRefusedItem d c.in_err-push_declaration.field-0.0) c.args.declarations.now c.loop-declaration.declaration-index c.declaration-item.result lt c.declaration-item.is fault)
    ])

pub loop-declaration-preserved : goal.loop-declaration-preserved
loop-declaration-preserved c =
    let declarations = c.args.declarations.now in
    let at = c.loop-declaration.declaration-index in
    let declaration = c.declaration-item.result in
    let lt : at < length declarations = omega arith in
    let whole = map declaration_view (take (at + 1) declarations) in
    let before = map declaration_view (take at declarations) in
    let one = declaration_view declaration ∷ [] in
    let same : whole ≡ before ++ one = map_more declaration_view declarations at declaration lt c.declaration-item.is in
    record {
      names = flat_map-more asked_of_item whole before one [] c.push_declaration.new.names same
          (c.in_ok-push_declaration.ensures.names ∙ ap (λ ns. ns ++ asked_of_item (declaration_view declaration)) c.loop-declaration.invariant.names
          ∙ ap (λ ns. asked_of before ++ ns) (sym (append-nil (asked_of_item (declaration_view declaration)))));
      faultless = nowhere_more (λ d e. IsRefusedItem d e) whole before one same c.loop-declaration.invariant.faultless
          (nowhere_one (λ d e. IsRefusedItem d e) (declaration_view declaration) c.in_ok-push_declaration.ensures.faultless);
    }

pub returns-clause-faultless : goal.returns-clause-faultless
returns-clause-faultless c =
    let whole : take c.loop-declaration.declaration-index c.args.declarations.now ≡ c.args.declarations.now = grind (arith, common_steps) in
    subst (λ ds. RefusesNone (AreRefusedItems (map declaration_view ds))) whole c.loop-declaration.invariant.faultless
