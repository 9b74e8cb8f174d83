use Rattle.std.proofs.Common.{◌∙◌, ◌++◌, [], ◌∷◌, take, ap, sym, encode_utf8_all}
use Rattle.std.proofs.lemmas.List.{take_more}
use Rattle.telling.specs.Printable.{shown, escaped}
use Rattle.telling.proofs.Printed.{one_more}
use Rattle.telling.proofs.printing.escaped.Goals as goal

pub loop-c-preserved : goal.loop-c-preserved
loop-c-preserved c =
    let cs = c.args.characters.now in
    let i = c.loop-c.c-index in
    let x = c.c-item.result in
    c.in_ok-push_shown.ensures ∙ ap (λ v. v ++ encode_utf8_all (shown x)) c.loop-c.invariant
    ∙ one_more (take i cs) x
    ∙ ap escaped (ap (λ y. take i cs ++ y ∷ []) c.c-item.is ∙ sym (take_more cs i x c.loop-c-test.true))
