use Rattle.std.proofs.Common.{◌≡◌, ◌∙◌, ◌≤◌, ◌++◌, ℕ, List, length, take, min, ap, subst, arith, IfOk}
use Rattle.std.proofs.lemmas.List.{take_all, take_min}
use Rattle.std.specs.List.{flat_map}
use Rattle.telling.specs.Printable.{printable}
use Rattle.telling.specs.Told.{told_lines, more_line}
use Rattle.telling.specs.declared.told.Told.{Told}
use Rattle.telling.proofs.told.first_told.Goals as goal

told_all : (told : List Told) (text : List ℕ) (index count : ℕ) → text ≡ flat_map told_lines (take index (take count told)) → count ≡ min 100 (length told) → length (take count told) ≤ index
    → text ≡ flat_map told_lines (take 100 told)
told_all told text index count e least l =
    e ∙ ap (flat_map told_lines) (take_all index (take count told) l ∙ ap (λ n. take n told) least ∙ take_min 100 told)

pub returns : goal.returns
returns c =
    subst (λ v. IfOk c.printable.result (λ shown. shown ≡ printable v))
    (c.as_str-2.ensures ∙ c.in_ok-push_more.ensures
    ∙ ap (λ text. text ++ more_line c.args.count)
    (told_all c.args.told.now c.loop-one.text c.loop-one.one-index _ c.loop-one.invariant (omega (arith, c.min.ensures)) c.loop-one-test.false))
    c.printable.ensures
