use Rattle.std.proofs.Common.{◌≡◌, ◌++◌, sym, ap, ◌∙◌}
use Rattle.std.proofs.lemmas.Str.{chars-nil}
use Rattle.std.proofs.lemmas.List.{nil_from_length}
use Rattle.std.specs.Str.{chars}
use Rattle.std.specs.Prelude.{encode_utf8}
use Rattle.telling.proofs.Fronts.{last_char}
use Rattle.telling.proofs.part.split_last_char.Goals as goal

pub returns-in-Some : goal.returns-in-Some
returns-in-Some c =
    let last = c.in-Some.c in
    let before = c.as_str.result.now in
    let parts : c.args.text.now ≡ before ++ encode_utf8 last =
    sym c.chars-chars.ensures.rest ∙ c.in-Some.ensures.steps ∙ ap (λ t. t ++ encode_utf8 last) (sym c.as_str.ensures) in
    (last_char c.args.text.now before last c.utf8.text c.as_str.utf8 parts, c.as_str.utf8)

pub returns-in-None : goal.returns-in-None
returns-in-None c =
    let empty = sym c.chars-chars.ensures.rest ∙ nil_from_length _ c.in-None.ensures.steps.0 in
    ap chars empty ∙ chars-nil
