use Rattle.std.proofs.Common.{◌≡◌, ◌%◌, ℕ, zero, suc, string_bytes, refl, ap}
use Rattle.std.proofs.lemmas.Result.{IfOk-weaker}
use Rattle.samples.specs.Rings.{turn_by, tagged_enum, turn, name}
use Rattle.samples.specs.Samples.{declaration_text, type_text}
use Rattle.samples.proofs.source.declaration_of.Goals as goal

third_turn : (r : ℕ) → ¬ (r ≡ 0) → ¬ (r ≡ 1) → turn_by r ≡ tagged_enum
third_turn zero first second = absurd (first refl)
third_turn (suc zero) first second = absurd (second refl)
third_turn (suc (suc r)) first second = refl

pub returns-in-0 : goal.returns-in-0
returns-in-0 c =
    let name_is : string_bytes c.in_ok-name.name ≡ name c.args.number = c.in_ok-name.ensures in
    let type_is : string_bytes c.in_ok-ty.ty ≡ type_text c.args.next = c.in_ok-ty.ensures in
    IfOk-weaker c.format.result _ (λ text. string_bytes text ≡ declaration_text (turn c.args.number) (name c.args.number) (type_text c.args.next))
    (λ text e. rw (← name_is, ← type_is, ap turn_by c.in-0.is) e) c.format.ensures.ok

pub returns-in-1 : goal.returns-in-1
returns-in-1 c =
    let name_is : string_bytes c.in_ok-name.name ≡ name c.args.number = c.in_ok-name.ensures in
    let type_is : string_bytes c.in_ok-ty.ty ≡ type_text c.args.next = c.in_ok-ty.ensures in
    IfOk-weaker c.format-in-1.result _ (λ text. string_bytes text ≡ declaration_text (turn c.args.number) (name c.args.number) (type_text c.args.next))
    (λ text e. rw (← name_is, ← type_is, ap turn_by c.in-1.is) e) c.format-in-1.ensures.ok

pub returns : goal.returns
returns c =
    let name_is : string_bytes c.in_ok-name.name ≡ name c.args.number = c.in_ok-name.ensures in
    let type_is : string_bytes c.in_ok-ty.ty ≡ type_text c.args.next = c.in_ok-ty.ensures in
    let no_first : ¬ (c.args.number % 3 ≡ 0) = search in
    let no_second : ¬ (c.args.number % 3 ≡ 1) = search in
    let third : turn c.args.number ≡ tagged_enum = third_turn _ no_first no_second in
    IfOk-weaker c.format-in_default.result _ (λ text. string_bytes text ≡ declaration_text (turn c.args.number) (name c.args.number) (type_text c.args.next))
    (λ text e. rw (← name_is, ← type_is, third) e) c.format-in_default.ensures.ok
