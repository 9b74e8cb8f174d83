use Rattle.std.proofs.Common.{sym, ◌∙◌, arith}
use Rattle.words.proofs.Reserved.{reserved_outside, reserved_at_2, reserved_at_3, reserved_at_4, reserved_at_5, reserved_at_6, reserved_at_7, reserved_at_8}
use Rattle.words.proofs.keywords.is_reserved_of_length.Goals as goal

pub returns-in-2 : goal.returns-in-2
returns-in-2 c = c.is_reserved_of_2.ensures ∙ reserved_at_2 c.args.text.now c.in-2.is

pub returns-in-3 : goal.returns-in-3
returns-in-3 c = c.is_reserved_of_3.ensures ∙ reserved_at_3 c.args.text.now c.in-3.is

pub returns-in-4 : goal.returns-in-4
returns-in-4 c = c.is_reserved_of_4.ensures ∙ reserved_at_4 c.args.text.now c.in-4.is

pub returns-in-5 : goal.returns-in-5
returns-in-5 c = c.is_reserved_of_5.ensures ∙ reserved_at_5 c.args.text.now c.in-5.is

pub returns-in-6 : goal.returns-in-6
returns-in-6 c = c.is_reserved_of_6.ensures ∙ reserved_at_6 c.args.text.now c.in-6.is

pub returns-in-7 : goal.returns-in-7
returns-in-7 c = c.is_reserved_of_7.ensures ∙ reserved_at_7 c.args.text.now c.in-7.is

pub returns-in-8 : goal.returns-in-8
returns-in-8 c = c.is_reserved_of_8.ensures ∙ reserved_at_8 c.args.text.now c.in-8.is

pub returns-in_default : goal.returns-in_default
returns-in_default c = sym (reserved_outside c.args.text.now (λ low high. omega arith))
