-- Nothing that is shown is a command.
use Rattle.std.proofs.Common.{◌≡◌, ◌∙◌, ◌++◌, ◌<◌, ◌-◌, ◌/◌, ◌%◌, ℕ, List, [], ◌∷◌, length, take, drop, zero, suc, cond, Bool, true, false, nat_le, nat_lt, refl, ap₂, sym, arith, chars}
use Rattle.std.proofs.lemmas.Grind.{common_steps}
use Rattle.std.proofs.lemmas.Str.{encodes-append}
use Rattle.std.specs.Char.{digit_char}
use Rattle.std.specs.Char.Escape.{escape_unicode, hex_digit_at}
use Rattle.telling.specs.Printable.{is_command, AreNoCommands, shown, is_of_name, shown_name, shown_behind, PrintableCommandsNothing, BothCommandNothing}

-- a character of a name is none
of_name : (c : ℕ) → is_of_name c ≡ true → is_command c ≡ false
of_name c is = grind (arith, common_steps, is)

digit : (d : ℕ) → d < 16 → is_command (digit_char d) ≡ false
digit d less = grind (arith, common_steps, less)

hex_digit : (place c : ℕ) → is_command (hex_digit_at place c) ≡ false
hex_digit place c = digit (c / place % 16) (omega arith)

-- one of two lists
one_of : (b : Bool) (xs ys : List ℕ) → AreNoCommands xs → AreNoCommands ys → AreNoCommands (cond b xs ys)
one_of true xs ys front back = front
one_of false xs ys front back = back

escape : (c : ℕ) → AreNoCommands (escape_unicode c)
escape c =
    one_of (nat_lt c 0x10) _ _ (refl, (refl, (refl, (hex_digit 1 c, (refl, tt)))))
    (one_of (nat_lt c 0x100) _ _ (refl, (refl, (refl, (hex_digit 0x10 c, (hex_digit 1 c, (refl, tt))))))
    (one_of (nat_lt c 0x1000) _ _ (refl, (refl, (refl, (hex_digit 0x100 c, (hex_digit 0x10 c, (hex_digit 1 c, (refl, tt)))))))
    (one_of (nat_lt c 0x1_0000) _ _ (refl, (refl, (refl, (hex_digit 0x1000 c, (hex_digit 0x100 c, (hex_digit 0x10 c, (hex_digit 1 c, (refl, tt))))))))
    (one_of (nat_lt c 0x10_0000) _ _ (refl, (refl, (refl, (hex_digit 0x1_0000 c, (hex_digit 0x1000 c, (hex_digit 0x100 c, (hex_digit 0x10 c, (hex_digit 1 c, (refl, tt)))))))))
    (refl, (refl, (refl, (hex_digit 0x10_0000 c, (hex_digit 0x1_0000 c, (hex_digit 0x1000 c, (hex_digit 0x100 c, (hex_digit 0x10 c, (hex_digit 1 c, (refl, tt))))))))))))))

shown_none : (c : ℕ) → AreNoCommands (shown c)
shown_none c = by (is_command c) refl
  where
    by : (b : Bool) → is_command c ≡ b → AreNoCommands (cond b (escape_unicode c) (c ∷ []))
    by true e = escape c
    by false e = (e, tt)

joined : (xs ys : List ℕ) → AreNoCommands xs → AreNoCommands ys → AreNoCommands (xs ++ ys)
joined [] ys front back = back
joined (x ∷ xs) ys front back = (front.0, joined xs ys front.1 back)

first : (n : ℕ) (xs : List ℕ) → AreNoCommands xs → AreNoCommands (take n xs)
first zero xs none = tt
first (suc n) [] none = tt
first (suc n) (x ∷ xs) none = (none.0, first n xs none.1)

last : (n : ℕ) (xs : List ℕ) → AreNoCommands xs → AreNoCommands (drop n xs)
last zero xs none = none
last (suc n) [] none = tt
last (suc n) (x ∷ xs) none = last n xs none.1

name_none : (name : List ℕ) → AreNoCommands name → AreNoCommands (shown_name name)
name_none name none =
    one_of (nat_le (length name) 200) _ _ none
    (joined (take 100 name) _ (first 100 name none) (refl, last (length name - 100) name none))

behind_none : (name cs : List ℕ) → AreNoCommands name → AreNoCommands (shown_behind name cs)
behind_none name [] none = name_none name none
behind_none name (c ∷ cs) none = by (is_of_name c) refl (behind_none (name ++ c ∷ []) cs) (behind_none [] cs tt)
  where
    by : (b : Bool) → is_of_name c ≡ b → (AreNoCommands (name ++ c ∷ []) → AreNoCommands (shown_behind (name ++ c ∷ []) cs)) → AreNoCommands (shown_behind [] cs)
        → AreNoCommands (cond b (shown_behind (name ++ c ∷ []) cs) (shown_name name ++ (shown c ++ shown_behind [] cs)))
    by true e on others = on (joined name (c ∷ []) none (of_name c e, tt))
    by false e on others = joined (shown_name name) _ (name_none name none) (joined (shown c) _ (shown_none c) others)

pub printable_commands_nothing : PrintableCommandsNothing
printable_commands_nothing text = (shown_behind [] (chars text), behind_none [] (chars text) tt, refl)

pub both_command_nothing : BothCommandNothing
both_command_nothing front back (cs, none, is) (ds, no_others, as_well) =
    (cs ++ ds, joined cs ds none no_others, ap₂ (λ (a b : List ℕ). a ++ b) is as_well ∙ sym (encodes-append cs ds))
