-- What a report shows of a text: no character that commands a terminal, and of a long name the ends alone.
use Rattle.std.specs.Prelude.{◌≡◌, ℕ, ◌-◌, List, [], ◌∷◌, ◌++◌, length, take, drop, cond, not, Bool, false, ◌&&◌, ◌||◌, ◌==◌, nat_le, chars, encode_utf8_all}
use Rattle.std.specs.Int.{is_in_range}
use Rattle.std.specs.Char.{is_ascii_alphanumeric}
use Rattle.std.specs.Char.Escape.{escape_unicode}
use Rattle.std.specs.List.{flat_map, AllByRecursion}

-- control characters but a tab and a line feed, and those that turn the direction of text
abbrev pub is_command : ℕ → Bool
is_command c =
    is_in_range 0 8 c || is_in_range 11 31 c || is_in_range 127 159 c
    || is_in_range 0x202A 0x202E c || is_in_range 0x2066 0x2069 c

-- such a character is shown as Rust escapes it, as `\u{1b}`, and any other as it is
abbrev pub shown : ℕ → List ℕ
shown c = cond (is_command c) (escape_unicode c) (c ∷ [])

abbrev pub escaped : List ℕ → List ℕ
escaped cs = encode_utf8_all (flat_map shown cs)

-- a letter, a digit or `_` of ASCII, or another character beyond ASCII: of these names are made
abbrev pub is_of_name : ℕ → Bool
is_of_name c = is_ascii_alphanumeric c || (c == 95) || (nat_le 128 c && not (is_command c))

-- of more than 200 characters of a name the first hundred and the last hundred are shown, and `…` between them
abbrev pub shown_name : List ℕ → List ℕ
shown_name name =
    cond (nat_le (length name) 200) name (take 100 name ++ (0x2026 ∷ drop (length name - 100) name))

-- what is shown of the characters that follow those of a name
abbrev pub shown_behind : (name cs : List ℕ) → List ℕ
shown_behind name [] = shown_name name
shown_behind name (c ∷ cs) =
    cond (is_of_name c) (shown_behind (name ++ c ∷ []) cs) (shown_name name ++ (shown c ++ shown_behind [] cs))

-- what is shown of a text
abbrev pub printable : List ℕ → List ℕ
printable text = encode_utf8_all (shown_behind [] (chars text))

-- ---- what is shown commands nothing

abbrev pub AreNoCommands : List ℕ → Type 0
AreNoCommands cs = AllByRecursion (λ c. is_command c ≡ false) cs

-- the text is of such characters
abbrev pub CommandsNothing : List ℕ → Type 0
CommandsNothing text = (cs : List ℕ) × AreNoCommands cs × (text ≡ encode_utf8_all cs)

-- The laws: what is shown of a text commands nothing, and neither do two such texts, one behind the other.
abbrev pub PrintableCommandsNothing : Type 0
PrintableCommandsNothing = (text : List ℕ) → CommandsNothing (printable text)

abbrev pub BothCommandNothing : Type 0
BothCommandNothing = (front back : List ℕ) → CommandsNothing front → CommandsNothing back → CommandsNothing (front ++ back)
