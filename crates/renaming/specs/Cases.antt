-- What names become by serde's rules (serde_derive 1.0.152, internals/case.rs), over the characters of a name.
use Rattle.std.specs.Prelude.{ℕ, List, [], ◌∷◌, map, Bool, true, false, cond, ◌==◌, nat_lt, Option, Some, None, option_map, chars, encode_utf8_all}
use Rattle.std.specs.List.{flat_map}
use Rattle.std.specs.Char.{to_ascii_lowercase, to_ascii_uppercase}
use Rattle.std.specs.Char.Unicode.Uppercase.{is_uppercase}
use Rattle.diag.specs.declared.rename_rule.RenameRule.{RenameRule}
use Rattle.diag.specs.declared.rename_rule.RenameRule.TheVariants.{Lower, Upper, Camel, Snake, ScreamingSnake, Pascal, Kebab, ScreamingKebab}
use Rattle.diag.specs.declared.rename_row.RenamePlace.{RenamePlace}
use Rattle.diag.specs.declared.rename_row.RenamePlace.TheVariants.{Field, Variant}

-- ---- characters

-- ASCII letters change their case, and no others
abbrev pub in_lowercase : List ℕ → List ℕ
in_lowercase cs = map to_ascii_lowercase cs

abbrev pub in_uppercase : List ℕ → List ℕ
in_uppercase cs = map to_ascii_uppercase cs

-- a hyphen for each underscore
abbrev pub hyphen_for : ℕ → ℕ
hyphen_for c = cond (c == 95) 45 c

abbrev pub with_hyphens : List ℕ → List ℕ
with_hyphens cs = map hyphen_for cs

-- The first character in lower case. serde cuts it off as one byte: it has no answer where there is none, or one of several bytes.
abbrev pub first_in_lowercase : List ℕ → Option (List ℕ)
first_in_lowercase [] = None
first_in_lowercase (c ∷ cs) = cond (nat_lt c 128) (Some (to_ascii_lowercase c ∷ cs)) None

-- ---- the words of fields, which underscores part

-- a character, of a word that begins with it or does not
abbrev pub of_word : Bool → ℕ → ℕ
of_word true c = to_ascii_uppercase c
of_word false c = c

-- the words without their underscores, the first character of each in upper case; a word begins here, or does not
abbrev pub joined_words : Bool → List ℕ → List ℕ
joined_words begins [] = []
joined_words begins (c ∷ cs) = cond (c == 95) (joined_words true cs) (of_word begins c ∷ joined_words false cs)

-- ---- the words of variants, which begin with capitals

-- a character in lower case, behind an underscore if it is a capital
abbrev pub parted : ℕ → List ℕ
parted c = cond (is_uppercase c) (95 ∷ to_ascii_lowercase c ∷ []) (to_ascii_lowercase c ∷ [])

-- before the first character no underscore is put
abbrev pub in_snake_case : List ℕ → List ℕ
in_snake_case [] = []
in_snake_case (c ∷ cs) = to_ascii_lowercase c ∷ flat_map parted cs

-- ---- the rules

abbrev pub field_by : RenameRule → List ℕ → Option (List ℕ)
field_by Lower cs = Some cs
field_by Upper cs = Some (in_uppercase cs)
field_by Pascal cs = Some (joined_words true cs)
field_by Camel cs = first_in_lowercase (joined_words true cs)
field_by Snake cs = Some cs
field_by ScreamingSnake cs = Some (in_uppercase cs)
field_by Kebab cs = Some (with_hyphens cs)
field_by ScreamingKebab cs = Some (with_hyphens (in_uppercase cs))

abbrev pub variant_by : RenameRule → List ℕ → Option (List ℕ)
variant_by Lower cs = Some (in_lowercase cs)
variant_by Upper cs = Some (in_uppercase cs)
variant_by Pascal cs = Some cs
variant_by Camel cs = first_in_lowercase cs
variant_by Snake cs = Some (in_snake_case cs)
variant_by ScreamingSnake cs = Some (in_uppercase (in_snake_case cs))
variant_by Kebab cs = Some (with_hyphens (in_snake_case cs))
variant_by ScreamingKebab cs = Some (with_hyphens (in_uppercase (in_snake_case cs)))

abbrev pub characters_by : RenameRule → RenamePlace → List ℕ → Option (List ℕ)
characters_by rule Field cs = field_by rule cs
characters_by rule Variant cs = variant_by rule cs

-- what serde makes of a name by a rule; none where its derive does not compile
unfoldable pub renamed : RenameRule → RenamePlace → List ℕ → Option (List ℕ)
renamed rule place name = option_map encode_utf8_all (characters_by rule place (chars name))
