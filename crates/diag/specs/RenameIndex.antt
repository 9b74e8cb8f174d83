-- Where the first row for a rule, a place and a text stands.
use Rattle.std.specs.Prelude.{◌≡◌, ℕ, suc, ◌+◌, List, [], ◌∷◌, Bool, cond, Option, Some, None, option_map, get_or, set, replicate, length, IfSome}
use Rattle.diag.specs.declared.rename_rule.RenameRule.{RenameRule}
use Rattle.diag.specs.declared.rename_rule.RenameRule.TheVariants.{Lower, Upper, Camel, Snake, ScreamingSnake, Pascal, Kebab, ScreamingKebab}
use Rattle.diag.specs.declared.rename_row.RenamePlace.{RenamePlace}
use Rattle.diag.specs.declared.rename_row.RenamePlace.TheVariants.{Field, Variant}
use Rattle.diag.specs.declared.rename_row.RenameRow.{RenameRow}
use Rattle.diag.specs.RenameRows.{is_for}

abbrev pub rule_number : RenameRule → ℕ
rule_number Lower = 0
rule_number Upper = 1
rule_number Camel = 2
rule_number Snake = 3
rule_number ScreamingSnake = 4
rule_number Pascal = 5
rule_number Kebab = 6
rule_number ScreamingKebab = 7

-- each rule has a slot for fields and one for variants, sixteen in all
abbrev pub slot_of : RenameRule → RenamePlace → ℕ
slot_of rule Field = rule_number rule
slot_of rule Variant = 8 + rule_number rule

-- the place of the first row that passes
abbrev pub place_in : (RenameRow → Bool) → List RenameRow → Option ℕ
place_in p [] = None
place_in p (row ∷ rows) = cond (p row) (Some 0) (option_map suc (place_in p rows))

-- the slots of a text, all free where it has none yet
abbrev pub slots_of : Option (List (Option ℕ)) → List (Option ℕ)
slots_of None = replicate 16 None
slots_of (Some slots) = slots

-- what stands in a slot of a text
abbrev pub in_slot : ℕ → Option (List (Option ℕ)) → Option ℕ
in_slot slot None = None
in_slot slot (Some slots) = get_or slots slot None

-- a place is put into a slot that is free
abbrev pub put_place : Option ℕ → ℕ → ℕ → List (Option ℕ) → List (Option ℕ)
put_place None slot at slots = set slots slot (Some at)
put_place (Some taken) slot at slots = slots

-- the slots of each text have the places of its first rows
pub record IsIndex (look : List ℕ → Option (List (Option ℕ))) (rows : List RenameRow) : Type 0 where
  pub sizes : (value : List ℕ) → IfSome (look value) (λ slots. length slots ≡ 16)
  pub places : (rule : RenameRule) (place : RenamePlace) (value : List ℕ) → in_slot (slot_of rule place) (look value) ≡ place_in (is_for rule place value) rows
