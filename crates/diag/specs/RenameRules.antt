-- The rename rules, and their names (serde, "Container attributes", `rename_all`).
use Rattle.std.specs.Prelude.{◌≡◌, ◌≢◌, ℕ, List, Result, MatchResult, codes}
use Rattle.diag.specs.declared.rename_rule.RenameRule.{RenameRule}
use Rattle.diag.specs.declared.rename_rule.RenameRule.TheVariants.{Lower, Upper, Camel, Snake, ScreamingSnake, Pascal, Kebab, ScreamingKebab}
use Rattle.diag.specs.declared.rename_rule.UnknownRule.{UnknownRule}

abbrev pub name_of : RenameRule → List ℕ
name_of Lower = codes "lowercase"
name_of Upper = codes "UPPERCASE"
name_of Camel = codes "camelCase"
name_of Snake = codes "snake_case"
name_of ScreamingSnake = codes "SCREAMING_SNAKE_CASE"
name_of Pascal = codes "PascalCase"
name_of Kebab = codes "kebab-case"
name_of ScreamingKebab = codes "SCREAMING-KEBAB-CASE"

-- the text is the name of the rule that was read, or no rule has that name
abbrev pub IsRuleNamed : List ℕ → Result RenameRule UnknownRule → Type 0
IsRuleNamed text read = MatchResult read (λ rule. name_of rule ≡ text) (λ _. (rule : RenameRule) → name_of rule ≢ text)
