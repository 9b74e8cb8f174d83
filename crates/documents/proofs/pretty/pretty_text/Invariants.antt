use Rattle.std.proofs.Common.{◌≡◌, ◌++◌, length}
use Rattle.json.specs.Lex.{tokens}
use Rattle.documents.proofs.pretty.pretty_text.Given as goal

-- what is written and what is left are the tokens of the text
abbrev pub invariant-tokens : goal.invariant-tokens
invariant-tokens l = l.out ++ l.reader ≡ tokens l.text

abbrev pub decreases-tokens : goal.decreases-tokens
decreases-tokens l = length l.reader
