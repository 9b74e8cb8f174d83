use Rattle.std.proofs.Common.{◌≡◌, ◌++◌, List, length}
use Rattle.json.specs.Lex.{tokens}
use Rattle.json.specs.Token.{Token}
use Rattle.documents.proofs.object_text.write_text.Given as goal

-- what is written and what is left are the tokens of the text
abbrev pub invariant-tokens : goal.invariant-tokens
invariant-tokens l =
    (l.out.before ≡ l.fn.out.before)
    × ((done : List Token) × (l.out.tokens ≡ l.fn.out.tokens ++ done) × (done ++ l.reader ≡ tokens l.text))

abbrev pub decreases-tokens : goal.decreases-tokens
decreases-tokens l = length l.reader
