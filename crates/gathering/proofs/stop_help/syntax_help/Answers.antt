use Rattle.std.proofs.Common.{ℕ, List, Some, sym, subst}
use Rattle.lexing.specs.Open.{IsOpenBracket}
use Rattle.gathering.specs.Stops.{IsSyntaxHelp, of_bracket}
use Rattle.gathering.proofs.stop_help.syntax_help.Goals as goal

pub returns-in_ok-open_help-in-Some : goal.returns-in_ok-open_help-in-Some
returns-in_ok-open_help-in-Some c =
    let found = subst (IsOpenBracket c.args.text.now) c.in-Some.is c.in_ok-bracket.ensures in
    subst (λ (t : List ℕ). IsSyntaxHelp c.args.name.now c.args.text.now (Some t)) (sym c.in_ok-open_help-in-Some.ensures) (of_bracket {bracket = c.in-Some.bracket} found)

pub returns-in-None : goal.returns-in-None
returns-in-None c = c.item_help.ensures (subst (IsOpenBracket c.args.text.now) c.in-None.is c.in_ok-bracket.ensures) c.args.name.now
