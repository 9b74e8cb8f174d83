use Rattle.std.proofs.Common.{◌≡◌, rules}
use Rattle.std.specs.Str.{chars}
use Rattle.lexing.specs.declared.piece.PieceKind.TheVariants as kinds
use Rattle.tokens.specs.declared.token.TokenKind.TheVariants.{Ident}
use Rattle.lexing.proofs.RawLaws.{none_after}
use Rattle.lexing.proofs.raw.unclosed_after.Goals as goal

pub returns-in-Some : goal.returns-in-Some
returns-in-Some c =
    let word : c.args.kind ≡ kinds.Token Ident = search rules in
    none_after (chars c.args.text.now) c.in-Some.count c.in-Some.ensures.0 (c.requires.found word) c.in-Some.ensures.1
