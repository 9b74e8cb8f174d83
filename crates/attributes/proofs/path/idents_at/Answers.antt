use Rattle.std.proofs.Common.{arith}
use Rattle.words.specs.Words.{words_view, ident_of}
use Rattle.attributes.proofs.Idents.{idents_turn}
use Rattle.attributes.proofs.path.idents_at.Goals as goal

pub idents-preserved : goal.idents-preserved
idents-preserved c =
    rw (c.in_ok-push-2.ensures.ok, c.in_ok-ident_of-2.ensures) (
      idents_turn (words_view c.args.trees.now) c.idents.idents (words_view c.idents.rest.now) c.idents.invariant.0 (c.in-Some.field-0-0, words_view c.in-Some.after.now) (ident_of c.in_ok-token.token.now, words_view c.in_ok-token.after.now)
          c.in-Some.ensures.value c.in_ok-token.ensures.value,
      omega (arith, c.idents.invariant.1, c.in-Some.ensures.shorter, c.in_ok-token.ensures.shorter),
    )
