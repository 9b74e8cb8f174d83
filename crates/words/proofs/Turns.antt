-- Readers of lists by the branches of their code.
use Rattle.std.proofs.Common.{◌≡◌, ◌<◌, suc, List, [], ◌∷◌, length, refl, ap, arith, Ok}
use Rattle.tokens.specs.declared.token.TokenTree.{TokenTree}
use Rattle.words.specs.declared.vocabulary.Sign.TheVariants.{Comma}
use Rattle.words.specs.Words.{words_view}
use Rattle.words.specs.Reading.{◌>>=◌, sign_at}
use Rattle.words.specs.Lists.{after_comma}

pub comma_follows : (ts : List TokenTree) → 0 < length ts → after_comma (words_view ts) ≡ (sign_at Comma (words_view ts) >>= λ p. Ok p.1)
comma_follows [] h = absurd (omega arith)
comma_follows (t ∷ ts) h = refl

pub length_view : (ts : List TokenTree) → length (words_view ts) ≡ length ts
length_view [] = refl
length_view (t ∷ ts) = ap suc (length_view ts)
