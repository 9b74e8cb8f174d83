-- What items span, over the trees.
use Rattle.std.proofs.Common.{◌≡◌, ◌∙◌, ◌<◌, ◌-◌, ℕ, zero, suc, List, [], ◌∷◌, length, refl, ap, ap₂, sym, arith, get_or}
use Rattle.tokens.specs.declared.token.TokenTree.{TokenTree}
use Rattle.tokens.specs.Trees.{tree_view}
use Rattle.words.specs.Words.{Word, words_view, word_of, span_of, cover}
use Rattle.words.proofs.Laws.{length_view}
use Rattle.syntax.specs.ItemWords.{spanning}

word_at : (ts : List TokenTree) (i : ℕ) (d : TokenTree) (w : Word) → i < length ts → get_or (words_view ts) i w ≡ word_of (tree_view (get_or ts i d))
word_at [] i d w h = absurd (omega arith)
word_at (t ∷ ts) zero d w h = refl
word_at (t ∷ ts) (suc i) d w h = word_at ts i d w (omega arith)

pub spanning_is : (ts rest : List TokenTree) (c d : TokenTree) → length rest < length ts
    → cover (span_of (word_of (tree_view (get_or ts 0 c)))) (span_of (word_of (tree_view (get_or ts (length ts - length rest - 1) d)))) ≡ spanning (words_view ts) (words_view rest)
unfolding spanning
spanning_is [] rest c d h = absurd (omega arith)
spanning_is (t ∷ ts) rest c d h =
    ap (λ w. cover (span_of (word_of (tree_view t))) (span_of w))
    (sym (word_at (t ∷ ts) (length (t ∷ ts) - length rest - 1) d (word_of (tree_view t)) (omega arith))
    ∙ ap (λ i. get_or (words_view (t ∷ ts)) i (word_of (tree_view t))) (ap₂ (λ n m. n - m - 1) (sym (length_view (t ∷ ts))) (sym (length_view rest))))
