-- Token trees in attributes: one token, and the bytes from the first tree to the last.
use Rattle.std.proofs.Common.{◌≡◌, ◌-◌, ◌≤◌, suc, List, [], ◌∷◌, Option, None, length, get_or, refl, ap, ◌∙◌, arith}
use Rattle.texts.specs.declared.span.Span.{Span}
use Rattle.tokens.specs.Trees.{tree_view, trees_view}
use Rattle.tokens.specs.declared.token.Token.{Token}
use Rattle.tokens.specs.declared.token.TokenTree.{TokenTree}
use Rattle.words.specs.Words.{cover}
use Rattle.type_tree.specs.Formats.{only_token, tree_span, last_span, trees_span}

pub many_are_no_token : (ts : List TokenTree) → 2 ≤ length ts → ◌≡◌ {A = Option Token} None (only_token (trees_view ts))
many_are_no_token [] h = absurd (omega arith)
many_are_no_token (t ∷ []) h = absurd (omega arith)
many_are_no_token (t ∷ u ∷ us) h = refl

last_at : (t : TokenTree) (ts : List TokenTree) (other : TokenTree) → tree_span (tree_view (get_or (t ∷ ts) (length ts) other)) ≡ last_span (tree_view t) (trees_view ts)
last_at t [] other = refl
last_at t (u ∷ us) other = last_at u us other

pub span_from_first_to_last : (ts : List TokenTree) (none : Span) (first last : TokenTree) → 2 ≤ length ts → first ≡ get_or ts 0 first → last ≡ get_or ts (length ts - 1) last → cover (tree_span (tree_view first)) (tree_span (tree_view last)) ≡ trees_span (trees_view ts) none
span_from_first_to_last [] none first last h f l = absurd (omega arith)
span_from_first_to_last (t ∷ []) none first last h f l = absurd (omega arith)
span_from_first_to_last (t ∷ u ∷ us) none first last h f l =
    let place : length (t ∷ u ∷ us) - 1 ≡ suc (length us) = omega arith in
    ap (λ x. cover (tree_span (tree_view x)) (tree_span (tree_view last))) f
    ∙ ap (λ x. cover (tree_span (tree_view t)) (tree_span (tree_view x))) (l ∙ ap (λ i. get_or (t ∷ u ∷ us) i last) place)
    ∙ ap (cover (tree_span (tree_view t))) (last_at u us last)
