-- What stands before the first comma, and from it on.
use Rattle.std.proofs.Common.{◌≡◌, ◌∙◌, ◌+◌, ◌-◌, ◌≤◌, ℕ, zero, suc, List, [], ◌∷◌, ◌++◌, length, take, refl, ap, sym, arith, Bool, true, false, cond}
use Rattle.std.proofs.lemmas.List.{take_at, length-append}
use Rattle.tokens.specs.declared.token.TokenTree.{TokenTree}
use Rattle.tokens.specs.Trees.{tree_view}
use Rattle.words.specs.Words.{Word, words_view, word_of}
use Rattle.words.proofs.Laws.{length_view}
use Rattle.syntax.specs.ItemWords.{is_comma, before_comma, from_comma}

parts_from : (b : Bool) (w : Word) (ws before from : List Word) → before ++ from ≡ ws → cond b [] (w ∷ before) ++ cond b (w ∷ ws) from ≡ w ∷ ws
parts_from true w ws before from e = refl
parts_from false w ws before from e = ap (λ v. w ∷ v) e

parts : (ws : List Word) → before_comma ws ++ from_comma ws ≡ ws
parts [] = refl
parts (w ∷ ws) = parts_from (is_comma w) w ws (before_comma ws) (from_comma ws) (parts ws)

lengths : (ws : List Word) → length (before_comma ws) + length (from_comma ws) ≡ length ws
lengths ws = sym (length-append (before_comma ws) (from_comma ws)) ∙ ap length (parts ws)

pub from_comma_no_longer : (ws : List Word) → length (from_comma ws) ≤ length ws
from_comma_no_longer ws = omega (arith, lengths ws)

take_view : (n : ℕ) (ts : List TokenTree) → words_view (take n ts) ≡ take n (words_view ts)
take_view zero ts = refl
take_view (suc n) [] = refl
take_view (suc n) (t ∷ ts) = ap (λ v. word_of (tree_view t) ∷ v) (take_view n ts)

-- the trees before those from the first comma on
pub before_is : (ts rest : List TokenTree) → words_view rest ≡ from_comma (words_view ts) → words_view (take (length ts - length rest) ts) ≡ before_comma (words_view ts)
before_is ts rest e =
    let ws = words_view ts in
    let n : length (before_comma ws) ≡ length ts - length rest = omega (arith, lengths ws, length_view ts, length_view rest, ap length e) in
    take_view (length ts - length rest) ts ∙ ap (take (length ts - length rest)) (sym (parts ws)) ∙ take_at (before_comma ws) (from_comma ws) (length ts - length rest) n
