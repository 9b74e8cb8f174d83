-- Groups of the program, and lists of trees.
use Rattle.std.proofs.Common.{◌≡◌, ◌∙◌, ◌-◌, List, [], ◌∷◌, ◌++◌, length, map, take, refl, ap, ap₂, sym}
use Rattle.std.proofs.lemmas.List.{take-map, length-map}
use Rattle.tokens.specs.declared.token.Group.{Group}
use Rattle.tokens.specs.declared.token.TokenTree.{TokenTree}
use Rattle.tokens.specs.declared.token.TokenTree.TheVariants as tree
use Rattle.tokens.specs.Trees.{Tree, trees_of, tree_view, trees_view}
use Rattle.words.specs.Words.{word_of, words_of, words_view}
use Rattle.words.specs.Visibility.{is_restriction}
use Rattle.lexing.proofs.Laws.{view_group}
use Rattle.prepare.specs.Trees.{listed, inside, before, but_last}
use Rattle.prepare.specs.Names.{names_in, names_of, all_names}

pub listed_same : (ts : List Tree) → listed (trees_of ts) ≡ ts
listed_same [] = refl
listed_same (t ∷ ts) = ap (λ v. t ∷ v) (listed_same ts)

pub inside_group : (g : Group) → map tree_view g.trees ≡ inside (tree_view (tree.Group g))
inside_group g = sym (ap inside (view_group g) ∙ listed_same (map tree_view g.trees))

names_listed : (ts : List Tree) → names_of (trees_of ts) ≡ all_names ts
names_listed [] = refl
names_listed (t ∷ ts) = ap (λ v. names_in t ++ v) (names_listed ts)

pub names_group : (g : Group) → all_names (map tree_view g.trees) ≡ names_in (tree_view (tree.Group g))
names_group g = sym (ap names_in (view_group g) ∙ names_listed (map tree_view g.trees))

pub names_view : (ts : List TokenTree) → all_names (map tree_view ts) ≡ names_of (trees_view ts)
names_view ts = sym (names_listed (map tree_view ts))

pub before_view : (ts rest : List TokenTree) → map tree_view (take (length ts - length rest) ts) ≡ before (map tree_view ts) (map tree_view rest)
before_view ts rest =
    sym (take-map tree_view (length ts - length rest) ts) ∙ ap₂ (λ n m. take (n - m) (map tree_view ts)) (sym (length-map ts tree_view)) (sym (length-map rest tree_view))

pub but_last_view : (ts : List TokenTree) → map tree_view (take (length ts - 1) ts) ≡ but_last (map tree_view ts)
but_last_view ts = sym (take-map tree_view (length ts - 1) ts) ∙ ap (λ n. take (n - 1) (map tree_view ts)) (sym (length-map ts tree_view))

words_listed : (ts : List Tree) → words_of (trees_of ts) ≡ map word_of ts
words_listed [] = refl
words_listed (t ∷ ts) = ap (λ v. word_of t ∷ v) (words_listed ts)

pub restriction_view : (ts : List TokenTree) → is_restriction (words_view ts) ≡ is_restriction (map word_of (map tree_view ts))
restriction_view ts = ap is_restriction (words_listed (map tree_view ts))
