-- Token trees are equal exactly where they are the same without their spans.
use Rattle.std.proofs.Common.{◌≡◌, Bool, refl, false, ap, sym, ◌∙◌, List, [], ◌∷◌, map, ◌&&◌, subst, rules}
use Rattle.std.specs.Bool.{Decides}
use Rattle.std.specs.List.{AllByRecursion}
use Rattle.std.specs.Cmp.Lexicographic.{pointwise}
use Rattle.std.proofs.lemmas.Bool.Decides.{Decides-and, Decides-at, Decides-like}
use Rattle.std.proofs.lemmas.Slice.Eq.{bytes_eq-Decides}
use denote.Enum.Bare.{same_true, true_same}
use Rattle.tokens.specs.declared.token.Bracket.{Bracket}
use Rattle.tokens.specs.declared.token.TokenKind.{TokenKind}
use Rattle.tokens.specs.declared.token.Token as tokens
use Rattle.tokens.specs.declared.token.Group as groups
use Rattle.tokens.specs.declared.token.TokenTree.{TokenTree, the_lemmas}
use Rattle.tokens.specs.declared.token.TokenTree.TheFolds.{ind-TokenTree, fold_out-TokenTree, map-TokenTree, map-Group}
use Rattle.tokens.specs.declared.token.TokenTree.TheOpen.{TokenTree-F, Group-F}
use Rattle.tokens.specs.declared.token.TokenTree.TheViews.{out-TokenTree, out-roll-TokenTree, roll-TokenTree, roll-Group}
use Rattle.tokens.specs.contracts.token.BracketPartialEq.TheImpl as bracket_eq
use Rattle.tokens.specs.contracts.token.TokenKindPartialEq.TheImpl as kind_eq
use Rattle.tokens.specs.contracts.token.TokenPartialEq.TheImpl as token_eq
use Rattle.tokens.specs.contracts.token.GroupPartialEq.TheImpl as group_eq
use Rattle.tokens.specs.contracts.token.GroupPartialEq.TheImpl.Laws as group_laws
use Rattle.tokens.specs.contracts.token.TokenTreePartialEq.TheImpl as tree_eq
use Rattle.tokens.specs.contracts.token.TokenTreePartialEq.TheImpl.Laws as tree_laws
use Rattle.tokens.specs.contracts.token.Bracket.{the_type}
use Rattle.tokens.specs.contracts.token.TokenKind as kind_contracts
use Rattle.tokens.specs.Trees.{Tree, token, group, tree_view, group_view, trees_view, tree_step, group_step}
use Rattle.tokens.specs.Spanless.{token_without_span, tree_without_spans, trees_without_spans}

abbrev pub same_trees : TokenTree → TokenTree → Bool
same_trees = (tree_eq.ghosts).eq

abbrev pub same_groups : groups.Group → groups.Group → Bool
same_groups = (group_eq.ghosts).eq

abbrev pub same_tokens : tokens.Token → tokens.Token → Bool
same_tokens = (token_eq.ghosts).eq

brackets : (a b : Bracket) → Decides ((bracket_eq.ghosts).eq a b) (a ≡ b)
brackets a b = (same_true the_type _ a b, true_same the_type a b)

kinds : (a b : TokenKind) → Decides ((kind_eq.ghosts).eq a b) (a ≡ b)
kinds a b = (same_true kind_contracts.the_type _ a b, true_same kind_contracts.the_type a b)

pub tokens_equal : (t u : tokens.Token) → Decides (same_tokens t u) (token_without_span t ≡ token_without_span u)
tokens_equal t u = Decides-like _ (λ p. cc) (λ e. (ap (λ v. v.kind) e, ap (λ v. v.text) e)) (Decides-and _ _ (kinds t.kind u.kind) (bytes_eq-Decides t.text u.text))

-- ---- lists with a proof for each of their elements
pub each_beside : {X : Type 0} (P : X → Type 0) (xs : List ((x : X) × P x)) → AllByRecursion P (map (λ e. e.0) xs)
each_beside P [] = tt
each_beside P (x ∷ xs) = (x.1, each_beside P xs)

pub each_of : {X : Type 0} (P : X → Type 0) → ((x : X) → P x) → (xs : List X) → AllByRecursion P xs
each_of P proof [] = tt
each_of P proof (x ∷ xs) = (proof x, each_of P proof xs)

-- ---- one level
abbrev Level : Type 0
Level = TokenTree-F TokenTree groups.Group

abbrev level : Level → Level → Bool
level (TokenTree-F.Token t) (TokenTree-F.Token u) = same_tokens t u
level (TokenTree-F.Token t) (TokenTree-F.Group h) = false
level (TokenTree-F.Group g) (TokenTree-F.Token u) = false
level (TokenTree-F.Group g) (TokenTree-F.Group h) = same_groups g h

level_is : (a b : TokenTree) (x y : Level) → out-TokenTree a ≡ x → out-TokenTree b ≡ y → same_trees a b ≡ level x y
level_is a b (TokenTree-F.Token t) (TokenTree-F.Token u) e f = tree_laws.is a b ∙ rw (e, f) refl
level_is a b (TokenTree-F.Token t) (TokenTree-F.Group h) e f = tree_laws.is a b ∙ rw (e, f) refl
level_is a b (TokenTree-F.Group g) (TokenTree-F.Token u) e f = tree_laws.is a b ∙ rw (e, f) refl
level_is a b (TokenTree-F.Group g) (TokenTree-F.Group h) e f = tree_laws.is a b ∙ rw (e, f) refl

abbrev shown : Level → Tree
shown (TokenTree-F.Token t) = token t
shown (TokenTree-F.Group g) = group_view g

view_is : (a : TokenTree) (x : Level) → out-TokenTree a ≡ x → tree_view a ≡ shown x
view_is a (TokenTree-F.Token t) e = fold_out-TokenTree Tree Tree tree_step group_step a ∙ rw e refl
view_is a (TokenTree-F.Group g) e = fold_out-TokenTree Tree Tree tree_step group_step a ∙ rw e refl

group_is : (g h : groups.Group) → same_groups g h ≡ ((bracket_eq.ghosts).eq g.bracket h.bracket && pointwise same_trees g.trees h.trees)
group_is g h = group_laws.is g h

group_view_is : (g : groups.Group) → group_view g ≡ group g.bracket (trees_view g.trees) g.span
group_view_is g = search (rules, the_lemmas)

-- ---- by induction
abbrev EqualTree : TokenTree → Type 0
EqualTree a = (b : TokenTree) → Decides (same_trees a b) (tree_without_spans (tree_view a) ≡ tree_without_spans (tree_view b))

abbrev EqualGroup : groups.Group → Type 0
EqualGroup g = (h : groups.Group) → Decides (same_groups g h) (tree_without_spans (group_view g) ≡ tree_without_spans (group_view h))

abbrev Each : List TokenTree → Type 0
Each = AllByRecursion EqualTree

lists_by_each : (ts us : List TokenTree) → Each ts → Decides (pointwise same_trees ts us) (trees_without_spans (trees_view ts) ≡ trees_without_spans (trees_view us))
lists_by_each [] [] each = (λ e. refl, λ e. refl)
lists_by_each [] (u ∷ us) each = (λ e. cc, λ e. cc)
lists_by_each (t ∷ ts) [] each = (λ e. cc, λ e. cc)
lists_by_each (t ∷ ts) (u ∷ us) each = Decides-like _ (λ p. cc) (λ e. (cc, cc)) (Decides-and _ _ (each.0 u) (lists_by_each ts us each.1))

group_by_each : (g h : groups.Group) → Each g.trees → Decides (same_groups g h) (tree_without_spans (group_view g) ≡ tree_without_spans (group_view h))
group_by_each g h each =
    let e = ap tree_without_spans (group_view_is g) in
    let f = ap tree_without_spans (group_view_is h) in
    Decides-at _ _ (group_is g h) (Decides-like _ (λ p. cc) (λ k. (cc, cc)) (Decides-and _ _ (brackets g.bracket h.bracket) (lists_by_each g.trees h.trees each)))

apart : (t : tokens.Token) (h : groups.Group) → token (token_without_span t) ≡ tree_without_spans (group_view h) → ⊥
apart t h e = let k = ap tree_without_spans (group_view_is h) in cc

levels : (x : TokenTree-F ((t : TokenTree) × EqualTree t) ((g : groups.Group) × EqualGroup g)) (y : Level)
    → Decides (level (map-TokenTree _ _ TokenTree groups.Group (λ e. e.0) (λ e. e.0) x) y) (tree_without_spans (shown (map-TokenTree _ _ TokenTree groups.Group (λ e. e.0) (λ e. e.0) x)) ≡ tree_without_spans (shown y))
levels (TokenTree-F.Token t) (TokenTree-F.Token u) = Decides-like _ (λ e. ap token e) (λ e. cc) (tokens_equal t u)
levels (TokenTree-F.Token t) (TokenTree-F.Group h) = (λ e. cc, λ e. absurd (apart t h e))
levels (TokenTree-F.Group g) (TokenTree-F.Token u) = (λ e. cc, λ e. absurd (apart u g.0 (sym e)))
levels (TokenTree-F.Group g) (TokenTree-F.Group h) = g.1 h

at_level : (x : Level) (y : TokenTree-F ((t : TokenTree) × EqualTree t) ((g : groups.Group) × EqualGroup g)) → map-TokenTree _ _ TokenTree groups.Group (λ e. e.0) (λ e. e.0) y ≡ x → EqualTree (roll-TokenTree x)
at_level x y is b =
    let a = roll-TokenTree x in
    let e = out-roll-TokenTree x in
    subst (λ (p : Tree × Tree). Decides (same_trees a b) (tree_without_spans p.0 ≡ tree_without_spans p.1)) (λ i. (sym (view_is a x e) i, sym (view_is b (out-TokenTree b) refl) i))
    (Decides-at _ _ (level_is a b x (out-TokenTree b) e refl) (subst (λ v. Decides (level v (out-TokenTree b)) (tree_without_spans (shown v) ≡ tree_without_spans (shown (out-TokenTree b)))) is (levels y (out-TokenTree b))))

in_group : (x : Group-F TokenTree groups.Group) (y : Group-F ((t : TokenTree) × EqualTree t) ((g : groups.Group) × EqualGroup g)) → map-Group _ _ TokenTree groups.Group (λ e. e.0) (λ e. e.0) y ≡ x → EqualGroup (roll-Group x)
in_group x y is h = group_by_each (roll-Group x) h (subst Each (ap (λ v. v.trees) is) (each_beside EqualTree y.trees))

pub trees_equal : (a b : TokenTree) → Decides (same_trees a b) (tree_without_spans (tree_view a) ≡ tree_without_spans (tree_view b))
trees_equal = ind-TokenTree EqualTree EqualGroup at_level in_group

pub groups_equal : (g h : groups.Group) → Decides (same_groups g h) (tree_without_spans (group_view g) ≡ tree_without_spans (group_view h))
groups_equal g h = group_by_each g h (each_of EqualTree trees_equal g.trees)

pub lists_equal : (ts us : List TokenTree) → Decides (pointwise same_trees ts us) (trees_without_spans (trees_view ts) ≡ trees_without_spans (trees_view us))
lists_equal ts us = lists_by_each ts us (each_of EqualTree trees_equal ts)
