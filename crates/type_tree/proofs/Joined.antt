-- Lists of trees, one after the other.
use Rattle.std.proofs.Common.{◌≡◌, ℕ, ◌+◌, ◌-◌, ◌<◌, ◌==◌, true, false, List, [], ◌∷◌, ◌++◌, length, get_or, drop, Option, Some, None, refl, ap, sym, ◌∙◌, append-nil, arith}
use Rattle.std.specs.Prelude.{option_map, slice_get}
use Rattle.std.specs.Option.{option_to_list}
use Rattle.std.proofs.lemmas.List.{drop_more}
use Rattle.texts.specs.declared.span.Span.{Span}
use Rattle.written_types.specs.declared.written.WrittenType.{WrittenType}
use Rattle.written_types.specs.declared.written.GenericArgument.{GenericArgument}
use Rattle.written_types.specs.declared.written.PathSegment.{PathSegment}
use Rattle.written_types.specs.Written.{Segment, Segments, no_segments, more_segments, written_view, writtens_view, argument_view, arguments_view, segment_view, segments_view}
use Rattle.type_tree.specs.declared.tree.TypeTree.{TypeTree}
use Rattle.type_tree.specs.TypeTrees.{Trees, no_trees, more_trees, childless, children, those, tuple_span, maybe_more, tree_view, trees_view, tree_of, item_trees, argument_trees, argument_tree, segments_trees, segment_trees, last_after}
use Rattle.type_tree.proofs.Segments.{last_segment_at}

abbrev pub joined : Trees → Trees → Trees
joined no_trees rest = rest
joined (more_trees t ts) rest = more_trees t (joined ts rest)

pub joined_push : (ts : List TypeTree) (t : TypeTree) (rest : Trees) → joined (trees_view (ts ++ t ∷ [])) rest ≡ joined (trees_view ts) (more_trees (tree_view t) rest)
joined_push [] t rest = refl
joined_push (u ∷ ts) t rest = ap (more_trees (tree_view u)) (joined_push ts t rest)

pub joined_end : (ts : Trees) → joined ts no_trees ≡ ts
joined_end no_trees = refl
joined_end (more_trees t ts) = ap (more_trees t) (joined_end ts)

pub those_none : (ts : List TypeTree) → (length ts == 0) ≡ true → childless ≡ those (trees_view ts)
those_none [] e = refl
those_none (t ∷ ts) e = absurd (grind arith)

pub those_some : (ts : List TypeTree) → (length ts == 0) ≡ false → children (trees_view ts) ≡ those (trees_view ts)
those_some [] e = absurd (grind arith)
those_some (t ∷ ts) e = refl

pub span_none : (ts : List WrittenType) (s : Span) → (length ts == 0) ≡ true → None ≡ tuple_span (writtens_view ts) s
span_none [] s e = refl
span_none (t ∷ ts) s e = absurd (grind arith)

pub span_some : (ts : List WrittenType) (s : Span) → (length ts == 0) ≡ false → Some s ≡ tuple_span (writtens_view ts) s
span_some [] s e = absurd (grind arith)
span_some (t ∷ ts) s e = refl

-- what is left of the items, one item on
pub items_push :
    (ts : List TypeTree) (t : TypeTree) (xs : List WrittenType) (i : ℕ) (x : WrittenType) (whole : Trees)
    → i < length xs → x ≡ get_or xs i x → tree_view t ≡ tree_of (written_view x)
    → joined (trees_view ts) (item_trees (writtens_view (drop i xs))) ≡ whole
    → joined (trees_view (ts ++ t ∷ [])) (item_trees (writtens_view (drop (i + 1) xs))) ≡ whole
items_push ts t xs i x whole lt is seen before =
    let rest = item_trees (writtens_view (drop (i + 1) xs)) in
    let step : more_trees (tree_view t) rest ≡ item_trees (writtens_view (drop i xs)) =
    ap (λ u. more_trees u rest) (seen ∙ ap (λ y. tree_of (written_view y)) is)
    ∙ sym (ap (λ ys. item_trees (writtens_view ys)) (drop_more xs i x lt)) in
    joined_push ts t rest ∙ (ap (joined (trees_view ts)) step ∙ before)

pub arguments_push :
    (ts : List TypeTree) (found : Option TypeTree) (xs : List GenericArgument) (i : ℕ) (x : GenericArgument) (whole : Trees)
    → i < length xs → x ≡ get_or xs i x → option_map tree_view found ≡ argument_tree (argument_view x)
    → joined (trees_view ts) (argument_trees (arguments_view (drop i xs))) ≡ whole
    → joined (trees_view (ts ++ option_to_list found)) (argument_trees (arguments_view (drop (i + 1) xs))) ≡ whole
arguments_push ts found xs i x whole lt is seen before =
    let rest = argument_trees (arguments_view (drop (i + 1) xs)) in
    let step : maybe_more (option_map tree_view found) rest ≡ argument_trees (arguments_view (drop i xs)) =
    ap (λ u. maybe_more u rest) (seen ∙ ap (λ y. argument_tree (argument_view y)) is)
    ∙ sym (ap (λ ys. argument_trees (arguments_view ys)) (drop_more xs i x lt)) in
    added ts found rest ∙ (ap (joined (trees_view ts)) step ∙ before)
  where
    added : (ts : List TypeTree) (found : Option TypeTree) (rest : Trees) → joined (trees_view (ts ++ option_to_list found)) rest ≡ joined (trees_view ts) (maybe_more (option_map tree_view found) rest)
    added ts None rest = ap (λ us. joined (trees_view us) rest) (append-nil ts)
    added ts (Some t) rest = joined_push ts t rest

-- the types of a path are those of its last segment
pub last_trees : (s : Segment) (ss : Segments) → segments_trees (more_segments s ss) ≡ segment_trees (last_after s ss)
last_trees s no_segments = refl
last_trees s (more_segments t ss) = last_trees t ss

pub trees_at : (ss : List PathSegment) (s : PathSegment) → Some s ≡ slice_get ss (length ss - 1) → segments_trees (segments_view ss) ≡ segment_trees (segment_view s)
trees_at [] s e = cc
trees_at (t ∷ ss) s e =
    let last : Some (last_after (segment_view t) (segments_view ss)) ≡ Some (segment_view s) =
    sym (last_segment_at (t ∷ ss)) ∙ sym (ap (option_map segment_view) e) in
    let whole : segments_trees (segments_view (t ∷ ss)) ≡ segment_trees (last_after (segment_view t) (segments_view ss)) = last_trees (segment_view t) (segments_view ss) in
    cc
