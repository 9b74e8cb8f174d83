use Rattle.std.proofs.Common.{◌≡◌, ◌+◌, ◌*◌, ◌≤◌, length, map, unwrap_or}
use Rattle.written_types.specs.Written.{written_view, segment_view, argument_view}
use Rattle.words.specs.Words.{words_view}
use Rattle.type_grammar.specs.declared.starts.Bounds.TheVariants.{Any}
use Rattle.type_grammar.specs.Reading.{ends_list, list_of, segments_in, bounds_in, type_in, argument_at, with_segments}
use Rattle.type_grammar.proofs.Lists.{SoFar}
use Rattle.type_grammar.proofs.types.+types.Given as goal

abbrev pub invariant-types_at-list : goal.invariant-types_at-list
invariant-types_at-list l =
    (length l.rest ≤ length l.trees) × SoFar ends_list (type_in l.left Any) (map written_view l.types) (words_view l.rest) (list_of (type_in l.left Any) (words_view l.trees))

abbrev pub decreases-types_at-list : goal.decreases-types_at-list
decreases-types_at-list l = length l.rest

abbrev pub invariant-arguments_at-list : goal.invariant-arguments_at-list
invariant-arguments_at-list l =
    (length l.rest ≤ length l.trees)
    × SoFar ends_list (argument_at l.bindings (type_in l.left)) (map argument_view l.arguments) (words_view l.rest) (list_of (argument_at l.bindings (type_in l.left)) (words_view l.trees))

abbrev pub decreases-arguments_at-list : goal.decreases-arguments_at-list
decreases-arguments_at-list l = length l.rest

abbrev pub invariant-segments_at-path : goal.invariant-segments_at-path
invariant-segments_at-path l =
    (length l.rest ≤ length l.trees) × (with_segments (map segment_view l.segments) (segments_in l.bindings (type_in l.left) (words_view l.rest)) ≡ segments_in l.bindings (type_in l.left) (words_view l.trees))

abbrev pub decreases-segments_at-path : goal.decreases-segments_at-path
decreases-segments_at-path l = length l.rest

abbrev pub invariant-bounds_at-bounds : goal.invariant-bounds_at-bounds
invariant-bounds_at-bounds l = (length l.rest ≤ length l.trees) × (bounds_in (type_in l.left) (unwrap_or l.later l.first) (words_view l.rest) ≡ bounds_in (type_in l.left) l.first (words_view l.trees))

abbrev pub decreases-bounds_at-bounds : goal.decreases-bounds_at-bounds
decreases-bounds_at-bounds l = length l.rest

abbrev pub decreases-type_in : goal.decreases-type_in
decreases-type_in l = 16 * l.left

abbrev pub decreases-type_step : goal.decreases-type_step
decreases-type_step l = 16 * l.left + 12

abbrev pub decreases-object_at : goal.decreases-object_at
decreases-object_at l = 16 * l.left + 11

abbrev pub decreases-more_bounds : goal.decreases-more_bounds
decreases-more_bounds l = 16 * l.left + 10

abbrev pub decreases-bounds_at : goal.decreases-bounds_at
decreases-bounds_at l = 16 * l.left + 9

abbrev pub decreases-bound_at : goal.decreases-bound_at
decreases-bound_at l = 16 * l.left + 8

abbrev pub decreases-path_at : goal.decreases-path_at
decreases-path_at l = 16 * l.left + 7

abbrev pub decreases-segments_at : goal.decreases-segments_at
decreases-segments_at l = 16 * l.left + 6

abbrev pub decreases-segment_at : goal.decreases-segment_at
decreases-segment_at l = 16 * l.left + 5

abbrev pub decreases-segment_after : goal.decreases-segment_after
decreases-segment_after l = 16 * l.left + 4

abbrev pub decreases-arguments_at : goal.decreases-arguments_at
decreases-arguments_at l = 16 * l.left + 3

abbrev pub decreases-argument_at : goal.decreases-argument_at
decreases-argument_at l = 16 * l.left + 2

abbrev pub decreases-reference_at : goal.decreases-reference_at
decreases-reference_at l = 16 * l.left + 1

abbrev pub decreases-round_group : goal.decreases-round_group
decreases-round_group l = 16 * l.left + 4

abbrev pub decreases-round_at : goal.decreases-round_at
decreases-round_at l = 16 * l.left + 3

abbrev pub decreases-types_at : goal.decreases-types_at
decreases-types_at l = 16 * l.left + 2

abbrev pub decreases-square_group : goal.decreases-square_group
decreases-square_group l = 16 * l.left + 4

abbrev pub decreases-square_at : goal.decreases-square_at
decreases-square_at l = 16 * l.left + 3
