use Rattle.std.proofs.Common.{◌≡◌, ◌-◌, List, [], ◌∷◌, length, Option, Some, None, refl, Bor, arith}
use Rattle.std.specs.Prelude.{option_map, slice_get}
use Rattle.std.specs.Option.{option_copied}
use Rattle.written_types.specs.declared.written.Ident.{Ident}
use Rattle.written_types.specs.declared.written.PathSegment.{PathSegment}
use Rattle.written_types.specs.Written.{Argument, segment_of, segment_view, segments_view}
use Rattle.type_tree.specs.TypeTrees.{segment_name, last_segment, last_after}

-- a segment has its name with and without arguments
pub segment_name_of : (x : Ident) (xs : Option (List Argument)) → segment_name (segment_of x xs) ≡ x.text
segment_name_of x None = refl
segment_name_of x (Some xs) = refl

-- the last segment is the one at the last place
pub last_after_at : (s : PathSegment) (ss : List PathSegment) → option_map segment_view (slice_get (s ∷ ss) (length ss)) ≡ Some (last_after (segment_view s) (segments_view ss))
last_after_at s [] = refl
last_after_at s (t ∷ ss) = last_after_at t ss

pub last_segment_at : (ss : List PathSegment) → option_map segment_view (slice_get ss (length ss - 1)) ≡ last_segment (segments_view ss)
last_segment_at [] = refl
last_segment_at (s ∷ ss) =
    let e : length (s ∷ ss) - 1 ≡ length ss = omega arith in
    rw e (last_after_at s ss)

pub seen_copied : (r : Option (Bor PathSegment)) → option_map (λ s. segment_view s.now) r ≡ option_map segment_view (option_copied r)
seen_copied None = refl
seen_copied (Some s) = refl
