-- The last segment of a path.
use Rattle.std.proofs.Common.{suc, ◌-◌, ◌≤◌, ◌≡◌, List, [], ◌∷◌, Some, length, get_or, ap, ◌∙◌, arith, unwrap_or}
use Rattle.written_types.specs.declared.written.PathSegment.{PathSegment}
use Rattle.written_types.specs.Written.{segment_view, segments_view}
use Rattle.warnings.specs.Through.{last_segment}

pub last_segment-at : (ss : List PathSegment) (s : PathSegment) → 1 ≤ length ss → s ≡ get_or ss (length ss - 1) s → Some (segment_view s) ≡ last_segment (segments_view ss)
last_segment-at [] s h is = absurd (omega arith)
last_segment-at (x ∷ []) s h is = ap (λ y. Some (segment_view y)) is
last_segment-at (x ∷ y ∷ ss) s h is =
    let later : 1 ≤ length (y ∷ ss) = omega arith in
    let less : length (x ∷ y ∷ ss) - 1 ≡ suc (length (y ∷ ss) - 1) = omega arith in
    let there : s ≡ get_or (y ∷ ss) (length (y ∷ ss) - 1) s = is ∙ ap (λ n. get_or (x ∷ y ∷ ss) n s) less in
    ap (λ o. Some (unwrap_or o (segment_view x))) (last_segment-at (y ∷ ss) s later there)
