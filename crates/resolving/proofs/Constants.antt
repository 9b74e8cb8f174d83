-- Type arguments that are constants.
use Rattle.std.proofs.Common.{◌≡◌, ◌≢◌, List, [], ◌∷◌, false, length, refl, ap, sym, ◌∙◌}
use Rattle.written_types.specs.declared.written.Path.{Path, out-Path}
use Rattle.written_types.specs.declared.written.PathSegment.{PathSegment}
use Rattle.written_types.specs.Written.{path_of, path_view, segments_view}
use Rattle.written_types.proofs.Laws.{path_view_is}
use Rattle.resolving.specs.Known.{Known}
use Rattle.resolving.specs.Names.{constant_segments, constant_path}

module _ (p : Known) where
  other-segments : (ss : List PathSegment) → length ss ≢ 1 → constant_segments p (segments_view ss) ≡ false
  other-segments [] h = refl
  other-segments (x ∷ []) h = absurd (h refl)
  other-segments (x ∷ y ∷ ss) h = refl

  plain-path : (q : Path) → (out-Path q).leading ≡ false → constant_path p (path_view q) ≡ constant_segments p (segments_view (out-Path q).segments)
  plain-path q e = ap (constant_path p) (path_view_is q) ∙ ap (λ b. constant_path p (path_of b (segments_view (out-Path q).segments) (out-Path q).span)) e

  pub other-path : (q : Path) (ss : List PathSegment) → (out-Path q).leading ≡ false → ss ≡ (out-Path q).segments → length ss ≢ 1 → false ≡ constant_path p (path_view q)
  other-path q ss f e h = sym (plain-path q f ∙ ap (λ xs. constant_segments p (segments_view xs)) (sym e) ∙ other-segments ss h)
