-- Lists of types that are the same are equally long.
use Rattle.std.proofs.Common.{◌≡◌, ◌≢◌, suc, List, [], ◌∷◌, false, ◌&&◌, length, refl, ap, sym, ◌∙◌}
use Rattle.std.proofs.Math.Bool.{and-false}
use Rattle.open_types.specs.declared.open_type.OpenType.{OpenType}
use Rattle.open_types.specs.Open.{open_view, opens_view}
use Rattle.open_types.specs.Same.{same_type, same_types}

pub same_types_lengths : (ts us : List OpenType) → length ts ≢ length us → false ≡ same_types (opens_view ts) (opens_view us)
same_types_lengths [] [] h = absurd (h refl)
same_types_lengths [] (u ∷ us) h = refl
same_types_lengths (t ∷ ts) [] h = refl
same_types_lengths (t ∷ ts) (u ∷ us) h =
    let b = same_type (open_view t) (open_view u) in
    sym (and-false b) ∙ ap (λ r. b && r) (same_types_lengths ts us (λ e. h (ap suc e)))
