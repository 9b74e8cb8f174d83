-- What options and maps are by the program's values.
use Rattle.std.proofs.Common.{◌≡◌, ◌∙◌, ap, sym}
use Rattle.std.specs.declared.boxed.Box.{Box}
use Rattle.std.specs.declared.alloc.Global.{Global}
use Rattle.open_types.specs.declared.open_type.MapHead.{MapHead}
use Rattle.open_types.specs.declared.open_type.OpenType as variants
use Rattle.open_types.specs.declared.open_type.OpenType.{OpenType, fold-roll-OpenType}
use Rattle.open_types.specs.declared.open_type.OpenType.TheVariants.{rolls-Map, rolls-Option}
use Rattle.open_types.specs.Open.{Open, map_of, option, open_step, open_view}

module _ (ty part : OpenType) where
  pub option_view : (b : Box OpenType Global) → ty ≡ variants.Option b → part ≡ b.value → open_view ty ≡ option (open_view part)
  option_view b is e = ap open_view is ∙ ap open_view (sym (rolls-Option b)) ∙ fold-roll-OpenType Open open_step _ ∙ ap (λ y. option (open_view y)) (sym e)

  -- a map by its keys
  pub map_view : (h : MapHead) (k b : Box OpenType Global) → ty ≡ variants.Map h k b → part ≡ k.value → open_view ty ≡ map_of h (open_view part) (open_view b.value)
  map_view h k b is e = ap open_view is ∙ ap open_view (sym (rolls-Map h k b)) ∙ fold-roll-OpenType Open open_step _ ∙ ap (λ y. map_of h (open_view y) (open_view b.value)) (sym e)
