-- What types are by one variant of the program's values.
use Rattle.std.proofs.Common.{ℕ, List, ◌≡◌, ap, sym, ◌∙◌}
use Rattle.std.specs.declared.boxed.Box.{Box}
use Rattle.std.specs.declared.alloc.Global.{Global}
use Rattle.open_types.specs.declared.open_type.ListHead.{ListHead}
use Rattle.open_types.specs.declared.open_type.SetHead.{SetHead}
use Rattle.open_types.specs.declared.open_type.MapHead.{MapHead}
use Rattle.open_types.specs.declared.open_type.ThroughHead.{ThroughHead}
use Rattle.open_types.specs.declared.open_type.OpenType as variants
use Rattle.open_types.specs.declared.open_type.OpenType.{OpenType, fold-roll-OpenType}
use Rattle.open_types.specs.declared.open_type.OpenType.TheVariants.{rolls-Items, rolls-Set, rolls-Map, rolls-Option, rolls-Through, rolls-Param, rolls-Named}
use Rattle.open_types.specs.Open.{Open, items, set, map_of, option, through, param, named, open_step, open_view, opens_view}

module _ (ty part : OpenType) where
  pub items_view : (h : ListHead) (b : Box OpenType Global) → ty ≡ variants.Items h b → part ≡ b.value → open_view ty ≡ items h (open_view part)
  items_view h b is e = ap open_view is ∙ ap open_view (sym (rolls-Items h b)) ∙ fold-roll-OpenType Open open_step _ ∙ ap (λ y. items h (open_view y)) (sym e)

  pub set_view : (h : SetHead) (b : Box OpenType Global) → ty ≡ variants.Set h b → part ≡ b.value → open_view ty ≡ set h (open_view part)
  set_view h b is e = ap open_view is ∙ ap open_view (sym (rolls-Set h b)) ∙ fold-roll-OpenType Open open_step _ ∙ ap (λ y. set h (open_view y)) (sym e)

  pub option_view : (b : Box OpenType Global) → ty ≡ variants.Option b → part ≡ b.value → open_view ty ≡ option (open_view part)
  option_view b is e = ap open_view is ∙ ap open_view (sym (rolls-Option b)) ∙ fold-roll-OpenType Open open_step _ ∙ ap (λ y. option (open_view y)) (sym e)

  pub through_view : (h : ThroughHead) (b : Box OpenType Global) → ty ≡ variants.Through h b → part ≡ b.value → open_view ty ≡ through h (open_view part)
  through_view h b is e = ap open_view is ∙ ap open_view (sym (rolls-Through h b)) ∙ fold-roll-OpenType Open open_step _ ∙ ap (λ y. through h (open_view y)) (sym e)

pub map_view : (ty key value : OpenType) (h : MapHead) (k b : Box OpenType Global) → ty ≡ variants.Map h k b → key ≡ k.value → value ≡ b.value → open_view ty ≡ map_of h (open_view key) (open_view value)
map_view ty key value h k b is e f =
    ap open_view is ∙ ap open_view (sym (rolls-Map h k b)) ∙ fold-roll-OpenType Open open_step _ ∙ (λ i. map_of h (open_view (sym e i)) (open_view (sym f i)))

pub param_view : (ty : OpenType) (n : ℕ) → ty ≡ variants.Param n → open_view ty ≡ param n
param_view ty n is = ap open_view is ∙ ap open_view (sym (rolls-Param n)) ∙ fold-roll-OpenType Open open_step _

pub named_view : (ty : OpenType) (arguments : List OpenType) (d : ℕ) (ts : List OpenType) → ty ≡ variants.Named d ts → arguments ≡ ts → open_view ty ≡ named d (opens_view arguments)
named_view ty arguments d ts is e = ap open_view is ∙ ap open_view (sym (rolls-Named d ts)) ∙ fold-roll-OpenType Open open_step _ ∙ ap (λ xs. named d (opens_view xs)) (sym e)
