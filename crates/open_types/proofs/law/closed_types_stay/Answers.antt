use Rattle.std.proofs.Common.{◌≡◌, refl, ap}
use Rattle.open_types.specs.Open.{Open, Opens, leaf, any_value, free_object, unit, tuple, items, set, map_of, option, through, param, named, no_types, more_types, IsClosed, AreClosed, substituted, all_substituted}
use Rattle.open_types.proofs.law.closed_types_stay.Goals as goal

mutual
  stays : (args : Opens) (t : Open) → IsClosed t → substituted args t ≡ t
  stays args (leaf x) h = refl
  stays args any_value h = refl
  stays args free_object h = refl
  stays args unit h = refl
  stays args (tuple ts) h = ap tuple (all_stay args ts h)
  stays args (items x t) h = ap (items x) (stays args t h)
  stays args (set x t) h = ap (set x) (stays args t h)
  stays args (map_of x k t) h = rw (stays args k h.0, stays args t h.1) refl
  stays args (option t) h = ap option (stays args t h)
  stays args (through x t) h = ap (through x) (stays args t h)
  stays args (param i) h = absurd h
  stays args (named d ts) h = ap (named d) (all_stay args ts h)

  all_stay : (args ts : Opens) → AreClosed ts → all_substituted args ts ≡ ts
  all_stay args no_types h = refl
  all_stay args (more_types t ts) h = rw (stays args t h.0, all_stay args ts h.1) refl

pub returns : goal.returns
returns c = stays
