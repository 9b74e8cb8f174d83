-- Types that are all the same, from the first on.
use Rattle.std.proofs.Common.{ℕ, ◌+◌, ◌<◌, List, Bool, true, false, not, ◌&&◌, length, get_or, drop, map, ◌≡◌, refl, add-one, drop-cons}
use Rattle.open_types.specs.declared.open_type.OpenType.{OpenType}
use Rattle.open_types.specs.Open.{Open, open_view}
use Rattle.open_types.specs.Same.{same_type}
use Rattle.terms.specs.Terms.{are_all}

-- the first of the rest, and what follows it
pub alike_at : (t : Open) (us : List OpenType) (i : ℕ) (u : OpenType) → i < length us → u ≡ get_or us i u → are_all t (map open_view (drop i us)) ≡ (same_type t (open_view u) && are_all t (map open_view (drop (i + 1) us)))
alike_at t us i u h e = rw (add-one, drop-cons us i u, ← e)

pub not_same : (b : Bool) → true ≡ not b → b ≡ false
not_same true h = h
not_same false h = refl

pub all_same : (b : Bool) → false ≡ not b → b ≡ true
all_same true h = refl
all_same false h = h
