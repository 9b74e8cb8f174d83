-- What stands in the places of an instance of a ring: the instance that is next, and no other.
use Rattle.std.proofs.Common.{◌≡◌, ◌<◌, inl, inr, ℕ, List, refl, ap, subst, sym}
use Rattle.open_types.specs.Open.{Open, Opens, named, substituted, all_substituted}
use Rattle.open_types.specs.Instances.{StandsIn, StandsAmong, StandsInOne}
use Rattle.shapes.specs.Declarations.{DeclarationOf, body_types}
use Rattle.shapes.specs.Instances.{body_over, places_at}
use Rattle.samples.specs.Rings.{Turn, plain_struct, generic_struct, tagged_enum, turn, arguments, instance, next, body, ring}
use Rattle.samples.proofs.Numbered.{declared}

-- ---- instances

-- no parameter stands in the arguments
kept : (args : Opens) (u : Turn) → all_substituted args (arguments u) ≡ arguments u
kept args plain_struct = refl
kept args generic_struct = refl
kept args tagged_enum = refl

-- an instance stays what it is, whatever the arguments are
pub stays : (args : Opens) (i : ℕ) → substituted args (instance i) ≡ instance i
stays args i = ap (named i) (kept args (turn i))

-- no instance stands in the arguments
free : (w : Open) (u : Turn) → ¬ (StandsAmong w (arguments u))
free w plain_struct h = h
free w generic_struct (inl h) = h
free w generic_struct (inr h) = h
free w tagged_enum h = h

-- what stands in an instance is the instance
itself : (w : Open) (i : ℕ) → StandsIn w (instance i) → w ≡ instance i
itself w i (inl e) = e
itself w i (inr h) = absurd (free w (turn i) h)

-- ---- places, by whose turn it is

-- the types of the places, where the member `next` has the type
abbrev places : Turn → Open → List Open
places t u = body_types (body_over (arguments t) (body t u))

places-are : (many i : ℕ) → i < many → places_at (ring many) (instance i) ≡ places (turn i) (instance (next many i))
places-are many i l = ap (λ (s : DeclarationOf). body_types (body_over (arguments (turn i)) s.body)) (declared many i l)

there : (t : Turn) (w u : Open) → StandsIn w (substituted (arguments t) u) → StandsInOne w (places t u)
there plain_struct w u h = inr (inr (inl h))
there generic_struct w u h = inr (inl h)
there tagged_enum w u h = inl h

only : (t : Turn) (w u : Open) → StandsInOne w (places t u) → StandsIn w (substituted (arguments t) u)
only plain_struct w u (inl h) = absurd h
only plain_struct w u (inr (inl h)) = absurd h
only plain_struct w u (inr (inr (inl h))) = h
only plain_struct w u (inr (inr (inr h))) = absurd h
only generic_struct w u (inl h) = absurd h
only generic_struct w u (inr (inl h)) = h
only generic_struct w u (inr (inr h)) = absurd h
only tagged_enum w u (inl h) = h
only tagged_enum w u (inr h) = absurd h

-- ---- in the ring

-- what is next stands in the places of each instance
pub next_stands : (many i : ℕ) → i < many → StandsInOne (instance (next many i)) (places_at (ring many) (instance i))
next_stands many i l =
    let one = instance (next many i) in
    let here : StandsIn one (substituted (arguments (turn i)) one) = subst (StandsIn one) (sym (stays (arguments (turn i)) (next many i))) (inl refl) in
    subst (StandsInOne one) (sym (places-are many i l)) (there (turn i) one one here)

-- nothing else stands there
pub stands_alone : (many i : ℕ) (w : Open) → i < many → StandsInOne w (places_at (ring many) (instance i)) → w ≡ instance (next many i)
stands_alone many i w l h =
    let among = only (turn i) w (instance (next many i)) (subst (StandsInOne w) (places-are many i l) h) in
    itself w (next many i) (subst (StandsIn w) (stays (arguments (turn i)) (next many i)) among)
