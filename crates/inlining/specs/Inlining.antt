-- Instances whose schemas stand in those of others: how deep, and how often.
use Rattle.std.specs.Prelude.{◌≡◌, ◌<◌, ◌≤◌, ◌+◌, ◌⊎◌, ℕ, zero, suc, List, [], ◌∷◌, length, take, get_or}

-- The instances whose schemas stand in that of an instance, as often as they stand there: its targets. Past the end there are none.
abbrev pub targets_of : List (List ℕ) → ℕ → List ℕ
targets_of [] d = []
targets_of (ts ∷ g) zero = ts
targets_of (ts ∷ g) (suc d) = targets_of g d

abbrev pub IsAmong : ℕ → List ℕ → Type 0
IsAmong d [] = ⊥
IsAmong d (e ∷ es) = (d ≡ e) ⊎ IsAmong d es

-- each target is an instance
abbrev pub AreTargets : List (List ℕ) → Type 0
AreTargets g = (d t : ℕ) → IsAmong t (targets_of g d) → t < length g

-- ---- depth

-- An inline path: instances of which each is a target of the one before.
abbrev pub IsPath : List (List ℕ) → List ℕ → Type 0
IsPath g [] = Unit {0}
IsPath g (d ∷ []) = d < length g
IsPath g (d ∷ e ∷ es) = (d < length g) × IsAmong e (targets_of g d) × IsPath g (e ∷ es)

-- no inline path has more instances than these
abbrev pub IsAtMost : ℕ → List (List ℕ) → Type 0
IsAtMost most g = (path : List ℕ) → IsPath g path → length path ≤ most

-- ---- order

-- each stands behind its targets, of which some were seen before
abbrev pub AreBehind : List (List ℕ) → (seen : List ℕ) → List ℕ → Type 0
AreBehind g seen [] = Unit {0}
AreBehind g seen (d ∷ ds) = (d < length g) × ((t : ℕ) → IsAmong t (targets_of g d) → IsAmong t seen) × AreBehind g (d ∷ seen) ds

-- none stands twice
abbrev pub AreOnce : List ℕ → Type 0
AreOnce [] = Unit {0}
AreOnce (d ∷ ds) = ¬ (IsAmong d ds) × AreOnce ds

-- The list has each instance once, behind its targets.
pub record IsOrder (g : List (List ℕ)) (order : List ℕ) : Type 0 where
  pub all : (d : ℕ) → d < length g → IsAmong d order
  pub once : AreOnce order
  pub behind : AreBehind g [] order

-- The law: each instance of an order stands behind its targets, by its place.
abbrev pub OrdersStand : Type 0
OrdersStand = (g : List (List ℕ)) (order : List ℕ) → IsOrder g order → (i : ℕ) → i < length order →
    (get_or order i 0 < length g) × ((t : ℕ) → IsAmong t (targets_of g (get_or order i 0)) → IsAmong t (take i order))

-- ---- copies

abbrev pub sum_of : (ℕ → ℕ) → List ℕ → ℕ
sum_of f [] = 0
sum_of f (d ∷ ds) = f d + sum_of f ds

-- How many schemas stand where that of the instance stands, to a depth of n: itself, and the copies of each of its targets.
abbrev pub copies : List (List ℕ) → ℕ → ℕ → ℕ
copies g zero d = 0
copies g (suc n) d = suc (sum_of (copies g n) (targets_of g d))
