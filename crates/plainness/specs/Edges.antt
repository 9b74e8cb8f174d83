-- How the program finds what is not plain: by the numbers of the instances that stand in places.
use Rattle.std.specs.Prelude.{◌≡◌, ◌↔◌, ◌⊎◌, ℕ, List, [], ◌∷◌, ◌++◌, length, get_or, map, is_some, Option, Some, None, IsTrue}
use Rattle.open_types.specs.Open.{Open, Opens, tuple, items, set, map_of, option, through, named, no_types, more_types, opens_of}
use Rattle.shapes.specs.Declarations.{DeclarationOf}
use Rattle.shapes.specs.Instances.{body_at, places_at}
use Rattle.inlining.specs.Inlining.{IsAmong, targets_of}
use Rattle.instances.specs.Lists.{number_in}
use Rattle.plainness.specs.Obstacles.{body_obstacle}
use Rattle.plainness.specs.declared.unplain.Obstacle.{Obstacle}
use Rattle.plainness.specs.declared.unplain.Reason.{Reason}
use Rattle.plainness.specs.declared.unplain.Reason.TheVariants.{Body, Reaches}

abbrev pub number_list : Option ℕ → List ℕ
number_list None = []
number_list (Some n) = n ∷ []

-- the numbers of the instances that stand in the type, arguments included
abbrev mutual
  pub numbers_in : List Open → Open → List ℕ
  numbers_in is (tuple ts) = numbers_among is ts
  numbers_in is (items h t) = numbers_in is t
  numbers_in is (set h t) = numbers_in is t
  numbers_in is (map_of h k t) = numbers_in is k ++ numbers_in is t
  numbers_in is (option t) = numbers_in is t
  numbers_in is (through h t) = numbers_in is t
  numbers_in is (named d ts) = number_list (number_in is (named d ts)) ++ numbers_among is ts
  numbers_in is _ = []

  pub numbers_among : List Open → Opens → List ℕ
  numbers_among is no_types = []
  numbers_among is (more_types t ts) = numbers_in is t ++ numbers_among is ts

-- the numbers of those that stand in the places of the instance
abbrev pub edges_at : List DeclarationOf → List Open → Open → List ℕ
edges_at ss is t = numbers_among is (opens_of (places_at ss t))

abbrev pub edges_of : List DeclarationOf → List Open → List (List ℕ)
edges_of ss is = map (edges_at ss is) is

-- what is in the way in the bodies of the instances
abbrev pub obstacles_of : List DeclarationOf → List Open → List (Option Obstacle)
obstacles_of ss is = map (λ t. body_obstacle ss (body_at ss t)) is

-- With what the lists had, those of the places have the number too.
pub record AreAdded (before : List (List ℕ)) (places : List ℕ) (number : ℕ) (after : List (List ℕ)) : Type 0 where
  pub each : (m n : ℕ) → IsAmong n (targets_of after m) ↔ (IsAmong n (targets_of before m) ⊎ (IsAmong m places × (n ≡ number)))

-- From each to those that have it among theirs.
pub record AreTurned (edges turned : List (List ℕ)) : Type 0 where
  pub many : length turned ≡ length edges
  pub each : (m n : ℕ) → IsAmong n (targets_of turned m) ↔ IsAmong m (targets_of edges n)

-- something is in the way at the number
abbrev pub IsHindered : List (Option Obstacle) → ℕ → Type 0
IsHindered obstacles n = IsTrue (is_some (get_or obstacles n None))

-- edges lead from the number to the other, over any number of steps
pub data LeadsTo (edges : List (List ℕ)) : ℕ → ℕ → Type 0 where
  leads_here : (n : ℕ) → LeadsTo edges n n
  leads_on : (n k m : ℕ) → IsAmong k (targets_of edges n) → LeadsTo edges k m → LeadsTo edges n m

-- Edges lead from each number to its origin, if it has one, and something is in the way there.
pub record AreLed (edges : List (List ℕ)) (obstacles : List (Option Obstacle)) (origins : List (Option ℕ)) : Type 0 where
  pub each : (n m : ℕ) → get_or origins n None ≡ Some m → LeadsTo edges n m × IsHindered obstacles m

-- Each origin is of the same number as before, or is this one, of one of the numbers.
pub record AreGiven (before : List (Option ℕ)) (numbers : List ℕ) (origin : ℕ) (after : List (Option ℕ)) : Type 0 where
  pub each : (n m : ℕ) → get_or after n None ≡ Some m → (get_or before n None ≡ Some m) ⊎ (IsAmong n numbers × (m ≡ origin))

-- Each number has an origin to which edges lead and where something is in the way, or none where nothing is wherever they lead.
pub record AreOrigins (edges : List (List ℕ)) (obstacles : List (Option Obstacle)) (origins : List (Option ℕ)) : Type 0 where
  pub many : length origins ≡ length edges
  pub led : AreLed edges obstacles origins
  pub none : (n m : ℕ) → get_or origins n None ≡ None → LeadsTo edges n m → ¬ (IsHindered obstacles m)

-- by number: this is in the way, or nothing is, and edges lead to one of this name where something is
abbrev pub IsReasonAt : List (List ℕ) → List (Option Obstacle) → List (List ℕ) → ℕ → Reason → Type 0
IsReasonAt edges obstacles names n (Body obstacle) = get_or obstacles n None ≡ Some obstacle
IsReasonAt edges obstacles names n (Reaches name) = (get_or obstacles n None ≡ None) × (m : ℕ) × LeadsTo edges n m × IsHindered obstacles m × (name ≡ get_or names m [])
