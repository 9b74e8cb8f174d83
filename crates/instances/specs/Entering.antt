-- What a walk has entered: the types of a table that are marked, and the instances that stand in them.
use Rattle.std.specs.Prelude.{◌≡◌, ◌⊎◌, ◌≤◌, ◌==◌, ℕ, zero, suc, List, [], ◌∷◌, ◌++◌, length, map, get_or, cond, Bool, false, IsTrue}
use Rattle.open_types.specs.Open.{Open, Opens, named, no_types, substituted}
use Rattle.open_types.specs.Instances.{StandsIn, StandsInOne, type_size}
use Rattle.type_table.specs.Types.{type_at, AllBelow, IsFront}
use Rattle.shapes.specs.Declarations.{DeclarationOf, parameters_in}
use Rattle.shapes.specs.InstanceShape.{IsReachable}
use Rattle.instances.specs.Lists.{IsOneOf, AreDifferent}
use Rattle.instances.specs.declared.bounds.Bounds.{Bounds}
use Rattle.instances.specs.declared.enter.Found.{Found}

-- ---- marks

abbrev pub IsMarked : List Bool → ℕ → Type 0
IsMarked marks n = IsTrue (get_or marks n false)

abbrev pub AreMarked : List Bool → List ℕ → Type 0
AreMarked marks [] = Unit {0}
AreMarked marks (n ∷ ns) = IsMarked marks n × AreMarked marks ns

-- the number is one of the list
abbrev pub IsAmong : ℕ → List ℕ → Type 0
IsAmong n [] = ⊥
IsAmong n (m ∷ ms) = (n ≡ m) ⊎ IsAmong n ms

-- the old list stands in front of the new one
abbrev pub IsLonger : List ℕ → List ℕ → Type 0
IsLonger old new = (more : List ℕ) × (new ≡ old ++ more)

-- ---- what stands in types

-- what stands in the types is reachable
abbrev pub AreAllReached : List DeclarationOf → List Open → Type 0
AreAllReached ss ts = (u : Open) → StandsInOne u ts → IsReachable ss u

-- what stands in the types is in the list
abbrev pub AreHeld : List Open → List Open → Type 0
AreHeld ts is = (u : Open) → StandsInOne u ts → IsOneOf u is

-- no instance stands in the type, whatever stands in the places of its parameters
abbrev pub HoldsNone : Open → Type 0
HoldsNone t = (args : Opens) (u : Open) → ¬ (StandsIn u (substituted args t))

-- ---- what is entered

-- Different reachable instances, no more than the limit and each of no more names than most; with a type that is marked each instance that stands in it is there, and those that are there are marked.
pub record AreEntered (ss : List DeclarationOf) (known : List Open) (limit most : ℕ) (marks : List Bool) (instances : List ℕ) : Type 0 where
  pub room : length marks ≤ length known
  pub below : AllBelow (length known) instances
  pub closed : (n : ℕ) → IsMarked marks n → (u : Open) → StandsIn u (type_at known n) → IsOneOf u (map (type_at known) instances)
  pub held : (n : ℕ) → IsAmong n instances → IsMarked marks n
  pub different : AreDifferent (map (type_at known) instances)
  pub reached : (t : Open) → IsOneOf t (map (type_at known) instances) → IsReachable ss t
  pub few : length instances ≤ limit
  pub small : (t : Open) → IsOneOf t (map (type_at known) instances) → type_size t ≤ most

-- The numbers are marked, and no number that is above them all is marked besides; the instances before stay in front.
pub record AreAdded (marks : List Bool) (instances : List ℕ) (marks2 : List Bool) (instances2 : List ℕ) (ns : List ℕ) : Type 0 where
  pub marked : AreMarked marks2 ns
  pub kept : (n : ℕ) → IsMarked marks n → IsMarked marks2 n
  pub above : (n : ℕ) → AllBelow n ns → IsMarked marks2 n → IsMarked marks n
  pub room : length marks2 ≡ length marks
  pub longer : IsLonger instances instances2

abbrev pub AreFound : List DeclarationOf → List Open → Bounds → Found → Type 0
AreFound ss known bounds found = AreEntered ss known bounds.limit bounds.most found.entered.items found.instances

abbrev pub AreFoundMore : Found → Found → List ℕ → Type 0
AreFoundMore old new ns = AreAdded old.entered.items old.instances new.entered.items new.instances ns

-- The table and the instances grew at their ends, and what stands in the types is among the instances.
pub record IsWalked (ss : List DeclarationOf) (bounds : Bounds) (before : List Open) (old : List ℕ) (known : List Open) (new : Found) (ts : List Open) : Type 0 where
  pub found : AreFound ss known bounds new
  pub front : IsFront before known
  pub longer : IsLonger old new.instances
  pub held : AreHeld ts (map (type_at known) new.instances)

-- the declaration at the place as an instance, where it has no parameters; those of the first so many declarations
abbrev pub root_at : List DeclarationOf → ℕ → List Open
root_at ss d = cond (parameters_in ss d == 0) (named d no_types ∷ []) []

abbrev pub roots_among : List DeclarationOf → ℕ → List Open
roots_among ss zero = []
roots_among ss (suc n) = roots_among ss n ++ root_at ss n
