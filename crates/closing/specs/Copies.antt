-- Inline paths of instances by number, and how many schemas stand where those of instances do.
use Rattle.std.specs.Prelude.{◌≡◌, ◌<◌, ◌≤◌, ◌+◌, ℕ, zero, suc, List, [], ◌∷◌, length, map}
use Rattle.open_types.specs.Open.{Open}
use Rattle.shapes.specs.Declarations.{DeclarationOf}
use Rattle.inlining.specs.Inlining.{IsAmong, IsPath, sum_of, copies}
use Rattle.instances.specs.Lists.{IsOneOf, instance_at, AreDifferent, AreInstances}
use Rattle.closing.specs.Links.{targets_at, inlining_of}
use Rattle.closing.specs.Described.{IsInlinePath}

abbrev pub sum_over : (Open → ℕ) → List Open → ℕ
sum_over f [] = 0
sum_over f (t ∷ ts) = f t + sum_over f ts

-- How many schemas stand where that of the instance stands, to the depth of the number: itself, and the copies of each of its targets.
abbrev pub instance_copies : List DeclarationOf → ℕ → Open → ℕ
instance_copies ss zero t = 0
instance_copies ss (suc n) t = suc (sum_over (instance_copies ss n) (targets_at ss t))

-- ---- laws

-- The law: an inline path of numbers is one of their instances.
abbrev pub PathsByNumbers : Type 0
PathsByNumbers = (ss : List DeclarationOf) (is : List Open) (path : List ℕ) → IsPath (inlining_of ss is) path → IsInlinePath ss (map (instance_at is) path)

-- The law: the copies of numbers are those of their instances.
abbrev pub CopiesByNumbers : Type 0
CopiesByNumbers = (ss : List DeclarationOf) (is : List Open) → AreInstances ss is → (n : ℕ) (ns : List ℕ) → ((m : ℕ) → IsAmong m ns → m < length is) →
    sum_of (copies (inlining_of ss is) n) ns ≡ sum_over (instance_copies ss n) (map (instance_at is) ns)

-- The law: of different instances that are all in a list, the numbers are no more in all than those of the list.
abbrev pub NoMoreInAll : Type 0
NoMoreInAll = (f : Open → ℕ) (xs ys : List Open) → AreDifferent xs → ((t : Open) → IsOneOf t xs → IsOneOf t ys) → sum_over f xs ≤ sum_over f ys
