-- What is in the way in the first of the items, by what each stands for.
use Rattle.std.proofs.Common.{◌≡◌, List, [], ◌∷◌, map, Option, Result, Ok, Err, IfOk, refl, ap, ◌∙◌}
use Rattle.std.specs.Option.{option_or}
use Rattle.open_types.specs.Open.{Open, Opens, open_view, substituted}
use Rattle.shapes.specs.declared.declaration.Member.{Member}
use Rattle.shapes.specs.Declarations.{member_types}
use Rattle.shapes.specs.Instances.{member_over}
use Rattle.shapes.specs.Views.{member_view}
use Rattle.plainness.specs.declared.unplain.Obstacle.{Obstacle}
use Rattle.plainness.specs.Obstacles.{first_obstacle, TellsObstacle}

pub first_mapped : {A B C : Type 0} (o : C → Option Obstacle) (g : B → C) (f : A → B) (xs : List A) → first_obstacle (λ x. o (g (f x))) xs ≡ first_obstacle o (map g (map f xs))
first_mapped o g f [] = refl
first_mapped o g f (x ∷ xs) = ap (option_or (o (g (f x)))) (first_mapped o g f xs)

pub first_member : (o : Open → Option Obstacle) (args : Opens) (ms : List Member) → first_obstacle (λ m. o (substituted args (open_view m.ty))) ms ≡ first_obstacle o (member_types (map (member_over args) (map member_view ms)))
first_member o args [] = refl
first_member o args (m ∷ ms) = ap (option_or (o (substituted args (open_view m.ty)))) (first_member o args ms)

-- what is answered for the items is what is in the way in the whole, where that is the first of them, and what is answered at each is what is in the way in it
pub first_told : {A E : Type 0} (answers : A → Option Obstacle → Type 0) (r : Result (Option Obstacle) E) (o : A → Option Obstacle) (xs : List A) (whole : Option Obstacle) →
    IfOk r (λ found. (p : A → Option Obstacle) → TellsObstacle answers p → found ≡ first_obstacle p xs) → first_obstacle o xs ≡ whole → TellsObstacle answers o → IfOk r (λ found. found ≡ whole)
first_told answers (Ok found) o xs whole h e told = h o told ∙ e
first_told answers (Err x) o xs whole h e told = tt
