-- What is not plain is of declarations that are there.
use Rattle.std.proofs.Common.{◌<◌, List, ◌∷◌, length, refl, inl, inr, sym, subst}
use Rattle.open_types.specs.Open.{Open}
use Rattle.shapes.specs.Declarations.{DeclarationOf, AreFitting}
use Rattle.shapes.specs.InstanceShape.{IsReachable}
use Rattle.instances.specs.Fitting.{ReachableFit}
use Rattle.instances.specs.Lists.{IsOneOf}
use Rattle.plainness.specs.Unplain.{AreUnplain, no_instances, one_plain, one_unplain}
use Rattle.plainness.specs.declared.unplain.Unplain.{Unplain}
use Rattle.compose.specs.Unplain.{AreDeclaredIn}
use Rattle.compose.proofs.Placed.{reachable-placed}

pub unplain-declared : ReachableFit → (ss : List DeclarationOf) → AreFitting ss → (is : List Open) → ((t : Open) → IsOneOf t is → IsReachable ss t) → (us : List Unplain) → AreUnplain ss is us → AreDeclaredIn (length ss) us
unplain-declared fit ss fitting is reached us no_instances = tt
unplain-declared fit ss fitting (t ∷ ts) reached us (one_plain plain more) = unplain-declared fit ss fitting ts (λ u i. reached u (inr i)) us more
unplain-declared fit ss fitting (t ∷ ts) reached (u ∷ us) (one_unplain unplain more) = (
  subst (λ n. n < length ss) (sym unplain.declaration) (reachable-placed fit ss fitting t (reached t (inl refl))),
  unplain-declared fit ss fitting ts (λ w i. reached w (inr i)) us more,
)
