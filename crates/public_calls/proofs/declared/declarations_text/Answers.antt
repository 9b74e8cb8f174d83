use Rattle.std.proofs.Common.{sym, subst}
use Rattle.syntax.specs.declared.item.Declarations.{Declarations}
use Rattle.syntax.specs.Items.{declarations_view}
use Rattle.syntax.specs.Named.{AreNamed}
use Rattle.public_calls.proofs.declared.declarations_text.Goals as goal

pub places_or_first-requires : goal.places_or_first-requires
places_or_first-requires c = subst (λ (ds : Declarations). AreNamed (declarations_view ds)) (sym c.in_ok-places.ensures) c.requires
