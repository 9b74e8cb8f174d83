use Rattle.literal_values.proofs.Characters.{begins, stays, grows}
use Rattle.literal_values.proofs.strings.quoted.Goals as goal

pub pieces-init : goal.pieces-init
pieces-init c = (c.utf8.text, begins _ _ c.new-value.ensures.bytes)

pub pieces-preserved-in-Some-Nothing : goal.pieces-preserved-in-Some-Nothing
pieces-preserved-in-Some-Nothing c =
    let here = rw c.in-Some-Nothing.field-0-is at c.in-Some-Nothing.ensures in (here.1.1, stays _ _ _ _ here.0 c.pieces.invariant.1)

pub pieces-preserved : goal.pieces-preserved
pieces-preserved c =
    let here = rw c.in-Some-Character.field-0-is at c.in-Some-Character.ensures in
    (here.1.1, grows _ _ _ _ _ _ c.in_ok-push-in-Some-Character.ensures.bytes here.0 c.pieces.invariant.1)
