use Rattle.std.proofs.Common.{refl, codes}
use Rattle.std.proofs.lemmas.Result.{IfOk-weaker}
use Rattle.json.specs.Print.{escape_byte}
use Rattle.schema_core.proofs.Writes.{then}
use Rattle.schema_core.proofs.annotation_text.push_first_keywords.Goals as goal

pub returns : goal.returns
unfolding escape_byte
returns c =
    IfOk-weaker c.push_text-3.result _ _
    (λ went w.
    then (c.in_ok-later.ensures (codes "contentEncoding") refl)
    (then (c.in_ok-later-2.ensures (codes "contentMediaType") refl)
    (then (c.in_ok-later-3.ensures (codes "default") refl)
    (then (c.in_ok-later-4.ensures (codes "deprecated") refl) (w (codes "description") refl)))))
    c.push_text-3.ensures
