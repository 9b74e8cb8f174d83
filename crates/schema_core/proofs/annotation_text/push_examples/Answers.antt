use Rattle.std.proofs.Common.{refl, subst, codes, string_bytes}
use Rattle.std.proofs.lemmas.Result.{IfOk-weaker}
use Rattle.json.specs.Print.{escape_byte}
use Rattle.schema_core.specs.Writes.{Writes, example_annotations}
use Rattle.schema_core.proofs.Writes.{then}
use Rattle.schema_core.proofs.annotation_text.push_examples.Goals as goal

pub returns-in_ok-later-in-Some : goal.returns-in_ok-later-in-Some
unfolding escape_byte
returns-in_ok-later-in-Some c =
    let before = string_bytes c.args.text.now in
    IfOk-weaker c.push_jsons.result _ _
    (λ went w.
    subst (λ n. Writes (example_annotations n) c.args.later before went (string_bytes c.push_jsons.new.text)) c.in-Some.ensures
    (then (c.in_ok-later-in-Some.ensures (codes "example") refl) (w (codes "examples") refl)))
    c.push_jsons.ensures
