use Rattle.std.proofs.Common.{◌∷◌, [], refl, subst, codes, option_map, string_bytes}
use Rattle.std.proofs.lemmas.Result.{IfOk-weaker}
use Rattle.json.specs.Print.{escape_byte}
use Rattle.acceptance.specs.Json.{text}
use Rattle.schema_core.specs.Writes.{Writes}
use Rattle.schema_core.proofs.annotation_text.push_title.Goals as goal

pub returns-in-Some : goal.returns-in-Some
unfolding escape_byte
returns-in-Some c =
    let before = string_bytes c.args.text.now in
    IfOk-weaker c.push_text.result _ _
    (λ went w. subst (λ n. Writes ((codes "title", option_map text n.title) ∷ []) c.args.later before went (string_bytes c.push_text.new.text)) c.in-Some.ensures (w (codes "title") refl))
    c.push_text.ensures
