use Rattle.std.proofs.Common.{◌<◌, length, refl, sym, ◌∙◌, codes, arith, subst, string_bytes, ◌∷◌, [], true}
use Rattle.json.specs.Print.{escape_byte}
use Rattle.acceptance.specs.Json.{list}
use Rattle.schema_core.specs.Form.{texts_form}
use Rattle.schema_core.specs.Writes.{Writes}
use Rattle.schema_core.proofs.Held.{texts_held}
use Rattle.schema_core.proofs.Values.{some_texts}
use Rattle.schema_core.proofs.Writes.{present_from}
use Rattle.schema_core.proofs.schema_text.push_required.Goals as goal

pub returns : goal.returns
unfolding escape_byte
returns c =
    let ks = c.args.required.now in
    let some : 0 < length ks = grind arith in
    subst (λ o. Writes ((codes "required", o) ∷ []) c.args.later (string_bytes c.args.text.now) true (string_bytes c.push_str.new.self)) (sym (some_texts ks some))
    (present_from (codes "required") (list (texts_form ks)) c.args.later (codes "[") _ _ _ _ _ refl c.in_ok-push_key.ensures (c.in_ok-push_str.ensures.bytes ∙ c.in_ok-push_texts.ensures) refl (texts_held ks))
