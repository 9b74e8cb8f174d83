use Rattle.std.proofs.Common.{◌≡◌, List, ℕ, true, false, sym, subst}
use Rattle.std.proofs.lemmas.Result.{IfOk-weaker}
use Rattle.serde_json.specs.Data.{Data}
use Rattle.documents.specs.Text.{IsTextOf}
use Rattle.file_runs.proofs.showing.laid_out.Goals as goal

pub returns-then-is_pretty-clause-layout : goal.returns-then-is_pretty-clause-layout
returns-then-is_pretty-clause-layout c =
    let same : c.as_str.result.now ≡ c.args.text = c.as_str.ensures in
    IfOk-weaker c.pretty_text.result _ _ (λ (shown : List ℕ) made value is. subst (λ b. IsTextOf b value shown) (sym c.if-is_pretty.true) (made value (subst (λ (t : List ℕ). IsTextOf false value t) (sym same) is))) c.pretty_text.ensures
