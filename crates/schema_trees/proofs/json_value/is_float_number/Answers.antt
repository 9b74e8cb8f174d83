use Rattle.std.proofs.Common.{sym, ◌∙◌, arith, rules}
use Rattle.serde_json.specs.View.{number_view}
use Rattle.schema_trees.proofs.Holds.{unsigned_held, signed_held}
use Rattle.schema_trees.proofs.json_value.is_float_number.Goals as goal

pub returns-in-Some-clause-held : goal.returns-in-Some-clause-held
returns-in-Some-clause-held c = λ _. unsigned_held (number_view c.args.number.now) c.in-Some._whole (sym c.as_u64.ensures ∙ c.in-Some.is) (omega arith)

pub returns-in-Some-as_i64-clause-held : goal.returns-in-Some-as_i64-clause-held
returns-in-Some-as_i64-clause-held c = λ _.
    let number = c.args.number.now in
    signed_held number.n c.in-Some-as_i64._whole number.valid (sym c.as_u64.ensures ∙ c.in_default.is) (sym c.as_i64.ensures ∙ c.in-Some-as_i64.is) (search rules)
