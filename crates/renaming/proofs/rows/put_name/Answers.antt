use Rattle.std.proofs.Common.{◌≡◌, ◌∙◌, Some, cond, ap, sym, subst}
use Rattle.std.specs.BTreeMap.{get, is_at}
use Rattle.renaming.specs.declared.row_key.RowKey.{RowKey}
use Rattle.renaming.specs.Cases.{renamed}
use Rattle.renaming.specs.Rows.{key_cmp, key_of, name_for}
use Rattle.renaming.proofs.Tables.{table_more}
use Rattle.renaming.proofs.rows.put_name.Goals as goal

pub returns-in-Ok-clause-put : goal.returns-in-Ok-clause-put
returns-in-Ok-clause-put c = λ before is.
    let a = c.args.asked.now in
    let to = c.in-Some.to in
    let old = c.args.table.now in
    let new = c.insert.new.self in
    let named : name_for (key_of a) ≡ Some to = sym (c.in_ok-to.ensures ∙ ap (renamed a.rule a.place) c.as_str.ensures) ∙ c.in-Some.is in
    let updates : (k : RowKey) → get key_cmp new k ≡ cond (is_at (key_cmp (key_of a)) k) (Some to) (get key_cmp old k) =
    subst (λ from. (k : RowKey) → get key_cmp new k ≡ cond (is_at (key_cmp (record { rule = a.rule; place = a.place; from = from })) k) (Some to) (get key_cmp old k)) c.in_ok-copy.ensures c.in-Ok.ensures.updates.0 in
    table_more c.rules_have_own_names.ensures before a to old new named updates is
