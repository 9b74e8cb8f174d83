use Rattle.std.proofs.Common.{◌≡◌, ◌<◌, [], ap, sym, ◌∙◌, subst, length, get_or, insert, map, refl, suc, rules}
use Rattle.std.proofs.lemmas.Bool.{false≢true}
use Rattle.schema_core.specs.Entries.{find, entries_of, with_entry, IsInOrder}
use Rattle.schema_trees.specs.Schema.{schema_view}
use Rattle.schema_core.proofs.EntryLaws.{still_present_at, absent_at, inserted_at, splits, Splits, in_order-insert, length-insert}
use Rattle.schema_core.proofs.components.Components.insert.Goals as goal
use Rattle.schema_core.proofs.components.Components.insert.Goals.{In_ok-insert_both-in-Err}

-- where the new name belongs
parts : (c : In_ok-insert_both-in-Err) → Splits c.args.name c.in-Err.at c.self.inside.names
parts c =
    let at = c.in-Err.at in
    let named : c.as_str.result.now ≡ c.args.name = search rules in
    let here : Splits c.as_str.result.now at c.as_slice.result.now = splits c.as_str.result.now at c.as_slice.result.now c.in-Err.ensures.bound (λ i l. c.place_of.ensures.before i at c.in-Err.is l) (λ i g l. c.place_of.ensures.after i at c.in-Err.is g l) in
    subst (λ k. Splits k at c.self.inside.names) named (subst (Splits c.as_str.result.now at) c.as_slice.ensures here)

pub invariant_of-self-in-Err : goal.invariant_of-self-in-Err
invariant_of-self-in-Err c =
    let ns = c.self.inside.names in
    let ss = c.self.inside.schemas in
    let at = c.in-Err.at in (
      ap length c.in_ok-insert_both-in-Err.ensures.names ∙ length-insert ns at c.args.name ∙ ap suc c.self.invariant.0 ∙ sym (length-insert ss at c.args.schema) ∙ sym (ap length c.in_ok-insert_both-in-Err.ensures.schemas),
      subst IsInOrder (sym c.in_ok-insert_both-in-Err.ensures.names) (in_order-insert c.args.name at ns c.self.invariant.1 (parts c)),
    )

pub returns-in-Ok-clause-new : goal.returns-in-Ok-clause-new
returns-in-Ok-clause-new c =
    let ns = c.self.inside.names in
    let ss = c.self.inside.schemas in
    let at = c.in-Ok.field-0 in
    let named : c.as_str.result.now ≡ c.args.name = search rules in
    let bound : at < length ns = subst (λ ys. at < length ys) c.as_slice.ensures c.in-Ok.ensures.bound in
    let found : get_or ns at [] ≡ c.args.name = ap (λ ys. get_or ys at []) (sym c.as_slice.ensures) ∙ c.in-Ok.ensures.found ∙ named in (
      λ e. absurd (false≢true e),
      λ e. absurd (still_present_at schema_view ns ss c.args.name at c.self.invariant.1 c.self.invariant.0 bound found (ap (find c.args.name) c.self.view_is ∙ e)),
    )

pub returns-in_ok-insert_both-in-Err-clause-new : goal.returns-in_ok-insert_both-in-Err-clause-new
returns-in_ok-insert_both-in-Err-clause-new c = (
  λ e. sym (ap (find c.args.name) c.self.view_is) ∙ absent_at schema_view c.self.inside.names c.self.inside.schemas c.args.name c.in-Err.at c.self.invariant.1 c.self.invariant.0 (parts c),
  λ e. refl,
)

pub returns-in_ok-insert_both-in-Err-clause-entries : goal.returns-in_ok-insert_both-in-Err-clause-entries
returns-in_ok-insert_both-in-Err-clause-entries c =
    let ns = c.self.inside.names in
    let ss = c.self.inside.schemas in
    ap (λ ys. entries_of ys (map schema_view c.insert_both.new.schemas)) c.in_ok-insert_both-in-Err.ensures.names
    ∙ ap (λ ts. entries_of (insert ns c.in-Err.at c.args.name) (map schema_view ts)) c.in_ok-insert_both-in-Err.ensures.schemas
    ∙ inserted_at schema_view ns ss c.args.name c.in-Err.at c.self.invariant.1 c.self.invariant.0 c.args.schema (parts c)
    ∙ ap (with_entry c.args.name (schema_view c.args.schema)) c.self.view_is
