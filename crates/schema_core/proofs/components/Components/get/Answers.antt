use Rattle.std.proofs.Common.{◌≡◌, [], ◌<◌, ap, sym, ◌∙◌, subst, length, get_or}
use Rattle.schema_core.specs.Entries.{find}
use Rattle.schema_trees.specs.Schema.{schema_view}
use Rattle.schema_core.proofs.EntryLaws.{found_at, absent_at, splits, Splits}
use Rattle.schema_core.proofs.components.Components.get.Goals as goal

pub returns-in-Ok : goal.returns-in-Ok
returns-in-Ok c =
    let ns = c.self.inside.names in
    let ss = c.self.inside.schemas in
    let bound : c.in-Ok.at < length ns = subst (λ ys. c.in-Ok.at < length ys) c.as_slice.ensures c.in-Ok.ensures.bound in
    let named : get_or ns c.in-Ok.at [] ≡ c.args.name.now = ap (λ ys. get_or ys c.in-Ok.at []) (sym c.as_slice.ensures) ∙ c.in-Ok.ensures.found in
    let item : c.index-as_slice-at.result ≡ get_or ss c.in-Ok.at c.index-as_slice-at.result = c.index-as_slice-at.is ∙ ap (λ ys. get_or ys c.in-Ok.at c.index-as_slice-at.result) c.as_slice-in-Ok.ensures in
    found_at schema_view ns ss c.args.name.now c.in-Ok.at c.self.invariant.1 c.self.invariant.0 c.index-as_slice-at.result bound named item ∙ ap (find c.args.name.now) c.self.view_is

pub returns-in-Err : goal.returns-in-Err
returns-in-Err c =
    let ns = c.self.inside.names in
    let at = c.in-Err.field-0 in
    let parts : Splits c.args.name.now at c.as_slice.result.now = splits c.args.name.now at c.as_slice.result.now c.in-Err.ensures.bound (λ i l. c.place_of.ensures.before i at c.in-Err.is l) (λ i g l. c.place_of.ensures.after i at c.in-Err.is g l) in
    sym (ap (find c.args.name.now) (sym c.self.view_is) ∙ absent_at schema_view ns c.self.inside.schemas c.args.name.now at c.self.invariant.1 c.self.invariant.0 (subst (Splits c.args.name.now at) c.as_slice.ensures parts))
