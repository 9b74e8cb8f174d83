use Rattle.std.proofs.Common.{◌≡◌, ◌<◌, ap, ap₂, ◌∙◌, sym, take, map, length, get_or, arith}
use Rattle.std.proofs.lemmas.List.{length-map, get_or-map}
use Rattle.acceptance.specs.Json.{put_all, no_members}
use Rattle.acceptance.specs.Data.{members_data}
use Rattle.schema_core.specs.Document.{entry_form}
use Rattle.schema_core.specs.Entries.{entries_of}
use Rattle.schema_trees.specs.Schema.{schema_view}
use Rattle.schema_core.proofs.EntryLaws.{entry_at, length-entries, take_all_past}
use Rattle.schema_core.proofs.Values.{put_step}
use Rattle.schema_core.proofs.components.schema_values.Goals as goal

pub loop-i-preserved : goal.loop-i-preserved
loop-i-preserved c =
    let ns = c.args.names.now in
    let ss = map schema_view c.args.schemas.now in
    let es = entries_of ns ss in
    let n = c.index-names-i.result in
    let s = c.index-schemas-i.result in
    let even : length ns ≡ length ss = c.requires ∙ sym (length-map c.args.schemas.now schema_view) in
    let within : c.loop-i.i < length es = omega (arith, length-entries ns ss even) in
    let schema_here : schema_view s ≡ get_or ss c.loop-i.i (schema_view s) = ap schema_view c.index-schemas-i.is ∙ sym (get_or-map schema_view c.args.schemas.now c.loop-i.i s (schema_view s) (omega arith)) in
    let here : (n, schema_view s) ≡ get_or es c.loop-i.i (n, schema_view s) = ap₂ (λ m t. (m, t)) c.index-names-i.is schema_here ∙ sym (entry_at ns ss c.loop-i.i n (schema_view s) even (omega arith)) in
    put_step (entry_form c.args.by) es c.loop-i.i (n, schema_view s) within here _ _ _ _ c.as_str.ensures c.in_ok-value.ensures c.loop-i.invariant c.in_ok-put.ensures

pub returns : goal.returns
returns c =
    let ns = c.args.names.now in
    let ss = map schema_view c.args.schemas.now in
    let even : length ns ≡ length ss = c.requires ∙ sym (length-map c.args.schemas.now schema_view) in
    let whole : take c.loop-i.i (entries_of ns ss) ≡ entries_of ns ss = take_all_past (entries_of ns ss) c.loop-i.i (omega (arith, length-entries ns ss even)) in
    c.loop-i.invariant ∙ ap (λ es. members_data (put_all (map (entry_form c.args.by) es) no_members)) whole
