use Rattle.std.proofs.Common.{◌≡◌, ℕ, List, Bool, true, false, Some, is_some, if◌then◌else◌, sym, ap, ◌∙◌}
use Rattle.serde_json.specs.Data.{Data, Members, member}
use Rattle.serde_json.specs.Find.{get_member}
use Rattle.serde_json.specs.View.{members_view}
use Rattle.documents.specs.Merge.{taken}
use Rattle.documents.proofs.MergeLaws.{contains}
use Rattle.documents.proofs.TextsOf.{after_item, none_left}
use Rattle.documents.proofs.merging.taken_name.Goals as goal

-- the first name is taken, or it is not and those behind it remain
first_name : (schemas : Members) (n : List ℕ) (d : Data) (ms : Members) (b : Bool) → b ≡ is_some (get_member n schemas) → taken schemas (member n d ms) ≡ (if b then Some n else taken schemas ms)
first_name schemas n d ms b is = ap (λ c. if c then Some n else taken schemas ms) (sym is)

pub returns-then-contains_key : goal.returns-then-contains_key
returns-then-contains_key c = λ values h.
    let schemas = members_view c.args.schemas.now.entries in
    let x = c.loop-name-item.result in
    let w = c.loop-name.invariant values h in
    let f = after_item w.0 c.as_slice-name-items.result.now c.loop-name.name-index x c.loop-name-item.is c.loop-name-test.true w.1 in
    let here = c.if-contains_key.ensures ∙ contains c.as_str.result.now c.args.schemas.now.entries ∙ ap (λ n. is_some (get_member n schemas)) c.as_str.ensures in
    let first = w.2 ∙ ap (taken schemas) f.all ∙ first_name schemas x.0 f.value f.behind true here in
    ap (λ (n : List ℕ). Some n) c.in_ok-copy.ensures ∙ sym first

pub loop-name-preserved : goal.loop-name-preserved
loop-name-preserved c = λ values h.
    let schemas = members_view c.args.schemas.now.entries in
    let x = c.loop-name-item.result in
    let w = c.loop-name.invariant values h in
    let f = after_item w.0 c.as_slice-name-items.result.now c.loop-name.name-index x c.loop-name-item.is c.loop-name-test.true w.1 in
    let here = c.if-contains_key.ensures ∙ contains c.as_str.result.now c.args.schemas.now.entries ∙ ap (λ n. is_some (get_member n schemas)) c.as_str.ensures in
    (f.behind, f.texts, w.2 ∙ ap (taken schemas) f.all ∙ first_name schemas x.0 f.value f.behind false here)

pub returns : goal.returns
returns c = λ values h.
    let schemas = members_view c.args.schemas.now.entries in
    let w = c.loop-name.invariant values h in
    let none = none_left w.0 c.as_slice-name-items.result.now c.loop-name.name-index c.loop-name-test.false w.1 in
    sym (w.2 ∙ ap (taken schemas) none)
