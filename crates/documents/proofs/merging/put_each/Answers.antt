use Rattle.std.proofs.Common.{false, sym, ap, ◌∙◌, subst}
use Rattle.serde_json.specs.Data.{put}
use Rattle.documents.specs.Merge.{with_each}
use Rattle.documents.specs.Text.{IsJsonOf}
use Rattle.documents.specs.Written.{AreTextsOf}
use Rattle.documents.proofs.TextsOf.{after_item, none_left, texts_put}
use Rattle.documents.proofs.merging.put_each.Goals as goal

pub loop-name-preserved : goal.loop-name-preserved
loop-name-preserved c = λ schemas values h k.
    let x = c.loop-name-item.result in
    let name = c.in_ok-copy.field-0 in
    let w = c.loop-name.invariant schemas values h k in
    let f = after_item w.1 c.as_slice-name-items.result.now c.loop-name.name-index x c.loop-name-item.is c.loop-name-test.true w.3 in
    let json = subst (IsJsonOf false f.value) (sym c.in_ok-copy-2.ensures) f.json in
    let all = texts_put w.0 c.loop-name.texts.entries name f.value c.in_ok-copy-2.field-0 w.2 json in (
      put name f.value w.0,
      f.behind,
      subst (AreTextsOf (put name f.value w.0)) (sym c.in_ok-insert.ensures.entries) all,
      f.texts,
      ap (λ n. with_each (put n f.value w.0) f.behind) c.in_ok-copy.ensures ∙ sym (ap (with_each w.0) f.all) ∙ w.4,
    )

pub returns : goal.returns
returns c = λ schemas values h k.
    let w = c.loop-name.invariant schemas values h k in
    let none = none_left w.1 c.as_slice-name-items.result.now c.loop-name.name-index c.loop-name-test.false w.3 in
    subst (λ ms. AreTextsOf ms c.loop-name.texts.entries) (sym (ap (with_each w.0) none) ∙ w.4) w.2
