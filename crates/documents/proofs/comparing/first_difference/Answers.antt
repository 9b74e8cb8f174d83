use Rattle.std.proofs.Common.{ℕ, List, MatchBool, Some, None, false, sym, ap₂, ◌∙◌, string_bytes, nat_cmp, subst}
use Rattle.std.specs.Cmp.Lexicographic.{slice_cmp}
use Rattle.serde_json.specs.View.{view}
use Rattle.serde_json.specs.Data.{Data}
use Rattle.serde_json.proofs.Views.{Entry}
use Rattle.documents.specs.Difference.{AreAlike, AreOthers}
use Rattle.documents.specs.Text.{IsJsonOf}
use Rattle.documents.specs.declared.comparing.Difference.TheVariants.{Missing, Surplus, Another}
use Rattle.documents.proofs.DifferenceLaws.{AreOrdered, behind, is_before, is_before_none, is_less}
use Rattle.documents.proofs.DifferenceTexts.{FindsText, found_surplus, found_missing, found_another, found_behind, is_before_texts, is_before_no_text, nothing_differs}
use Rattle.std.proofs.lemmas.List.{nil_from_length}
use Rattle.documents.proofs.comparing.first_difference.Goals as goal

pub loop-name-init : goal.loop-name-init
loop-name-init c =
    let entries = c.into_iter-name-iterator.ensures.into_iter_gives ∙ c.iter-name-items.ensures.rest in
    let texts = c.iter-others.ensures.rest ∙ c.as_slice.ensures in (
      subst AreOrdered (sym entries) c.iter-name-items.ensures.ordered,
      λ found h. subst (λ es. FindsText es c.args.news.now found) entries (subst (λ ts. FindsText c.into_iter-name-iterator.result ts found) texts h),
    )

pub returns-in_default : goal.returns-in_default
returns-in_default c =
    let e : Entry = (c.in-Some.name.now, c.in-Some.old.now) in
    let l = c.loop-name in
    let name = c.in_ok-new.field-0 in
    let named = c.in_ok-new.ensures ∙ c.as_str.ensures.value in
    let none = nil_from_length l.others.rest.now c.in_default.ensures.steps.0 in
    l.invariant.1 (Some (Surplus name))
    (found_surplus name l.name-iterator l.others.rest.now e c.next.new.self c.in-Some.ensures.steps named l.invariant.0 (λ order. is_before_no_text (string_bytes e.0) l.others.rest.now none))

pub returns-in-Less : goal.returns-in-Less
returns-in-Less c =
    let e : Entry = (c.in-Some.name.now, c.in-Some.old.now) in
    let t : List ℕ × List ℕ = c.in-Some-next.field-0.now in
    let l = c.loop-name in
    let name = c.in_ok-new-in-Less.field-0 in
    let named = c.in_ok-new-in-Less.ensures ∙ c.as_str-in-Less.ensures.value in
    let less = sym (ap₂ (slice_cmp nat_cmp) c.as_str-in-loop-name.ensures.value c.as_str-in-loop-name-2.ensures) ∙ sym c.in-Less.ensures in
    l.invariant.1 (Some (Surplus name))
    (found_surplus name l.name-iterator l.others.rest.now e c.next.new.self c.in-Some.ensures.steps named l.invariant.0
    (λ order. is_before_texts (string_bytes e.0) l.others.rest.now t c.next-in-loop-name.new.self.rest.now c.in-Some-next.ensures.steps less order))

pub returns-in-Greater : goal.returns-in-Greater
returns-in-Greater c =
    let e : Entry = (c.in-Some.name.now, c.in-Some.old.now) in
    let t : List ℕ × List ℕ = c.in-Some-next.field-0.now in
    let l = c.loop-name in
    let name = c.in_ok-copy-in-Greater.field-0 in
    let greater = sym (ap₂ (slice_cmp nat_cmp) c.as_str-in-loop-name.ensures.value c.as_str-in-loop-name-2.ensures) ∙ sym c.in-Greater.ensures in
    let before = is_before t.0 l.name-iterator e c.next.new.self c.in-Some.ensures.steps l.invariant.0 (is_less (string_bytes e.0) t.0 greater) in
    l.invariant.1 (Some (Missing name))
    (found_missing name l.name-iterator l.others.rest.now t c.next-in-loop-name.new.self.rest.now c.in-Some-next.ensures.steps c.in_ok-copy-in-Greater.ensures before)

pub returns-then-not-branch : goal.returns-then-not-branch
returns-then-not-branch c =
    let e : Entry = (c.in-Some.name.now, c.in-Some.old.now) in
    let t : List ℕ × List ℕ = c.in-Some-next.field-0.now in
    let l = c.loop-name in
    let name = c.in_ok-copy-in-Equal.field-0 in
    let equal = sym (ap₂ (slice_cmp nat_cmp) c.as_str-in-loop-name.ensures.value c.as_str-in-loop-name-2.ensures) ∙ sym c.in-Equal.ensures in
    let others = λ (new : Data) (h : IsJsonOf false new t.1). subst (λ b. MatchBool b (AreAlike (view e.1) new) (AreOthers (view e.1) new)) c.if-not-branch.true (c.in_ok-is_text_of-in-Equal.ensures new h) in
    l.invariant.1 (Some (Another name))
    (found_another name l.name-iterator l.others.rest.now e c.next.new.self t c.next-in-loop-name.new.self.rest.now c.in-Some.ensures.steps c.in-Some-next.ensures.steps c.in_ok-copy-in-Equal.ensures l.invariant.0 equal others)

pub loop-name-preserved : goal.loop-name-preserved
loop-name-preserved c =
    let e : Entry = (c.in-Some.name.now, c.in-Some.old.now) in
    let t : List ℕ × List ℕ = c.in-Some-next.field-0.now in
    let l = c.loop-name in
    let es = c.next.new.self in
    let equal = sym (ap₂ (slice_cmp nat_cmp) c.as_str-in-loop-name.ensures.value c.as_str-in-loop-name-2.ensures) ∙ sym c.in-Equal.ensures in
    let alike = λ (new : Data) (h : IsJsonOf false new t.1). subst (λ b. MatchBool b (AreAlike (view e.1) new) (AreOthers (view e.1) new)) c.if-not-branch.false (c.in_ok-is_text_of-in-Equal.ensures new h) in (
      behind e es (subst AreOrdered c.in-Some.ensures.steps l.invariant.0),
      λ found h. l.invariant.1 found (found_behind l.name-iterator l.others.rest.now e es t c.next-in-loop-name.new.self.rest.now c.in-Some.ensures.steps c.in-Some-next.ensures.steps l.invariant.0 equal alike found h),
    )

pub returns-in_ok-copy-in-Some-next-2 : goal.returns-in_ok-copy-in-Some-next-2
returns-in_ok-copy-in-Some-next-2 c =
    let t : List ℕ × List ℕ = c.in-Some-next-2.field-0.now in
    let l = c.loop-name in
    let name = c.in_ok-copy-in-Some-next-2.field-0 in
    l.invariant.1 (Some (Missing name))
    (found_missing name l.name-iterator l.others.rest.now t c.next-2.new.self.rest.now c.in-Some-next-2.ensures.steps c.in_ok-copy-in-Some-next-2.ensures (is_before_none t.0 l.name-iterator c.in-None.ensures.steps.0))

pub returns-in-None-next : goal.returns-in-None-next
returns-in-None-next c =
    let l = c.loop-name in
    l.invariant.1 None (nothing_differs l.name-iterator l.others.rest.now c.in-None.ensures.steps.0 (nil_from_length l.others.rest.now c.in-None-next.ensures.steps.0))
