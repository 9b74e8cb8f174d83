use Rattle.std.proofs.Common.{◌≡◌, ◌++◌, ◌∷◌, [], ℕ, List, false, string_bytes, string_cmp, nat_cmp, sym, ap, ◌∙◌, subst, append_assoc}
use Rattle.std.specs.BTreeMap.{insert_entry}
use Rattle.std.specs.Cmp.Lexicographic.{slice_cmp}
use Rattle.std.specs.List.Sorted.{IsStrictlySortedBy}
use Rattle.std.specs.Map.{keys_of}
use Rattle.serde_json.specs.Data.{put}
use Rattle.serde_json.specs.View.{view, members_view}
use Rattle.serde_json.proofs.Views.{Entry, put_last}
use Rattle.documents.specs.Text.{IsJsonOf}
use Rattle.documents.specs.Written.{AreTextsOf}
use Rattle.documents.proofs.TextsOf.{Texts, texts_put}
use Rattle.documents.proofs.object_text.member_texts.Goals as goal

-- one more member, the last of those so far, and its text
one_more : (done rest all : List Entry) (e : Entry) (old new : Texts) (k t : List ℕ) → done ++ e ∷ rest ≡ all → IsStrictlySortedBy string_cmp (keys_of all) → AreTextsOf (members_view done) old → k ≡ string_bytes e.0 → IsJsonOf false (view e.1) t
    → new ≡ insert_entry (slice_cmp nat_cmp) old k t → AreTextsOf (members_view (done ++ e ∷ [])) new
one_more done rest all e old new k t is order before named json put_in =
    let put_there = texts_put (members_view done) old k (view e.1) t before json in
    let last = ap (λ n. put n (view e.1) (members_view done)) named ∙ put_last done e rest (subst (λ es. IsStrictlySortedBy string_cmp (keys_of es)) (sym is) order) in
    subst (AreTextsOf (members_view (done ++ e ∷ []))) (sym put_in) (subst (λ ms. AreTextsOf ms (insert_entry (slice_cmp nat_cmp) old k t)) last put_there)

pub loop-name-preserved-in_ok-insert : goal.loop-name-preserved-in_ok-insert
loop-name-preserved-in_ok-insert c =
    let done = c.loop-name.invariant.0 in
    let e : Entry = (c.in-Some.name.now, c.in-Some.value.now) in
    let rest = c.next.new.self in
    let is = ap (λ (es : List Entry). done ++ es) (sym c.in-Some.ensures.steps) ∙ c.loop-name.invariant.1 in
    let json : IsJsonOf false (view e.1) (string_bytes c.in_ok-to_string.field-0) =
    record { reads = c.in_ok-to_string.ensures.reads_back; order = c.in_ok-to_string.ensures.order; layout = (c.in_ok-to_string.ensures.compact, c.in_ok-to_string.ensures.text) } in
    let text = subst (IsJsonOf false (view e.1)) (sym c.from-text.ensures) json in (
      done ++ e ∷ [],
      append_assoc done (e ∷ []) rest ∙ is,
      one_more done rest c.args.members.now.entries e c.loop-name.texts.entries c.insert.new.self.entries c.in_ok-new.field-0 c.from-text.result is c.iter-name-items.ensures.ordered c.loop-name.invariant.2 (c.in_ok-new.ensures ∙ c.as_str.ensures.value) text c.in_ok-insert.ensures.entries,
    )

pub loop-name-preserved : goal.loop-name-preserved
loop-name-preserved c =
    let done = c.loop-name.invariant.0 in
    let e : Entry = (c.in-Some.name.now, c.in-Some.value.now) in
    let rest = c.next.new.self in
    let is = ap (λ (es : List Entry). done ++ es) (sym c.in-Some.ensures.steps) ∙ c.loop-name.invariant.1 in
    let json : IsJsonOf false (view e.1) (string_bytes c.in_ok-to_string.field-0) =
    record { reads = c.in_ok-to_string.ensures.reads_back; order = c.in_ok-to_string.ensures.order; layout = (c.in_ok-to_string.ensures.compact, c.in_ok-to_string.ensures.text) } in
    let text = subst (IsJsonOf false (view e.1)) (sym c.from-text.ensures) json in (
      done ++ e ∷ [],
      append_assoc done (e ∷ []) rest ∙ is,
      one_more done rest c.args.members.now.entries e c.loop-name.texts.entries c.insert.new.self.entries c.in_ok-new.field-0 c.from-text.result is c.iter-name-items.ensures.ordered c.loop-name.invariant.2 (c.in_ok-new.ensures ∙ c.as_str.ensures.value) text c.in_ok-insert.ensures.entries,
    )
