use Rattle.std.proofs.Common.{◌≡◌, ℕ, List, Result, Ok, Err, IfOk, false, nat_cmp, sym, subst}
use Rattle.std.specs.BTreeMap.{insert_entry}
use Rattle.std.specs.Cmp.Lexicographic.{slice_cmp}
use Rattle.serde_json.specs.Data.{Data, Members, put}
use Rattle.serde_json.specs.View.{members_view}
use Rattle.documents.specs.Text.{IsJsonOf}
use Rattle.documents.specs.Written.{AreTextsOf}
use Rattle.documents.proofs.TextsOf.{Texts, texts_put}
use Rattle.documents.proofs.merging.object_text_with.Goals as goal

if_ok : {A E : Type 0} (r : Result A E) {P Q : A → Type 0} → ((a : A) → P a → Q a) → IfOk r P → IfOk r Q
if_ok (Ok a) h p = h a p
if_ok (Err e) h p = tt

-- the texts with one more, under its name
put_in : (members : Members) (old new : Texts) (k name t : List ℕ) (value : Data) → AreTextsOf members old → IsJsonOf false value t → k ≡ name → new ≡ insert_entry (slice_cmp nat_cmp) old k t → AreTextsOf (put name value members) new
put_in members old new k name t value h is named entries =
    subst (AreTextsOf (put name value members)) (sym entries) (subst (λ n. AreTextsOf (put n value members) (insert_entry (slice_cmp nat_cmp) old k t)) named (texts_put members old k value t h is))

pub returns : goal.returns
returns c =
    let members = members_view c.args.members.entries in
    let name = c.args.name.now in
    if_ok c.object_text.result
    (λ json h value is. h (put name value members) (put_in members c.in_ok-texts.texts.entries c.insert.new.self.entries c.in_ok-new.field-0 name c.args.text value c.in_ok-texts.ensures is c.in_ok-new.ensures c.in_ok-insert.ensures.entries))
    c.object_text.ensures
