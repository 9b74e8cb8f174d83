use Rattle.std.proofs.Common.{◌≡◌, ◌++◌, List}
use Rattle.serde_json.specs.View.{members_view}
use Rattle.serde_json.proofs.Views.{Entry}
use Rattle.documents.specs.Written.{AreTextsOf}
use Rattle.documents.proofs.object_text.member_texts.Given as goal

-- the texts are those of the members so far
abbrev pub invariant-loop-name : goal.invariant-loop-name
invariant-loop-name l =
    (done : List Entry) × (done ++ l.name-iterator ≡ l.members.entries) × AreTextsOf (members_view done) l.texts.entries
