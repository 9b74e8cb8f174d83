use Rattle.std.proofs.Common.{◌≡◌, ◌++◌, ◌∷◌, []}
use Rattle.json.specs.Token.{begin_object}
use Rattle.serde_json.specs.Data.{Members}
use Rattle.documents.specs.Written.{AreTextsOf}
use Rattle.documents.proofs.TextsOf.{member_tokens}
use Rattle.documents.proofs.object_text.object_text.Given as goal

-- what is written, and what the texts that are left have, are the tokens of the object
abbrev pub invariant-loop-name : goal.invariant-loop-name
invariant-loop-name l =
    (l.out.before ≡ [])
    × ((values : Members) → AreTextsOf values l.members.entries
    → (left : Members) × AreTextsOf left l.name-iterator × (l.out.tokens ++ member_tokens l.name-iterator ≡ begin_object ∷ member_tokens l.members.entries))
