use Rattle.std.proofs.Common.{◌≡◌, drop}
use Rattle.serde_json.specs.Data.{Members}
use Rattle.serde_json.specs.View.{members_view}
use Rattle.documents.specs.Merge.{taken}
use Rattle.documents.specs.Written.{AreTextsOf}
use Rattle.documents.proofs.merging.taken_name.Given as goal

-- what is taken of all the names is taken of those that are left
abbrev pub invariant-loop-name : goal.invariant-loop-name
invariant-loop-name l =
    (values : Members) → AreTextsOf values l.new
    → (left : Members) × AreTextsOf left (drop l.name-index l.name-items)
    × (taken (members_view l.schemas.entries) values ≡ taken (members_view l.schemas.entries) left)
