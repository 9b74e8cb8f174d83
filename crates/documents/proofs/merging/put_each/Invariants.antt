use Rattle.std.proofs.Common.{◌≡◌, drop}
use Rattle.serde_json.specs.Data.{Members}
use Rattle.documents.specs.Merge.{with_each}
use Rattle.documents.specs.Written.{AreTextsOf}
use Rattle.documents.proofs.merging.put_each.Given as goal

-- putting those that are left now gives what putting all gives at the start
abbrev pub invariant-loop-name : goal.invariant-loop-name
invariant-loop-name l =
    (schemas values : Members) → AreTextsOf schemas l.fn.texts.entries → AreTextsOf values l.fn.new
    → (now left : Members) × AreTextsOf now l.texts.entries × AreTextsOf left (drop l.name-index l.name-items)
    × (with_each now left ≡ with_each schemas values)
