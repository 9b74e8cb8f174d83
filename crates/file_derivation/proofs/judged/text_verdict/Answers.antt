use Rattle.std.proofs.Common.{map, ap}
use Rattle.std.specs.Borrow.{Bor}
use Rattle.prepare.specs.declared.file_items.FileItem.{FileItem}
use Rattle.file_derivation.proofs.Stages.{some_told}
use Rattle.file_derivation.proofs.Judging.{refused_one}
use Rattle.file_derivation.proofs.judged.text_verdict.Goals as goal

pub returns : goal.returns
returns c =
    refused_one {i = c.args.item.now} c.remove.result c.in_ok-reading.ensures.read (ap (map (λ (v : Bor FileItem). v.now)) c.from_ref.ensures.value) (some_told c.is_empty.result c.is_empty.ensures c.if-is_empty.false) c.remove.ensures.item
