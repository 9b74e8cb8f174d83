use Rattle.warnings.proofs.TypeLaws.{last_segment-at}
use Rattle.warnings.proofs.through.last_segment.Goals as goal

pub returns-in-len1-up : goal.returns-in-len1-up
returns-in-len1-up c = last_segment-at c.args.segments.now c.segment-item.result c.in-len1-up.len_at_least c.segment-item.is
