use Rattle.std.proofs.Common.{sym, ◌∙◌}
use Rattle.resolving.proofs.Counted.{path_bad-at}
use Rattle.resolving.proofs.bad.+bad.Goals as goal

pub path_holds_bad-returns-in-len1-up : goal.path_holds_bad-returns-in-len1-up
path_holds_bad-returns-in-len1-up t c = c.segment_holds_bad.ensures ∙ sym (path_bad-at c.args.path.now c.as_slice.result.now c.segment-item.result c.as_slice.ensures c.in-len1-up.len_at_least c.segment-item.is)
