use Rattle.configuration.proofs.TypeLaws.{last_added}
use Rattle.configuration.proofs.names.push_last.Goals as goal

pub returns-in_ok-push : goal.returns-in_ok-push
returns-in_ok-push c =
    last_added c.args.names.now c.push.new.self c.args.segments.now c.last-item.result c.in_ok-copy.field-0
    c.in-len1-up.len_at_least c.last-item.is c.in_ok-copy.ensures c.in_ok-push.ensures.ok
