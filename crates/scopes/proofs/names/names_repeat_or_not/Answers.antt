use Rattle.scopes.proofs.PlaceLaws.{distinct_or_repeated, distinct_once, repeats_once}
use Rattle.scopes.proofs.names.names_repeat_or_not.Goals as goal

pub returns-clause-decided : goal.returns-clause-decided
returns-clause-decided c = distinct_or_repeated

pub returns-clause-once : goal.returns-clause-once
returns-clause-once c = distinct_once

pub returns-clause-one : goal.returns-clause-one
returns-clause-one c = repeats_once
