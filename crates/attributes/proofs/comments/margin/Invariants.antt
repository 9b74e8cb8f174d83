use Rattle.std.proofs.Common.{◌≡◌, take, map}
use Rattle.std.specs.Str.{trim_end}
use Rattle.attributes.specs.Comments.{margin}
use Rattle.attributes.proofs.comments.margin.Given as goal

abbrev pub invariant-loop-doc : goal.invariant-loop-doc
invariant-loop-doc l = l.least ≡ margin (map trim_end (take l.doc-index l.docs))
