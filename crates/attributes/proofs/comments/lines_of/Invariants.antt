use Rattle.std.proofs.Common.{◌≡◌, take, map}
use Rattle.std.specs.Str.{trim_end}
use Rattle.attributes.specs.Comments.{unindented}
use Rattle.attributes.proofs.comments.lines_of.Given as goal

abbrev pub invariant-loop-doc : goal.invariant-loop-doc
invariant-loop-doc l = l.lines ≡ map (λ doc. unindented l.margin (trim_end doc)) (take l.doc-index l.docs)
