use Rattle.std.proofs.Common.{◌≡◌, take, map}
use Rattle.written_types.specs.Written.{plain, segment_view}
use Rattle.attributes.proofs.path.path_of.Given as goal

abbrev pub invariant-loop-ident : goal.invariant-loop-ident
invariant-loop-ident l = map segment_view l.segments ≡ map plain (take l.ident-index l.idents)
