use Rattle.std.proofs.Common.{◌≡◌, take}
use Rattle.prepare.specs.FileItems.{items_in, impls_in, aliases_in}
use Rattle.prepare.proofs.contents.parts_in.Given as goal

abbrev pub invariant-loop-standing : goal.invariant-loop-standing
invariant-loop-standing l =
    (l.parts.items ≡ items_in l.file l.source (take l.standing-index l.standing)) × (l.parts.impls ≡ impls_in l.file l.source (take l.standing-index l.standing))
    × (l.parts.aliases ≡ aliases_in l.file l.source (take l.standing-index l.standing)) × (l.places ≡ l.source)
