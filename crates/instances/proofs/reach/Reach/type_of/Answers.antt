use Rattle.std.proofs.Common.{sym}
use Rattle.instances.proofs.Numbers.{id-within}
use Rattle.instances.proofs.reach.Reach.type_of.Goals as goal

pub type_of-requires : goal.type_of-requires
type_of-requires c = id-within c.self.inside.types c.self.inside.instances c.as_slice.result.now c.args.self.now c.args.number c.index-as_slice-number.result c.self.invariant.within c.as_slice.ensures (sym c.self.view_is) c.requires c.index-as_slice-number.is
