use Rattle.std.proofs.Common.{nat_eq}
use Rattle.std.proofs.lemmas.Bool.Decides.{Decides-eqb}
use Rattle.std.proofs.lemmas.List.Elements.{contains_decides, Decides-contains}
use Rattle.files.proofs.memory.is_among.Goals as goal

pub returns : goal.returns
returns c = Decides-contains _ _ _ (contains_decides nat_eq Decides-eqb _ _ _ c.contains.ensures.cases)
