use Rattle.std.proofs.Common.{◌≡◌, ◌∙◌, ◌≤◌, ◌-◌, length, take, ap, sym, arith}
use Rattle.std.proofs.lemmas.List.{take_all}
use Rattle.file_derivation.proofs.Hundred.{take_fewer}
use Rattle.file_derivation.proofs.warned.Warnings.of.Goals as goal

pub told-preserved : goal.told-preserved
told-preserved c =
    let many = c.told-test.true in
    let counted = c.len.ensures in
    let most : 100 ≤ length c.told.told - 1 = omega arith in
    ap (take 100) c.drop_last.ensures ∙ take_fewer 100 (length c.told.told - 1) c.told.told most ∙ c.told.invariant

pub returns : goal.returns
returns c =
    let few = c.told-test.false in
    let counted = c.len.ensures in
    let all : take 100 c.told.told ≡ c.told.told = take_all 100 c.told.told (omega arith) in
    (sym all ∙ c.told.invariant, c.len-count.ensures)
