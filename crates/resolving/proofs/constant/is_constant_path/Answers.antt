use Rattle.std.proofs.Common.{◌≡◌, length, arith}
use Rattle.resolving.specs.Known.{known}
use Rattle.resolving.proofs.Constants.{other-path}
use Rattle.resolving.proofs.constant.is_constant_path.Goals as goal

pub returns-in_default-2 : goal.returns-in_default-2
returns-in_default-2 c =
    let long : length c.as_slice.result.now ≡ 1 → ⊥ = λ e. omega arith in
    other-path (known c.args.names.now) c.args.path.now c.as_slice.result.now c.if-path.false c.as_slice.ensures long
