use Rattle.std.proofs.Common.{◌<◌, length, sym, subst, arith}
use Rattle.gathering.specs.Files.{most_bytes, file_of, IsToldOfFile, too_long}
use Rattle.gathering.proofs.gathered.text_of.Goals as goal

pub returns-then-source-gt-MOST_BYTES-clause-told : goal.returns-then-source-gt-MOST_BYTES-clause-told
returns-then-source-gt-MOST_BYTES-clause-told c =
    let long : most_bytes < length c.args.source.now.bytes.now = omega (arith, c.if-source-gt-MOST_BYTES.true) in
    subst (IsToldOfFile (file_of c.args.source.now)) (sym c.in_ok-told_longer.ensures) (too_long long)
