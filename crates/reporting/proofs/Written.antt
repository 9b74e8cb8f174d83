-- What follows from what was written.
use Rattle.std.proofs.Common.{◌∙◌, ℕ, List, [], Option, None, Some, Result, Ok, Err, OnErr, append-nil, length, sym, subst, arith}
use Rattle.std.proofs.KnownBytes.{Appends-nil}
use Rattle.std.proofs.Math.Seq.{take-length}
use Rattle.std.specs.Io.KnownBytes.{Appends, Keeps}
use Rattle.streams.specs.Told.{AppendsPart}

-- a fact holds at an `Err` too
pub when_err : {T E : Type 0} (result : Result T E) (P : Type 0) → P → OnErr result P
when_err (Ok value) P is = tt
when_err (Err error) P is = is

-- nothing was written
pub none_part : (told : Option (List ℕ)) (bytes : List ℕ) → AppendsPart told told bytes
none_part told bytes = (0, omega arith, Appends-nil told)

pub none_kept : (old new : Option (List ℕ)) → Appends old new [] → Keeps old new
none_kept None new none = tt
none_kept (Some xs) None none = absurd none
none_kept (Some xs) (Some ys) none = none ∙ append-nil xs

-- all was written
pub whole_part : (old new : Option (List ℕ)) (bytes : List ℕ) → Appends old new bytes → AppendsPart old new bytes
whole_part old new bytes all = (length bytes, omega arith, subst (Appends old new) (sym (take-length bytes)) all)
