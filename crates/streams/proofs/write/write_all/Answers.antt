use Rattle.std.proofs.Common.{◌≡◌, ◌∙◌, ◌+◌, ◌-◌, ◌++◌, ℕ, List, length, take, drop, ap, sym, subst, arith, rules}
use Rattle.std.specs.Io.KnownBytes.{Appends}
use Rattle.std.proofs.KnownBytes.{Appends-trans}
use Rattle.std.proofs.Math.Seq.{take-add}
use Rattle.std.proofs.lemmas.List.{take_rest}
use Rattle.streams.proofs.write.write_all.Goals as goal

-- the next piece stands after the first bytes
joined : (at count : ℕ) (xs : List ℕ) → take at xs ++ take count (take (length xs - at) (drop at xs)) ≡ take (at + count) xs
joined at count xs = ap (λ ys. take at xs ++ take count ys) (take_rest xs at) ∙ sym (take-add at count xs)

pub loop-at-preserved : goal.loop-at-preserved
loop-at-preserved g c = record {
  within = grind arith;
  given = subst (Appends _ _) (joined c.loop-at.at c.in_ok-at.field-0 c.args.bytes.now) (Appends-trans _ _ _ _ _ c.loop-at.invariant.given c.in_ok-at.ensures.bytes);
  calm = search rules;
}
