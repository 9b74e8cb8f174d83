use Rattle.std.proofs.lemmas.Grind.{common_steps}
use Rattle.std.proofs.Common.{◌≡◌, ◌+◌, ◌<◌, ◌≤◌, ℕ, suc, Option, Some, None, MatchOption, sym, subst, arith, ◌-◌}
use Rattle.written_types.specs.Written.{segment_view}
use Rattle.resolving.specs.Names.{segment_size}
use Rattle.resolving.proofs.Counted.{path_size-at}
use Rattle.resolving.proofs.size.+size.Goals as goal
use Rattle.resolving.specs.Known.{known}

one_less : (r : Option ℕ) (left rest n : ℕ) → 1 ≤ left → rest ≡ left - 1 → MatchOption r (rest < n) (λ x. x + n ≡ rest) → MatchOption r (left < suc n) (λ x. x + suc n ≡ left)
one_less None left rest n l e h = let less : rest < n = h in omega arith
one_less (Some x) left rest n l e h = let same : x + n ≡ rest = h in omega arith

pub left_after_path-returns-in-len1-up : goal.left_after_path-returns-in-len1-up
left_after_path-returns-in-len1-up t c =
    let size = path_size-at c.args.path.now c.as_slice.result.now c.segment-item.result c.as_slice.ensures c.in-len1-up.len_at_least c.segment-item.is (known c.args.names.now) in
    subst (λ n. MatchOption c.left_after_segment.result (c.args.left < n) (λ rest. rest + n ≡ c.args.left)) (sym size)
    (one_less c.left_after_segment.result c.args.left c.in_ok-left.left (segment_size (known c.args.names.now) (segment_view c.segment-item.result)) c.in_ok-left.ensures.0 c.in_ok-left.ensures.1 c.left_after_segment.ensures)

pub left_after_arguments-returns : goal.left_after_arguments-returns
left_after_arguments-returns t c = grind (arith, common_steps)

pub left_after_types-returns-in_err-rest : goal.left_after_types-returns-in_err-rest
left_after_types-returns-in_err-rest t c = grind (arith, common_steps)

pub left_after_types-loop-ty-preserved : goal.left_after_types-loop-ty-preserved
left_after_types-loop-ty-preserved t c = grind (arith, common_steps)

pub left_after_types-returns : goal.left_after_types-returns
left_after_types-returns t c = grind (arith, common_steps)
