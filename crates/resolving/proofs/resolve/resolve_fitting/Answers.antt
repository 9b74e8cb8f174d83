use Rattle.std.proofs.Common.{◌≡◌, ◌<◌, ◌≤◌, ◌+◌, ◌∙◌, MatchOption, None, cond, ap, arith, inl, inr, subst, le-leb}
use Rattle.std.proofs.lemmas.Result.{IfOk-weaker}
use Rattle.written_types.specs.Written.{written_view}
use Rattle.resolving.specs.Known.{known}
use Rattle.resolving.specs.Names.{size}
use Rattle.resolving.specs.Resolved.{type_of, too_large}
use Rattle.resolving.proofs.Whole.{fault_of-error}
use Rattle.resolving.proofs.resolve.resolve_fitting.Goals as goal

pub returns-in-None-clause-refused : goal.returns-in-None-clause-refused
returns-in-None-clause-refused c =
    let n = size (known c.args.names.now) (written_view c.args.ty.now) in
    let more : 256 < n = subst (λ r. MatchOption r (256 < n) (λ rest. rest + n ≡ 256)) c.in-None.is c.left_after.ensures in
    elim c.type_size.ensures [
      | inl memory ↦ inl memory
      | inr refusal ↦ inr (too_large c.span_of.result, (c.span_of.ensures, more), refusal)
    ]

pub returns-in-Some-clause-resolved : goal.returns-in-Some-clause-resolved
returns-in-Some-clause-resolved c =
    let n = size (known c.args.names.now) (written_view c.args.ty.now) in
    let left = subst (λ r. MatchOption r (256 < n) (λ rest. rest + n ≡ 256)) c.in-Some.is c.left_after.ensures in
    let few : n ≤ 256 = omega (arith, left) in
    IfOk-weaker c.resolve_whole.result _ _ (λ t is. ap (λ b. cond b (type_of (known c.args.names.now) (written_view c.args.ty.now)) None) (le-leb n 256 few) ∙ is) c.resolve_whole.ensures.resolved

pub returns-in-Some-clause-refused : goal.returns-in-Some-clause-refused
returns-in-Some-clause-refused c = fault_of-error (known c.args.names.now) (written_view c.args.ty.now) c.resolve_whole.result c.resolve_whole.ensures.refused
