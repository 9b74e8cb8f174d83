use Rattle.std.proofs.Common.{◌≡◌, ◌∙◌, ◌||◌, ℕ, Bool, true, false, List, [], ◌∷◌, ◌++◌, length, nat_lt, ap, sym, map}
use Rattle.std.proofs.lemmas.List.{take_all}
use Rattle.written_types.specs.declared.written.Path.{out-Path}
use Rattle.written_types.specs.declared.written.PathSegment.{PathSegment}
use Rattle.written_types.specs.Written.{writtens_of, written_view, segments_view, more_segments, no_segments}
use Rattle.configuration.specs.Aliases.{are_several, bare}
use Rattle.configuration.proofs.TypeLaws.{all_bare-is, path_bare, last_bare-is, several-is, type_kept, lifetime_kept, constant_kept, kept_all}
use Rattle.configuration.proofs.bare.+bare.Goals as goal
use Rattle.configuration.proofs.bare.+bare.Goals.{types_among-in-Ty+in_ok-bare_type-in-Ty+in_ok-push-in-Ty, types_among-in-Lifetime, types_among-in-Constant, bare_path-then-path, bare_path-else-path}

rooted : (leading more result : Bool) → result ≡ leading → leading ≡ true → result ≡ leading || more
rooted leading more result is begins = is ∙ begins ∙ sym (ap (λ b. b || more) begins)

several : (leading : Bool) (ss : List PathSegment) (result : Bool) (n : ℕ) → result ≡ nat_lt 1 n → n ≡ length ss → leading ≡ false → result ≡ leading || are_several (segments_view ss)
several leading ss result n is many none = is ∙ ap (nat_lt 1) many ∙ sym (several-is ss) ∙ sym (ap (λ b. b || are_several (segments_view ss)) none)

pub all_bare-returns : goal.all_bare-returns
all_bare-returns t c =
    ap writtens_of (c.loop-ty.invariant ∙ ap (map (λ ty. bare (written_view ty))) (take_all c.loop-ty.ty-index c.args.types.now c.loop-ty-test.false)) ∙ all_bare-is c.args.types.now

pub bare_path-returns : goal.bare_path-returns
bare_path-returns t c =
    elim c.if-path.branch [
      | bare_path-then-path w ↦ path_bare c.args.path.now c.as_slice.result.now c.in_ok-last_bare.field-0 c.if-path.result c.as_slice.ensures
          (rooted (out-Path c.args.path.now).leading _ c.if-path.result w.result-is w.if-path.true) c.in_ok-last_bare.ensures
      | bare_path-else-path w ↦ path_bare c.args.path.now c.as_slice.result.now c.in_ok-last_bare.field-0 c.if-path.result c.as_slice.ensures
          (several (out-Path c.args.path.now).leading (out-Path c.args.path.now).segments c.if-path.result w.len.result w.result-is w.len.ensures w.if-path.false) c.in_ok-last_bare.ensures
    ]

pub last_bare-returns-in_ok-push-in-len1-up : goal.last_bare-returns-in_ok-push-in-len1-up
last_bare-returns-in_ok-push-in-len1-up t c =
    ap segments_view (c.in_ok-push-in-len1-up.ensures.ok ∙ ap (λ xs. xs ++ c.in_ok-bare_segment-in-len1-up.field-0 ∷ []) c.new-found.ensures)
    ∙ ap (λ s. more_segments s no_segments) c.in_ok-bare_segment-in-len1-up.ensures
    ∙ sym (last_bare-is c.args.segments.now c.last-item.result c.in-len1-up.len_at_least c.last-item.is)

pub types_among-loop-argument-preserved : goal.types_among-loop-argument-preserved
types_among-loop-argument-preserved t c =
    elim c.match-argument.branch [
      | types_among-in-Ty+in_ok-bare_type-in-Ty+in_ok-push-in-Ty w ↦ rw (w.found-is, w.in_ok-push-in-Ty.ensures.ok)
          (type_kept _ c.loop-argument.found c.args.arguments.now c.loop-argument.argument-index c.argument-item.result w.in-Ty.ty _ c.loop-argument-test.true c.argument-item.is w.in-Ty.is w.in_ok-bare_type-in-Ty.ensures c.loop-argument.invariant)
      | types_among-in-Lifetime w ↦ rw w.found-is
          (lifetime_kept _ c.loop-argument.found c.args.arguments.now c.loop-argument.argument-index c.argument-item.result _ c.loop-argument-test.true c.argument-item.is w.in-Lifetime.is c.loop-argument.invariant)
      | types_among-in-Constant w ↦ rw w.found-is
          (constant_kept _ c.loop-argument.found c.args.arguments.now c.loop-argument.argument-index c.argument-item.result _ c.loop-argument-test.true c.argument-item.is w.in-Constant.is c.loop-argument.invariant)
    ]

pub types_among-returns : goal.types_among-returns
types_among-returns t c = kept_all _ c.loop-argument.found c.args.arguments.now c.loop-argument.argument-index c.loop-argument-test.false c.loop-argument.invariant
