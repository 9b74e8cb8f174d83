use Rattle.std.proofs.Common.{◌≡◌, ◌≤◌, ◌-◌, ◌∷◌, length, arith, sym, ap, subst, ◌∙◌, refl, inl, inr, rules}
use Rattle.std.proofs.lemmas.Result.{err_from_is_err_and}
use Rattle.lexing.specs.declared.piece.PieceKind.TheVariants.{Close}
use Rattle.tokens.specs.Trees.{end, ◌▸◌, tree_view, trees_view, token, depth}
use Rattle.lexing.specs.Nesting.{joined, token_of, IsTrees, none}
use Rattle.lexing.specs.Reading.{EndFrom, LieIn}
use Rattle.lexing.proofs.NestLaws.{unnested_later, unnested_inside, unnested_deep, unnested_open, past_blank, past_token, past_group, group_read, group_depth, trees_view-push, depth_push, lie_after, end_after}
use Rattle.lexing.proofs.nest.+nest.Goals as goal

pub group_at-returns-then-left-eq0-clause-value : goal.group_at-returns-then-left-eq0-clause-value
group_at-returns-then-left-eq0-clause-value t c = λ k. unnested_deep c.args.source.now c.args.left c.args.bracket c.args.opening c.args.pieces.now c.if-left-eq0.true k

pub group_at-returns-in_err-trees-clause-value : goal.group_at-returns-in_err-trees-clause-value
group_at-returns-in_err-trees-clause-value t c =
    let p = err_from_is_err_and c.from_residual.result c.from_residual.ensures.1 in
    let some : c.args.left ≡ 0 → ⊥ = c.if-left-eq0.false in
    rw (p.1, p.2)
    (λ k. unnested_inside c.args.source.now c.args.left (c.args.left - 1) c.args.bracket c.args.opening c.args.pieces.now c.in_err-trees.field-0.0 (omega (arith, some)) k c.in_err-trees.ensures.value)

pub group_at-returns-then-ne-clause-value : goal.group_at-returns-then-ne-clause-value
group_at-returns-then-ne-clause-value t c = λ k.
    let source = c.args.source.now in
    let given : LieIn source (c.args.opening ∷ c.args.pieces.now) = c.requires.1.1 in
    let read = c.in_ok-trees.ensures.value in
    let left : LieIn source c.in_ok-trees.rest.now = lie_after source read.0 given.3 in
    let here : LieIn source (c.in-Some.closing ∷ c.in-Some.mid.now) = subst (LieIn source) c.in-Some.ensures left in
    let differs : c.in-Some.closing.kind ≡ Close c.args.bracket → ⊥ = search rules in
    unnested_open source c.args.left c.args.bracket c.args.opening c.args.pieces.now c.in_ok-trees.rest.now (trees_view c.in_ok-trees.trees) c.in-Some.closing.span here.1.0 k read.0 read.1
    (λ q mid e l. let same : c.in-Some.closing ≡ q = let both = sym c.in-Some.ensures ∙ e in cc in differs (ap (λ v. v.kind) same ∙ l))

pub group_at-invariant_of-span : goal.group_at-invariant_of-span
group_at-invariant_of-span t c =
    let source = c.args.source.now in
    let given : LieIn source (c.args.opening ∷ c.args.pieces.now) = c.requires.1.1 in
    let later = end_after source c.args.opening.span.start c.in_ok-trees.ensures.value.0 given.2 in
    let here : EndFrom c.args.opening.span.start (c.in-Some.closing ∷ c.in-Some.mid.now) = subst (EndFrom c.args.opening.span.start) c.in-Some.ensures later in
    record { ordered = here.0 }

pub group_at-returns-in-None-clause-value : goal.group_at-returns-in-None-clause-value
group_at-returns-in-None-clause-value t c = λ k.
    let read = c.in_ok-trees.ensures.value in
    let end_lies : c.end_of.result.end ≤ length c.args.source.now = omega (arith, c.end_of.ensures.end) in
    unnested_open c.args.source.now c.args.left c.args.bracket c.args.opening c.args.pieces.now c.in_ok-trees.rest.now (trees_view c.in_ok-trees.trees) c.end_of.result end_lies k read.0 read.1
    (λ q mid e l. let nothing = c.in-None.ensures in cc)

pub group_at-returns-else-ne-clause-value : goal.group_at-returns-else-ne-clause-value
group_at-returns-else-ne-clause-value t c =
    let read = c.in_ok-trees.ensures.value in
    let closes : c.in-Some.closing.kind ≡ Close c.args.bracket = search rules in
    let some : c.args.left ≡ 0 → ⊥ = c.if-left-eq0.false in
    rw c.shrunk.ensures (
      group_read c.args.source.now _ c.args.opening c.in-Some.closing c.args.pieces.now c.in_ok-trees.rest.now c.in-Some.mid.now read.0 c.in-Some.ensures closes refl refl,
      group_depth _ c.args.left some read.2,
    )

pub trees_at-pieces-init : goal.trees_at-pieces-init
trees_at-pieces-init t c = record {
  shorter = omega arith;
  lie = c.requires.1.1;
  read = rw c.new-found.ensures none;
  shallow = rw c.new-found.ensures (omega arith);
}

pub trees_at-pieces-preserved-in-Space : goal.trees_at-pieces-preserved-in-Space
trees_at-pieces-preserved-in-Space t c =
    let kept = c.pieces.invariant in
    let here : LieIn c.args.source.now (c.in-Some.piece ∷ c.in-Some.after.now) = subst (LieIn c.args.source.now) c.in-Some.ensures kept.lie in
    record {
      shorter = omega (arith, kept.shorter, ap length c.in-Some.ensures);
      lie = here.3;
      read = past_blank c.args.source.now c.args.pieces.now c.pieces.rest.now c.in-Some.after.now (trees_view c.pieces.found) c.in-Some.piece kept.read c.in-Some.ensures (inl c.in-Space.is);
      shallow = kept.shallow;
    }

pub trees_at-pieces-preserved-in-Comment : goal.trees_at-pieces-preserved-in-Comment
trees_at-pieces-preserved-in-Comment t c =
    let kept = c.pieces.invariant in
    let here : LieIn c.args.source.now (c.in-Some.piece ∷ c.in-Some.after.now) = subst (LieIn c.args.source.now) c.in-Some.ensures kept.lie in
    record {
      shorter = omega (arith, kept.shorter, ap length c.in-Some.ensures);
      lie = here.3;
      read = past_blank c.args.source.now c.args.pieces.now c.pieces.rest.now c.in-Some.after.now (trees_view c.pieces.found) c.in-Some.piece kept.read c.in-Some.ensures (inr c.in-Comment.is);
      shallow = kept.shallow;
    }

pub trees_at-pieces-preserved-in-Token : goal.trees_at-pieces-preserved-in-Token
trees_at-pieces-preserved-in-Token t c =
    let source = c.args.source.now in
    let kept = c.pieces.invariant in
    let here : LieIn source (c.in-Some.piece ∷ c.in-Some.after.now) = subst (LieIn source) c.in-Some.ensures kept.lie in
    let found = trees_view c.pieces.found in
    let tree = token (token_of source c.in-Token.kind c.in-Some.piece.span) in
    let pushed : trees_view c.push.new.self ≡ joined found (tree ▸ end) =
    ap trees_view c.in_ok-push-in-Token.ensures.ok ∙ trees_view-push c.pieces.found c.in_ok-token_at-in-Token.field-0 ∙ ap (λ v. joined found (v ▸ end)) c.in_ok-token_at-in-Token.ensures in
    record {
      shorter = omega (arith, kept.shorter, ap length c.in-Some.ensures);
      lie = here.3;
      read = subst (λ v. IsTrees source c.args.pieces.now v c.in-Some.after.now) (sym pushed)
          (past_token source c.args.pieces.now c.pieces.rest.now c.in-Some.after.now found c.in-Some.piece c.in-Token.kind kept.read c.in-Some.ensures c.in-Token.is);
      shallow = subst (λ v. depth v ≤ c.args.left) (sym pushed) (depth_push found tree c.args.left kept.shallow (omega arith));
    }

pub trees_at-pieces-preserved : goal.trees_at-pieces-preserved
trees_at-pieces-preserved t c =
    let source = c.args.source.now in
    let kept = c.pieces.invariant in
    let next : LieIn source (c.in-Some.piece ∷ c.in-Some.after.now) = subst (LieIn source) c.in-Some.ensures kept.lie in
    let found = trees_view c.pieces.found in
    let tree = tree_view c.in_ok-group-in-Open.group in
    let read = c.in_ok-group-in-Open.ensures.value in
    let inside : LieIn source (read.0.closing ∷ c.in_ok-group-in-Open.mid.now) = lie_after source read.0.inside next.3 in
    let pushed : trees_view c.push-in-Open.new.self ≡ joined found (tree ▸ end) =
    ap trees_view c.in_ok-push-in-Open.ensures.ok ∙ trees_view-push c.pieces.found c.in_ok-group-in-Open.group in
    record {
      shorter = omega (arith, kept.shorter, ap length c.in-Some.ensures, c.in_ok-group-in-Open.ensures.shorter);
      lie = inside.3;
      read = subst (λ v. IsTrees source c.args.pieces.now v c.in_ok-group-in-Open.mid.now) (sym pushed)
          (past_group source c.args.pieces.now c.pieces.rest.now c.in-Some.after.now c.in_ok-group-in-Open.mid.now found c.in-Some.piece c.in-Open.bracket tree kept.read c.in-Some.ensures c.in-Open.is read.0);
      shallow = subst (λ v. depth v ≤ c.args.left) (sym pushed) (depth_push found tree c.args.left kept.shallow read.1);
    }

pub trees_at-returns-in_err-group-in-Open-clause-value : goal.trees_at-returns-in_err-group-in-Open-clause-value
trees_at-returns-in_err-group-in-Open-clause-value t c =
    let p = err_from_is_err_and c.from_residual-in_err-group-in-Open.result c.from_residual-in_err-group-in-Open.ensures.1 in
    rw (p.1, p.2)
    (unnested_later c.args.source.now c.args.left c.args.pieces.now c.pieces.rest.now (trees_view c.pieces.found) c.in_err-group-in-Open.field-0.0 c.pieces.invariant.read c.pieces.invariant.shallow
    (rw c.in-Some.ensures (c.in_err-group-in-Open.ensures.value c.in-Open.is)))
