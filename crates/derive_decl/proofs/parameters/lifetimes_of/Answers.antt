use Rattle.std.proofs.Common.{◌≡◌, ◌∙◌, List, [], ◌∷◌, ◌++◌, map, take, ap, sym, arith}
use Rattle.std.proofs.lemmas.List.{take_all, append-nil}
use Rattle.written_types.specs.declared.written.Ident.{Ident}
use Rattle.syntax.specs.declared.item.GenericParam.{GenericParam}
use Rattle.syntax.specs.Items.{parameter_view}
use Rattle.derive_decl.specs.Lifetimes.{lifetimes_of}
use Rattle.derive_decl.proofs.Lifetimes.{lifetimes_more}
use Rattle.derive_decl.proofs.parameters.lifetimes_of.Goals as goal
use Rattle.derive_decl.proofs.parameters.lifetimes_of.Goals.{in-Lifetime+in_ok-unquoted-in-Lifetime+in_ok-push-in-Lifetime, in-Ty, in-Constant}

pub returns : goal.returns
returns c =
    let items = c.args.params.now in
    let all : take c.loop-param.param-index items ≡ items = take_all c.loop-param.param-index items (omega arith) in
    c.loop-param.invariant ∙ ap (λ ps. lifetimes_of (map parameter_view ps)) all

pub loop-param-preserved : goal.loop-param-preserved
loop-param-preserved c =
    let so_far = lifetimes_of (map parameter_view (take c.loop-param.param-index c.args.params.now)) in
    let own : GenericParam → List Ident = λ p. lifetimes_of (parameter_view p ∷ []) in
    let more = lifetimes_more c.args.params.now c.loop-param.param-index c.param-item.result c.loop-param-test.true c.param-item.is in
    elim c.match-param.branch [
      | in-Lifetime+in_ok-unquoted-in-Lifetime+in_ok-push-in-Lifetime w ↦
          w.names-is ∙ w.in_ok-push-in-Lifetime.ensures.ok ∙ ap (λ xs. xs ++ w.in_ok-unquoted-in-Lifetime.field-0 ∷ []) c.loop-param.invariant ∙ ap (λ x. so_far ++ x ∷ []) w.in_ok-unquoted-in-Lifetime.ensures
          ∙ sym (more ∙ ap (λ p. so_far ++ own p) w.in-Lifetime.is)
      | in-Ty w ↦ w.names-is ∙ c.loop-param.invariant ∙ sym (more ∙ ap (λ p. so_far ++ own p) w.in-Ty.is ∙ append-nil so_far)
      | in-Constant w ↦ w.names-is ∙ c.loop-param.invariant ∙ sym (more ∙ ap (λ p. so_far ++ own p) w.in-Constant.is ∙ append-nil so_far)
    ]
