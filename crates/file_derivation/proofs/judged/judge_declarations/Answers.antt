use Rattle.std.proofs.Common.{◌≡◌, ◌∙◌, ◌<◌, ◌+◌, ◌++◌, ℕ, suc, [], ◌∷◌, length, map, option_map, Some, refl, ap, sym, subst, arith}
use Rattle.std.specs.Prelude.{slice_get}
use Rattle.std.specs.Borrow.{Bor}
use Rattle.std.proofs.lemmas.Option.{slice_get-map, slice_get_read}
use Rattle.syntax.specs.declared.item.Declarations.{Declarations}
use Rattle.syntax.specs.Items.{DeclaredItem, declarations_view}
use Rattle.prepare.specs.declared.file_items.FileItem.{FileItem}
use Rattle.file_derivation.specs.Helps.{Origin}
use Rattle.file_derivation.specs.Rounds.{IsVerdictAt, AreVerdicts, none_yet, one_more}
use Rattle.file_derivation.specs.declared.judged.Judged.{Judged}
use Rattle.file_derivation.proofs.judged.judge_declarations.Goals as goal

next : (n : ℕ) → suc n ≡ n + 1
next n = omega arith

pub loop-at-init : goal.loop-at-init
loop-at-init c =
    subst (AreVerdicts c.args.config.now (declarations_view c.args.declarations.now) (record { names = c.args.names.now; excluded = c.args.excluded.now; from = map (λ (i : Bor FileItem). i.now) c.args.from.now }) 0) (sym c.new-judged.ensures) none_yet

pub loop-at-preserved : goal.loop-at-preserved
loop-at-preserved c =
    let config = c.args.config.now in
    let ds = declarations_view c.args.declarations.now in
    let read = c.args.from.now in
    let from = map (λ (v : Bor FileItem). v.now) read in
    let origin : Origin = record { names = c.args.names.now; excluded = c.args.excluded.now; from = from } in
    let at = c.loop-at.at in
    let j : Judged = record { item = c.index-from-at.result; verdict = c.in_ok-verdict_at.field-0 } in
    let less : at < length read = c.loop-at-test.true in
    let placed : slice_get from at ≡ Some j.item.now =
    slice_get-map (λ (v : Bor FileItem). v.now) read at ∙ ap (option_map (λ (v : Bor FileItem). v.now)) (slice_get_read read (length read) at c.index-from-at.result refl less c.index-from-at.is) in
    let verdict =
    subst (λ (v : Declarations). (d : DeclaredItem) × (slice_get (declarations_view v) at ≡ Some d) × IsVerdictAt config (declarations_view v) origin at d j.verdict) c.in_ok-places.ensures c.in_ok-verdict_at.ensures in
    let more = one_more j c.loop-at.invariant verdict.1 placed verdict.2 in
    subst (AreVerdicts config ds origin (at + 1)) (sym c.in_ok-push.ensures.ok) (subst (λ n. AreVerdicts config ds origin n (c.loop-at.judged ++ j ∷ [])) (next at) more)
