use Rattle.std.proofs.Common.{◌++◌, [], ◌∷◌, List, map, sym, subst, append-nil, append_assoc}
use Rattle.std.specs.Borrow.{Bor}
use Rattle.prepare.specs.declared.file_items.FileItem.{FileItem}
use Rattle.file_derivation.specs.Rounds.{AreTexts, no_text, one_text}
use Rattle.file_derivation.specs.declared.judged.Judged.{Judged}
use Rattle.file_derivation.proofs.Written.{split_first, none_first}
use Rattle.file_derivation.proofs.judged.judge_texts.Goals as goal

abbrev shown : List (Bor FileItem) → List FileItem
shown items = map (λ i. i.now) items

pub items-preserved : goal.items-preserved
items-preserved c = λ more are.
    let names = c.args.names.now in
    let items = shown c.args.items.now in
    let x = c.first-item.result in
    let j : Judged = record { item = x; verdict = c.in_ok-text_verdict.field-0 } in
    let split = split_first c.items.rest.now x c.in-len1-up.len_at_least c.first-item.is in
    let next = subst (λ (v : List (Bor FileItem)). AreTexts names (shown v) (j ∷ more)) (sym split) (one_text j c.in_ok-text_verdict.ensures are) in
    let all = subst (AreTexts names items) (sym (append_assoc c.items.judged (j ∷ []) more)) (c.items.invariant (j ∷ more) next) in
    subst (λ (v : List Judged). AreTexts names items (v ++ more)) (sym c.in_ok-push.ensures.ok) all

pub returns : goal.returns
returns c =
    let names = c.args.names.now in
    let items = shown c.args.items.now in
    let rest = subst (λ (v : List (Bor FileItem)). AreTexts names (shown v) []) (sym (none_first c.items.rest.now c.in_default.len_below)) no_text in
    subst (AreTexts names items) (append-nil c.items.judged) (c.items.invariant [] rest)
