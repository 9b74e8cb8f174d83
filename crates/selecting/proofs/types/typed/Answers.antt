use Rattle.std.proofs.Common.{◌++◌, [], ◌∷◌, List, map, sym, subst, append-nil, append_assoc}
use Rattle.std.specs.Borrow.{Bor}
use Rattle.prepare.specs.declared.file_items.FileAlias.{FileAlias}
use Rattle.selecting.specs.Lists.{AreThose, no_others, one_holds, one_fails}
use Rattle.selecting.specs.Types.{NamesType}
use Rattle.selecting.proofs.Choosing.{held, not_held}
use Rattle.selecting.proofs.Rest.{split_first, none_first, shown_push}
use Rattle.selecting.proofs.types.typed.Goals as goal

abbrev shown : List (Bor FileAlias) → List FileAlias
shown aliases = map (λ a. a.now) aliases

pub aliases-preserved-in_ok-push : goal.aliases-preserved-in_ok-push
aliases-preserved-in_ok-push c = λ others are.
    let Holds = NamesType c.args.config.now in
    let all = shown c.args.aliases.now in
    let x = c.first-item.result in
    let split = split_first c.aliases.rest.now x c.in-len1-up.len_at_least c.first-item.is in
    let next = subst (λ (v : List (Bor FileAlias)). AreThose Holds (shown v) (x.now ∷ others)) (sym split) (one_holds (held (Holds x.now) (Holds x.now → ⊥) c.in_ok-names_type.field-0 c.if-branch.true c.in_ok-names_type.ensures) are) in
    let more = subst (AreThose Holds all) (sym (append_assoc (shown c.aliases.typed) (x.now ∷ []) others)) (c.aliases.invariant (x.now ∷ others) next) in
    subst (λ (v : List FileAlias). AreThose Holds all (v ++ others)) (sym (shown_push c.aliases.typed x c.push.new.self c.in_ok-push.ensures.ok)) more

pub aliases-preserved : goal.aliases-preserved
aliases-preserved c = λ others are.
    let Holds = NamesType c.args.config.now in
    let x = c.first-item.result in
    let split = split_first c.aliases.rest.now x c.in-len1-up.len_at_least c.first-item.is in
    c.aliases.invariant others (subst (λ (v : List (Bor FileAlias)). AreThose Holds (shown v) others) (sym split) (one_fails (not_held (Holds x.now) (Holds x.now → ⊥) c.in_ok-names_type.field-0 c.if-branch.false c.in_ok-names_type.ensures) are))

pub returns : goal.returns
returns c =
    let Holds = NamesType c.args.config.now in
    let all = shown c.args.aliases.now in
    let rest = subst (λ (v : List (Bor FileAlias)). AreThose Holds (shown v) []) (sym (none_first c.aliases.rest.now c.in_default.len_below)) no_others in
    subst (AreThose Holds all) (append-nil (shown c.aliases.typed)) (c.aliases.invariant [] rest)
