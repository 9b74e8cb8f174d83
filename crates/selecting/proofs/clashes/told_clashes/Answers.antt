use Rattle.std.proofs.Common.{◌∙◌, ◌-◌, ◌++◌, [], ◌∷◌, ℕ, List, length, take, drop, map, ap, sym, append_assoc}
use Rattle.std.specs.Borrow.{Bor}
use Rattle.prepare.specs.declared.file_items.FileAlias.{FileAlias}
use Rattle.telling.specs.declared.told.Told.{Told}
use Rattle.selecting.specs.Clashes.{told_clash}
use Rattle.selecting.proofs.Rest.{split_first}
use Rattle.selecting.proofs.clashes.told_clashes.Goals as goal

abbrev told_of : List (List ℕ) → List (Bor FileAlias) → List Told
told_of paths aliases = map (told_clash paths) (map (λ a. a.now) aliases)

pub aliases-preserved : goal.aliases-preserved
aliases-preserved c =
    let paths = c.args.paths.now in
    let lines = c.aliases.lines in
    let x = c.first-item.result in
    let behind = told_of paths (take (length c.aliases.rest.now - 1) (drop 1 c.aliases.rest.now)) in
    let split = split_first c.aliases.rest.now x c.in-len1-up.len_at_least c.first-item.is in
    ap (λ (v : List Told). v ++ behind) c.in_ok-push.ensures.ok
    ∙ append_assoc lines (c.in_ok-told_clash.field-0 ∷ []) behind
    ∙ ap (λ (t : Told). lines ++ t ∷ behind) c.in_ok-told_clash.ensures
    ∙ ap (λ (v : List (Bor FileAlias)). lines ++ told_of paths v) (sym split)
    ∙ c.aliases.invariant
