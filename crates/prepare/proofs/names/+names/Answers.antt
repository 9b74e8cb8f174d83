use Rattle.std.proofs.Common.{◌≡◌, ◌∙◌, ◌++◌, List, ℕ, OnOk, ap, sym, map, subst}
use Rattle.tokens.specs.Trees.{tree_view}
use Rattle.prepare.specs.Names.{names_in, all_names}
use Rattle.prepare.proofs.Groups.{names_group}
use Rattle.prepare.proofs.names.+names.Goals as goal

pub push_names-returns-in-Group : goal.push_names-returns-in-Group
push_names-returns-in-Group t c =
    let is : all_names (map tree_view c.as_slice.result.now) ≡ names_in (tree_view c.args.tree.now) =
    ap (λ ts. all_names (map tree_view ts)) c.as_slice.ensures ∙ names_group c.in-Group.group ∙ ap (λ v. names_in (tree_view v)) (sym c.in-Group.is) in
    subst (λ (ns : List (List ℕ)). OnOk c.push_all_names.result (c.push_all_names.new.names ≡ c.args.names.now ++ ns)) is c.push_all_names.ensures
