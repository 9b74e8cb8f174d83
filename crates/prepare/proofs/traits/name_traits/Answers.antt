use Rattle.std.proofs.Common.{◌∙◌, ap}
use Rattle.prepare.specs.Traits.{is_any_trait}
use Rattle.prepare.proofs.Groups.{names_view}
use Rattle.prepare.proofs.traits.name_traits.Goals as goal

pub returns : goal.returns
returns c =
    let all = rw c.new-names.ensures at c.in_ok-push_all_names.ensures in
    c.is_any_trait.ensures ∙ ap (is_any_trait c.args.traits) (c.as_slice.ensures ∙ all ∙ names_view c.args.trees.now)
