use Rattle.std.proofs.Common.{◌≡◌, map, take, ap, ◌∙◌, arith}
use Rattle.std.proofs.lemmas.Grind.{common_steps}
use Rattle.schema_trees.specs.Schema as tree
use Rattle.terms.proofs.Members.{property_of, properties_are}
use Rattle.terms.proofs.named_fields.properties_of.Goals as goal

pub returns : goal.returns
returns c =
    let whole : take c.loop-member.member-index c.args.members.now ≡ c.args.members.now = grind (arith, common_steps) in
    ap tree.properties_of (c.loop-member.invariant ∙ ap (map property_of) whole) ∙ properties_are c.args.members.now
