use Rattle.std.proofs.Common.{◌≡◌, ◌∙◌, sym, ap, subst, List, ℕ, Option, Some, None, option_copied}
use Rattle.std.specs.BTreeMap.{get}
use Rattle.type_table.specs.declared.node.Node.{Node}
use Rattle.type_table.specs.Keys.{key_of, key_cmp}
use Rattle.type_table.specs.Nodes.{node_type, nodes_of, HasParts}
use Rattle.type_table.specs.Types.{IsFound, found, missing}
use Rattle.type_table.proofs.Grown.{found-node, missing-node}
use Rattle.type_table.proofs.types.Types.find_node.Goals as goal

pub returns-in-Some : goal.returns-in-Some
returns-in-Some c =
    let look : ℕ × ℕ × ℕ → Option ℕ = get key_cmp c.self.inside.index in
    let ns : List Node = nodes_of c.self.inside.entries.items in
    let n : ℕ = c.in-Some.number.now in
    let known : look (key_of c.args.node.now) ≡ Some n = ap look (sym c.key.ensures) ∙ sym c.get.ensures.value ∙ ap option_copied c.in-Some.is in
    let is = found-node look ns c.args.node.now n c.self.invariant.table known in
    subst (λ ts. IsFound ts (node_type ts c.args.node.now) (Some n)) c.self.view_is (found n is.0 is.1)

pub returns-in-None : goal.returns-in-None
returns-in-None c =
    let look : ℕ × ℕ × ℕ → Option ℕ = get key_cmp c.self.inside.index in
    let ns : List Node = nodes_of c.self.inside.entries.items in
    let none : look (key_of c.args.node.now) ≡ None = ap look (sym c.key.ensures) ∙ sym c.get.ensures.value ∙ ap option_copied c.in-None.is in
    let parts : HasParts _ c.args.node.now = subst (λ ts. HasParts ts c.args.node.now) (sym c.self.view_is) c.requires in
    subst (λ ts. IsFound ts (node_type ts c.args.node.now) None) c.self.view_is (missing (missing-node look ns c.args.node.now c.self.invariant.table parts none))
