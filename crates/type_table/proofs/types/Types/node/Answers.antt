use Rattle.std.proofs.Common.{◌∙◌, ◌<◌, ap, sym, subst, length, get_or, List}
use Rattle.std.specs.BTreeMap.{get}
use Rattle.type_table.specs.declared.types.Entry.{Entry}
use Rattle.type_table.specs.Keys.{key_cmp}
use Rattle.type_table.specs.Nodes.{entry_types}
use Rattle.type_table.proofs.Listed.{IsNode}
use Rattle.type_table.proofs.Sizes.{node-of}
use Rattle.type_table.proofs.types.Types.node.Goals as goal

-- the node of the entry at the number
its-node : (c : goal.After-result-1) → IsNode c.args.self.now c.args.id c.index.result.now.node
its-node c =
    let es : List Entry = c.self.inside.entries.items in
    let entry : Entry = c.index.result.now in
    let within : c.args.id < length (entry_types es) = subst (λ ts. c.args.id < length ts) (sym c.self.view_is) c.requires in
    subst (λ ts. IsNode ts c.args.id entry.node) c.self.view_is
    (node-of (get key_cmp c.self.inside.index) es c.args.id entry c.self.invariant within (c.index.ensures ∙ ap (λ n. get_or es n entry) c.id.view_is))

pub returns-clause-is : goal.returns-clause-is
returns-clause-is c = (its-node c).its_type

pub returns-clause-parts : goal.returns-clause-parts
returns-clause-parts c = (its-node c).its_parts

pub returns-clause-below : goal.returns-clause-below
returns-clause-below c = (its-node c).its_below
