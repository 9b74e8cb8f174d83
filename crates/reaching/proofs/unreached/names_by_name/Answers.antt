use Rattle.std.proofs.Common.{◌∙◌, None, refl}
use Rattle.reaching.specs.Reached.{nodes_of}
use Rattle.reaching.specs.Taken.{names_in}
use Rattle.reaching.proofs.Entries.{AreSame, same_with, node_front, split_first}
use Rattle.reaching.proofs.unreached.names_by_name.Goals as goal

pub nodes-init : goal.nodes-init
nodes-init c = λ name.
    let new = names_in c.new-by_name.result in
    let none : AreSame new (λ _. None) = λ k. rw c.new-by_name.ensures.empty refl in
    same_with new (λ _. None) (nodes_of c.args.nodes.now) none name

pub nodes-preserved : goal.nodes-preserved
nodes-preserved c = λ name.
    let rest = c.nodes.rest.now in
    let first = c.first-item.result in
    let split = split_first rest first c.in-len1-up.len_at_least c.first-item.is in
    node_front (names_in c.nodes.by_name) (names_in c.add_names.new.by_name) rest _ first c.in_ok-add_names.ensures split name
    ∙ c.nodes.invariant name
