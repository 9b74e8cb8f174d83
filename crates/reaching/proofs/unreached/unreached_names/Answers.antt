use Rattle.std.proofs.Common.{sym, subst}
use Rattle.std.proofs.lemmas.List.{map-append}
use Rattle.reaching.specs.Reached.{nodes_of}
use Rattle.reaching.specs.Taken.{texts_of, names_in}
use Rattle.reaching.proofs.Borrowed.{unreached_in}
use Rattle.reaching.proofs.Taking.{AreLeft, at_first, one_taken, all_taken}
use Rattle.reaching.proofs.unreached.unreached_names.Goals as goal

pub reached-init : goal.reached-init
reached-init c = at_first (nodes_of c.args.nodes.now) (texts_of c.in_ok-reached.reached) (names_in c.in_ok-by_name.by_name) c.in_ok-reached.ensures c.in_ok-by_name.ensures

pub reached-preserved : goal.reached-preserved
reached-preserved c =
    let nodes = nodes_of c.args.nodes.now in
    let rest = c.next_names.new.reached in
    let after = names_in c.next_names.new.by_name in
    let both = map-append (λ t. t.now) rest c.in-Some.names in
    rw c.in_ok-append.ensures.ok
    (subst (λ v. AreLeft nodes v after) (sym both)
    (one_taken nodes (texts_of c.reached.reached) (texts_of c.in-Some.names) (texts_of rest) (names_in c.reached.by_name) after c.reached.invariant c.in-Some.ensures.takes))

pub returns : goal.returns
returns c =
    let nodes = nodes_of c.args.nodes.now in
    let takes = c.in_default.ensures.takes in
    let left = c.next_names.new.by_name in
    unreached_in left nodes (all_taken nodes (texts_of c.reached.reached) (names_in c.reached.by_name) c.reached.invariant takes.1 (names_in left) takes.0)
