use Rattle.samples.proofs.Linked.{shallow, copies}
use Rattle.samples.proofs.Named.{names_differ}
use Rattle.samples.proofs.Reached.{are_instances, all_small}
use Rattle.samples.proofs.Shown.{are_components}
use Rattle.samples.proofs.law.rings_are_open.Goals as goal

pub returns : goal.returns
returns c = λ many some fits.
    let are = are_instances c.whole_are_instances.ensures many some in
    record {
      reached = are;
      small = λ t r. all_small many t (are.all t r);
      differ = names_differ many fits are;
      shallow = shallow many are;
      components = λ all. are_components many all c.components_are_reachable.ensures are;
      copied = copies many;
    }
