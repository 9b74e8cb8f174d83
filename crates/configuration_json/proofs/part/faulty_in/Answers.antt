use Rattle.std.proofs.Common.{rules, [], codes}
use Rattle.serde_json.specs.Find.{get}
use Rattle.serde_json.specs.View.{view}
use Rattle.configuration.specs.Configuration.{Configuration}
use Rattle.configuration_json.specs.Form.{SaysOthers, SaysOrDefault, IsRenames}
use Rattle.configuration_json.proofs.FormLaws.{only_whole}
use Rattle.configuration_json.proofs.part.faulty_in.Goals as goal

pub returns : goal.returns
returns c =
    let value = view c.args.value.now in
    let said : Configuration = record { limit = c.in-Some-whole_at._limit; copies = c.in-Some-whole_at-2._copies; collect = c.in-Some-collect_at._collect; renames = c.in-Some-2._renames; aliases = [] } in
    let renames : SaysOrDefault IsRenames [] (get (codes "renames") value) c.in-Some-2._renames = rw c.in-Some-2.is at c.in_ok-_renames.ensures in
    let others : SaysOthers value said = record {
      members = search rules;
      version = only_whole 1 c.in-Some._version (get (codes "version") value) c.in-Some.ensures;
      limit = c.in-Some-whole_at.ensures;
      copies = c.in-Some-whole_at-2.ensures;
      collect = c.in-Some-collect_at.ensures;
      renames = renames;
      empty = record { schemas = search rules; defaults = search rules };
    } in
    ((said, others), search rules)
