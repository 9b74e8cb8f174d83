use Rattle.std.proofs.Common.{Some, string_bytes}
use Rattle.std.proofs.lemmas.Map.Text.{btree_map_updates_text}
use Rattle.configuration.proofs.aliases.push_placed.Goals as goal
use Rattle.configuration.proofs.aliases.push_placed.Goals.{in-Ok, in-Err}

pub returns-clause-places : goal.returns-clause-places
returns-clause-places c =
    elim c.match-insert.branch [
      | in-Ok w ↦ rw w.result-is (btree_map_updates_text (string_bytes c.args.name) c.args.places.now c.insert.new.self (Some c.args.at) w.in-Ok.ensures.updates)
      | in-Err w ↦ rw w.result-is tt
    ]

pub returns-clause-places_kept : goal.returns-clause-places_kept
returns-clause-places_kept c =
    elim c.match-insert.branch [
      | in-Ok w ↦ rw w.result-is tt
      | in-Err w ↦ rw w.result-is w.in-Err.ensures.err
    ]
