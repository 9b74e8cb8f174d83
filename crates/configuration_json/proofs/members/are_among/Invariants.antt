use Rattle.std.proofs.Common.{◌≡◌, map, bytes_eq}
use Rattle.std.specs.List.{list_any, list_all}
use Rattle.serde_json.specs.View.{members_view}
use Rattle.configuration_json.specs.Form.{names_of}
use Rattle.configuration_json.proofs.members.are_among.Given as goal

-- the names that are left are among these exactly if all are
abbrev pub invariant-loop-name : goal.invariant-loop-name
invariant-loop-name l =
    list_all (λ name. list_any (bytes_eq name) (map (λ known. known.now) l.names)) (names_of (members_view l.name-iterator))
    ≡ list_all (λ name. list_any (bytes_eq name) (map (λ known. known.now) l.names)) (names_of (members_view l.members.entries))
