use Rattle.std.proofs.Common.{◌≡◌, drop, map, bytes_eq}
use Rattle.std.specs.List.{list_any}
use Rattle.configuration_json.proofs.members.is_among.Given as goal

-- the name is among those that are left exactly if it is among all
abbrev pub invariant-loop-known : goal.invariant-loop-known
invariant-loop-known l = list_any (bytes_eq l.name) (map (λ known. known.now) (drop l.known-index l.names)) ≡ list_any (bytes_eq l.name) (map (λ known. known.now) l.names)
