use Rattle.std.proofs.Common.{◌≡◌, [], drop, map}
use Rattle.schema_core.specs.Writes.{places_from}
use Rattle.schema_core.proofs.schema_text.property_order.Given as goal

-- with the names that are left, the places are those of all
abbrev pub invariant-loop-i : goal.invariant-loop-i
invariant-loop-i g l = places_from l.i (map (λ p. p.0) (drop l.i l.properties)) (map (λ e. (e.0.now, e.1)) l.order.entries) ≡ places_from 0 (map (λ p. p.0) l.properties) []
