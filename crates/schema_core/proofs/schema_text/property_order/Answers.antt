use Rattle.std.proofs.Common.{◌∙◌, ap, sym, arith}
use Rattle.schema_core.proofs.Placed.{places_step}
use Rattle.schema_core.proofs.schema_text.property_order.Goals as goal

pub loop-i-preserved : goal.loop-i-preserved
loop-i-preserved g c =
    places_step c.args.properties.now c.loop-i.i c.index-properties-i.result (grind arith) c.index-properties-i.is c.as_str.result (c.as_str.ensures ∙ ap (λ p. p.0) (sym c.index-properties-i.is)) c.loop-i.order.entries c.insert.new.self.entries c.in_ok-insert.ensures.entries
    ∙ c.loop-i.invariant
