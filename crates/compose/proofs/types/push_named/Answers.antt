use Rattle.std.proofs.Common.{◌<◌, ◌∙◌, sym, subst}
use Rattle.texts.proofs.Laws.{place-found}
use Rattle.compose.proofs.types.push_named.Goals as goal

pub type_of-requires : goal.type_of-requires
type_of-requires c = subst (λ n. c.in-Some.number < n) c.requires (place-found c.args.name.now c.args.names.now c.in-Some.number (sym c.number.ensures ∙ c.in-Some.is)).0
