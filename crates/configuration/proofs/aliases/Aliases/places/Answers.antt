use Rattle.std.proofs.Common.{ap, ◌∙◌}
use Rattle.std.specs.BTreeMap.{get_by_text}
use Rattle.texts.specs.Names.{place_in}
use Rattle.configuration.specs.Aliases.{alias_names}
use Rattle.configuration.proofs.AliasLaws.{places-of}
use Rattle.configuration.proofs.aliases.Aliases.places.Goals as goal

pub returns : goal.returns
returns c = λ name.
    places-of c.self.inside.names c.self.inside.types c.self.inside.bare (get_by_text c.self.inside.places) c.self.invariant name
    ∙ ap (λ xs. place_in name (alias_names xs)) c.self.view_is
