use Rattle.std.proofs.Common.{ap, ◌∙◌, map}
use Rattle.std.specs.BTreeMap.{get_by_text}
use Rattle.written_types.specs.Written.{written_view}
use Rattle.configuration.specs.Aliases.{alias_types, bare}
use Rattle.configuration.proofs.AliasLaws.{bare-of}
use Rattle.configuration.proofs.aliases.Aliases.bare_types.Goals as goal

pub returns : goal.returns
returns c =
    ap (map written_view) c.as_slice.ensures
    ∙ bare-of c.self.inside.names c.self.inside.types c.self.inside.bare (get_by_text c.self.inside.places) c.self.invariant
    ∙ ap (λ xs. map bare (alias_types xs)) c.self.view_is
