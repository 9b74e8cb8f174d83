use Rattle.std.proofs.Common.{sym, ap, ◌∙◌}
use Rattle.configuration.specs.Aliases.{alias_names}
use Rattle.configuration.proofs.AliasLaws.{names-of}
use Rattle.configuration.proofs.aliases.Aliases.names.Goals as goal

pub returns : goal.returns
returns c = c.as_slice.ensures ∙ sym (names-of c.self.inside.names c.self.inside.types c.self.invariant.many) ∙ ap alias_names c.self.view_is
