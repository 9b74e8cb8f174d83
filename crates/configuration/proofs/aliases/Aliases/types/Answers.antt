use Rattle.std.proofs.Common.{sym, ap, ◌∙◌, map}
use Rattle.written_types.specs.Written.{written_view}
use Rattle.configuration.specs.Aliases.{alias_types}
use Rattle.configuration.proofs.AliasLaws.{types-of}
use Rattle.configuration.proofs.aliases.Aliases.types.Goals as goal

pub returns : goal.returns
returns c = ap (map written_view) c.as_slice.ensures ∙ sym (types-of c.self.inside.names c.self.inside.types c.self.invariant.many) ∙ ap alias_types c.self.view_is
