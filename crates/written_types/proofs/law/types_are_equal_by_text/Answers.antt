use Rattle.written_types.proofs.Equal.{idents_equal, paths_equal, segments_equal, arguments_equal, types_equal}
use Rattle.written_types.proofs.law.types_are_equal_by_text.Goals as goal

pub returns : goal.returns
returns c = record { ident = idents_equal; path = paths_equal; segment = segments_equal; argument = arguments_equal; ty = types_equal }
