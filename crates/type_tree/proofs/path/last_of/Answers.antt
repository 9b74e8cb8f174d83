use Rattle.std.proofs.Common.{ap, ◌∙◌}
use Rattle.std.specs.Prelude.{option_map}
use Rattle.written_types.specs.Written.{segment_view}
use Rattle.type_tree.proofs.Segments.{seen_copied, last_segment_at}
use Rattle.type_tree.proofs.path.last_of.Goals as goal

pub returns : goal.returns
returns c = seen_copied _ ∙ (ap (option_map segment_view) c.last.ensures.value ∙ last_segment_at _)
