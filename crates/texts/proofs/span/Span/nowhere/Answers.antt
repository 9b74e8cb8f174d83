use Rattle.texts.specs.Span.{no_span-by}
use Rattle.texts.proofs.span.Span.nowhere.Goals as goal

pub returns : goal.returns
returns c = no_span-by _
