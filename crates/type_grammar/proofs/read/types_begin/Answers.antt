use Rattle.type_grammar.specs.declared.starts.Bounds.TheVariants.{Any}
use Rattle.type_grammar.proofs.Complete.{type_begins}
use Rattle.type_grammar.proofs.Deep.{opens_begins}
use Rattle.type_grammar.proofs.read.types_begin.Goals as goal

pub returns : goal.returns
returns c =
    record {
      found = λ ws rest t r. type_begins r;
      opens = λ n ws at o. opens_begins n Any ws at o;
    }
