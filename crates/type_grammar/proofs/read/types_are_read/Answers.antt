use Rattle.type_grammar.specs.declared.starts.Bounds.TheVariants.{Any}
use Rattle.type_grammar.proofs.Sound.{type_sound, type_shortens}
use Rattle.type_grammar.proofs.Complete.{type_complete}
use Rattle.type_grammar.proofs.Deep.{type_agrees}
use Rattle.type_grammar.proofs.read.types_are_read.Goals as goal

pub returns : goal.returns
returns c =
    record {
      found = λ n ws rest t e. type_sound n Any ws t rest e;
      shorter = λ n ws rest t e. type_shortens n Any ws t rest e;
      complete = λ n ws rest t r stops. type_complete r stops n;
      deep = λ n ws at e. (type_agrees n Any ws at).0 e;
      opens = λ n ws at o. (type_agrees n Any ws at).1 o;
    }
