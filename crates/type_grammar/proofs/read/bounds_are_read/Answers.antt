use Rattle.type_grammar.specs.Reading.{type_in}
use Rattle.type_grammar.proofs.Sound.{type_sound, bound_sound, bound_shortens}
use Rattle.type_grammar.proofs.Complete.{path_stops, bound_complete}
use Rattle.type_grammar.proofs.Deep.{type_agrees, bound_agrees}
use Rattle.type_grammar.proofs.read.bounds_are_read.Goals as goal

pub returns : goal.returns
returns c =
    record {
      found = λ n ws rest at e. bound_sound (type_in n) (type_sound n) ws at rest e;
      shorter = λ n ws rest at e. bound_shortens n ws at rest e;
      complete = λ n ws rest at r stops. bound_complete r (path_stops rest stops) n;
      deep = λ n ws at e. (bound_agrees n (type_agrees n) ws at).0 e;
      opens = λ n ws at o. (bound_agrees n (type_agrees n) ws at).1 o;
    }
