use Rattle.words.specs.Words.{words_view}
use Rattle.type_grammar.proofs.Answered.{found, shallow, is_deep, no_other}
use Rattle.type_grammar.proofs.read.read_type.Goals as goal

pub returns : goal.returns
returns c =
    let ws = words_view c.args.trees.now in
    let r = c.whole_type.result in
    let e = c.whole_type.ensures in
    record { found = found ws r e; shallow = shallow ws r e; deep = is_deep ws r e; wrong = no_other ws r e }
