use Rattle.std.proofs.Common.{◌<◌, ◌∙◌, length, None, is_some, ap, sym, rules}
use Rattle.std.proofs.lemmas.Bool.{false≢true}
use Rattle.std.proofs.lemmas.List.{get_or_read}
use Rattle.plainness.proofs.Leading.{found-some, found-there}
use Rattle.plainness.proofs.origins.Walk.origin.Goals as goal

pub index-requires : goal.index-requires
index-requires c =
    let within : c.args.number < length c.args.self.now.origins.items = found-there c.args.self.now.origins.items c.args.self.now.numbers c.args.number c.requires.found c.requires.among in
    search rules

pub unreachable-requires : goal.unreachable-requires
unreachable-requires c =
    let os = c.args.self.now.origins.items in
    let within = found-there os c.args.self.now.numbers c.args.number c.requires.found c.requires.among in
    let read = get_or_read os c.args.number c.index.result.now within c.index.ensures None in
    false≢true (ap is_some (sym c.in-None.is ∙ read) ∙ found-some os c.args.self.now.numbers c.args.number c.requires.found c.requires.among)

pub returns : goal.returns
returns c =
    let os = c.args.self.now.origins.items in
    let within = found-there os c.args.self.now.numbers c.args.number c.requires.found c.requires.among in
    sym (get_or_read os c.args.number c.index.result.now within c.index.ensures None) ∙ c.in-Some.is
