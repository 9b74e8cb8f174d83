use Rattle.std.proofs.Common.{◌≡◌, ◌∙◌, ℕ, List, ap, sym, subst, IfOk, Result, Ok, Err}
use Rattle.prepare.specs.FileTexts.{text_of_file}
use Rattle.gathering.specs.Files.{file_of, IsToldOfFile}
use Rattle.gathering.proofs.Taking.{broken_of}
use Rattle.gathering.proofs.gathered.no_text.Goals as goal

pub returns : goal.returns
returns c =
    let of = c.as_str.ensures ∙ c.in_ok-text.ensures ∙ ap text_of_file c.in-Ok.ensures.cases.0 in
    broken_of (file_of c.args.source.now) c.args.end c.as_str.result.now c.told_broken.result of c.requires.short c.requires.broken c.requires.front c.told_broken.ensures
