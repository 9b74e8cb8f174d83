-- A sample is cut into the trees that it is spelled as.
use Rattle.std.proofs.Common.{ℕ, ◌≤◌, sym, subst}
use Rattle.std.specs.Str.{IsAscii}
use Rattle.lexing.specs.Cut.{IsCut}
use Rattle.samples.specs.Spelling.{SpelledAreCut, trees_at}
use Rattle.samples.specs.Rings.{numbers}
use Rattle.samples.specs.Samples.{sample_text}
use Rattle.samples.proofs.Spelled.{sample_spelling}
use Rattle.samples.proofs.Written.{sample_spelled}
use Rattle.samples.proofs.Places.{declarations_cut}
use Rattle.samples.proofs.Bytes.{numbers_below, sample_ascii}

pub samples_are_cut : SpelledAreCut → (many : ℕ) → many ≤ 1000 → IsCut (sample_text many) (trees_at 0 (sample_spelling many (numbers many)))
samples_are_cut law many few =
    let spelling = sample_spelling many (numbers many) in
    let same = sample_spelled many in
    let ascii = subst IsAscii (sym same) (sample_ascii many few) in
    subst (λ v. IsCut v (trees_at 0 spelling)) same (law spelling ascii (declarations_cut many (numbers many) (numbers_below many few)))
