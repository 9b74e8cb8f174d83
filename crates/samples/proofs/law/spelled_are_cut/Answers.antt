use Rattle.std.proofs.Common.{◌≡◌, [], ◌++◌, length, refl, sym, subst, ◌∙◌, arith}
use Rattle.std.proofs.lemmas.List.{append-nil}
use Rattle.std.proofs.lemmas.Str.{chars-IsAscii}
use Rattle.std.specs.Str.{chars}
use Rattle.lexing.specs.Pieces.{Cuts}
use Rattle.samples.specs.Spelling.{text_of}
use Rattle.samples.proofs.Pieces.{pieces_at}
use Rattle.samples.proofs.Cutting.{spelling_cuts}
use Rattle.samples.proofs.Nesting.{spelling_nests}
use Rattle.samples.proofs.law.spelled_are_cut.Goals as goal

pub returns : goal.returns
returns c = λ spelling ascii there.
    let text = text_of spelling in
    let pieces = pieces_at 0 spelling [] in
    let whole : text ++ [] ≡ text = append-nil text in
    let cuts = spelling_cuts spelling [] 0 (length text) [] ascii there (omega arith) refl in
    let cuts_chars : Cuts pieces 0 (chars text) = subst (Cuts pieces 0) (whole ∙ sym (chars-IsAscii text ascii)) cuts in
    (pieces, cuts_chars, spelling_nests spelling text [] [] 0 [] refl (sym whole))
