use Rattle.std.proofs.Common.{List, map, sym, subst}
use Rattle.std.specs.Borrow.{Bor}
use Rattle.prepare.specs.declared.file_items.FileItem.{FileItem}
use Rattle.file_derivation.specs.LeftOut.{IsRound}
use Rattle.file_derivation.specs.declared.judged.Judged.{Judged}
use Rattle.file_derivation.proofs.Out.{AreWithin}
use Rattle.file_derivation.proofs.Judging.{texts_within}
use Rattle.file_derivation.proofs.Readable.{texts_can}
use Rattle.file_derivation.proofs.rounds.leave_texts.Goals as goal

pub leave_out-requires : goal.leave_out-requires
leave_out-requires c =
    record { within = subst (λ (v : List Judged). AreWithin (map (λ (i : Bor FileItem). i.now) c.args.items.now) v) (sym c.as_slice.ensures) (texts_within c.in_ok-judged.ensures) }

pub returns-clause-leaves : goal.returns-clause-leaves
returns-clause-leaves c =
    let names = c.args.names.now in
    let items = map (λ (i : Bor FileItem). i.now) c.args.items.now in
    let round = c.in_ok-leave_out.ensures.round in
    let kept = map (λ (i : Bor FileItem). i.now) c.in_ok-leave_out.field-0 in
    let one = subst (λ (v : List Judged). IsRound names items v round.0 kept) c.as_slice.ensures round.1 in
    (round.0, (c.in_ok-judged.judged, c.in_ok-judged.ensures, one), round.2)

pub returns-clause-readable : goal.returns-clause-readable
returns-clause-readable c =
    let names = c.args.names.now in
    let items = map (λ (i : Bor FileItem). i.now) c.args.items.now in
    let round = c.in_ok-leave_out.ensures.round in
    let kept = map (λ (i : Bor FileItem). i.now) c.in_ok-leave_out.field-0 in
    texts_can c.in_ok-judged.ensures (subst (λ (v : List Judged). IsRound names items v round.0 kept) c.as_slice.ensures round.1)
