use Rattle.std.proofs.Common.{◌≡◌, ◌≢◌, ◌∙◌, ◌<◌, ◌++◌, [], List, ℕ, length, map, ap, sym, subst, append-nil, append_assoc}
use Rattle.std.specs.Borrow.{Bor}
use Rattle.std.proofs.lemmas.List.{length-map}
use Rattle.syntax.specs.Items.{declarations_view}
use Rattle.gathering.specs.Reading.{AreRead}
use Rattle.prepare.specs.declared.file_items.FileItem.{FileItem}
use Rattle.telling.specs.declared.told.Told.{Told}
use Rattle.file_derivation.specs.LeftOut.{faulty_names, IsRound}
use Rattle.file_derivation.specs.Rounds.{CanBeRead, AreVerdicts, AreJudged, LeavesFaults, nothing_more, one_round}
use Rattle.file_derivation.specs.declared.judged.Judged.{Judged}
use Rattle.file_derivation.proofs.Out.{AreWithin}
use Rattle.file_derivation.proofs.Judging.{verdicts_within, no_faults}
use Rattle.file_derivation.proofs.Readable.{can_be_read, round_can}
use Rattle.file_derivation.proofs.Stages.{as_many}
use Rattle.file_derivation.proofs.rounds.leave_faults.Goals as goal

abbrev shown : List (Bor FileItem) → List FileItem
shown items = map (λ i. i.now) items

pub rounds-init : goal.rounds-init
rounds-init c = (c.requires.read, c.requires.named, ([], sym (append-nil c.args.lines.now), λ more last leaves. leaves))

pub judge_declarations-requires : goal.judge_declarations-requires
judge_declarations-requires c = record {
  named = c.rounds.invariant.1;
  many = ap length c.as_slice-from.ensures ∙ sym (length-map c.rounds.reading.from (λ i. i.now)) ∙ as_many c.rounds.invariant.0;
}

pub leave_out-requires : goal.leave_out-requires
leave_out-requires c =
    let all = verdicts_within c.rounds.invariant.0 (ap shown c.as_slice-from.ensures) c.in_ok-judged.ensures in
    let judged = subst (AreWithin (shown c.rounds.left)) (sym c.as_slice-in-rounds-2.ensures) all in
    record { within = subst (λ (v : List (Bor FileItem)). AreWithin (shown v) c.as_slice-in-rounds-2.result.now) (sym c.as_slice-in-rounds.ensures) judged }

pub read_whole-requires : goal.read_whole-requires
read_whole-requires c =
    let names = c.args.names.now in
    let before = can_be_read names (shown c.rounds.left) (shown c.rounds.reading.from) (declarations_view c.rounds.reading.declarations) c.rounds.invariant.0 in
    let items = subst (λ (v : List (Bor FileItem)). CanBeRead (shown v)) (sym c.as_slice-in-rounds.ensures) before in
    record { readable = subst (λ (v : List (Bor FileItem)). CanBeRead (shown v)) (sym c.as_slice-in-rounds-3.ensures) (round_can c.in_ok-left.ensures.round.1 items) }

pub rounds-preserved : goal.rounds-preserved
rounds-preserved c =
    let names = c.args.names.now in
    let s = c.args.selection.now in
    let config = c.args.config.now in
    let from = shown c.rounds.reading.from in
    let ds = declarations_view c.rounds.reading.declarations in
    let judged = c.in_ok-judged.judged in
    let before = c.rounds.invariant in
    let round = c.in_ok-left.ensures.round in
    let left = shown c.in_ok-left.left in
    let read = subst (λ (v : List (Bor FileItem)). AreRead names (shown v) (shown c.in_ok-reading.reading.from) (declarations_view c.in_ok-reading.reading.declarations) []) c.as_slice-in-rounds-3.ensures c.in_ok-reading.ensures.read in
    let placed = subst (λ (v : List (Bor FileItem)). AreVerdicts config ds (record { names = names; excluded = c.as_slice-excluded.result.now; from = shown v }) (length ds) judged) c.as_slice-from.ensures c.in_ok-judged.ensures in
    let verdicts = subst (λ (v : List (List ℕ)). AreVerdicts config ds (record { names = names; excluded = v; from = from }) (length ds) judged) c.as_slice-excluded.ensures placed in
    let all : AreJudged s config names (shown c.rounds.left) judged = record { from = from; declarations = ds; read = before.0; verdicts = verdicts } in
    let some : faulty_names judged ≢ [] = subst (λ (v : List Judged). faulty_names v ≢ []) c.as_slice.ensures c.if-not-has_fault.ensures in
    let own = subst (λ (v : List (Bor FileItem)). IsRound names (shown v) c.as_slice-in-rounds-2.result.now round.0 left) c.as_slice-in-rounds.ensures round.1 in
    let one = subst (λ (v : List Judged). IsRound names (shown c.rounds.left) v round.0 left) c.as_slice-in-rounds-2.ensures own in
    let told = before.2.0 ++ round.0 in
    let lines = round.2 ∙ ap (λ (v : List Told). v ++ round.0) before.2.1 ∙ append_assoc c.args.lines.now before.2.0 round.0 in (
      read,
      c.in_ok-reading.ensures.named,
      (told, lines, λ more last leaves. subst (λ (v : List Told). LeavesFaults s config names (shown c.args.items) v last) (sym (append_assoc before.2.0 round.0 more)) (before.2.2 (round.0 ++ more) last (one_round all some one leaves))),
    )

pub rounds-smaller : goal.rounds-smaller
rounds-smaller c =
    let some = subst (λ (v : List Judged). faulty_names v ≢ []) (c.as_slice.ensures ∙ sym c.as_slice-in-rounds-2.ensures) c.if-not-has_fault.ensures in
    subst (λ (v : List (Bor FileItem)). length c.in_ok-left.left < length v) c.as_slice-in-rounds.ensures (c.in_ok-left.ensures.fewer some)

pub returns-then-not-has_fault-clause-leaves : goal.returns-then-not-has_fault-clause-leaves
returns-then-not-has_fault-clause-leaves c =
    let names = c.args.names.now in
    let s = c.args.selection.now in
    let config = c.args.config.now in
    let from = shown c.rounds.reading.from in
    let ds = declarations_view c.rounds.reading.declarations in
    let judged = c.in_ok-judged.judged in
    let before = c.rounds.invariant in
    let placed = subst (λ (v : List (Bor FileItem)). AreVerdicts config ds (record { names = names; excluded = c.as_slice-excluded.result.now; from = shown v }) (length ds) judged) c.as_slice-from.ensures c.in_ok-judged.ensures in
    let verdicts = subst (λ (v : List (List ℕ)). AreVerdicts config ds (record { names = names; excluded = v; from = from }) (length ds) judged) c.as_slice-excluded.ensures placed in
    let all : AreJudged s config names (shown c.rounds.left) judged = record { from = from; declarations = ds; read = before.0; verdicts = verdicts } in
    let none : faulty_names judged ≡ [] = subst (λ (v : List Judged). faulty_names v ≡ []) c.as_slice.ensures c.if-not-has_fault.ensures in
    (before.2.0 ++ [], shown c.rounds.left, before.2.2 [] (shown c.rounds.left) (nothing_more all none), before.0, before.2.1 ∙ ap (λ (v : List Told). c.args.lines.now ++ v) (sym (append-nil before.2.0)))

pub returns-then-not-has_fault-clause-faultless : goal.returns-then-not-has_fault-clause-faultless
returns-then-not-has_fault-clause-faultless c =
    let names = c.args.names.now in
    let config = c.args.config.now in
    let from = shown c.rounds.reading.from in
    let ds = declarations_view c.rounds.reading.declarations in
    let judged = c.in_ok-judged.judged in
    let placed = subst (λ (v : List (Bor FileItem)). AreVerdicts config ds (record { names = names; excluded = c.as_slice-excluded.result.now; from = shown v }) (length ds) judged) c.as_slice-from.ensures c.in_ok-judged.ensures in
    let verdicts = subst (λ (v : List (List ℕ)). AreVerdicts config ds (record { names = names; excluded = v; from = from }) (length ds) judged) c.as_slice-excluded.ensures placed in
    no_faults verdicts (subst (λ (v : List Judged). faulty_names v ≡ []) c.as_slice.ensures c.if-not-has_fault.ensures)
