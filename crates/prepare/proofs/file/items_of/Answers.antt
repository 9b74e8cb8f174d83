use Rattle.std.proofs.Common.{length, map, refl, subst, Err}
use Rattle.std.proofs.lemmas.Result.{err_from_is_err_and}
use Rattle.tokens.specs.Trees.{tree_view}
use Rattle.prepare.specs.Standing.{AreItems, StandUpTo, PassesItems, StopAt, Finds}
use Rattle.prepare.specs.Reading.{window_of}
use Rattle.prepare.proofs.Found.{kept_is, fits, reads_kept, gone_next, found_stop, found_end_stop, found_end}
use Rattle.prepare.proofs.Stands.{up_to_behind}
use Rattle.prepare.proofs.file.items_of.Goals as goal
use Rattle.prepare.proofs.file.items_of.Goals.{In-Ok}

passed_of : (c : In-Ok) → StandUpTo (window_of c.reading.reading) (map tree_view c.in-Ok.rest.now) c.in-Ok.found
passed_of c = subst (λ w. StandUpTo (map tree_view w) (map tree_view c.in-Ok.rest.now) c.in-Ok.found) c.as_slice.ensures c.in-Ok.ensures.0

pub keep-requires : goal.keep-requires
keep-requires c = fits c.reading.reading.window c.in-Ok.rest.now (length c.in-Ok.rest.now) (up_to_behind (passed_of (goal.at.keep-requires c).In-Ok)) refl

pub returns-in-Err-clause-found : goal.returns-in-Err-clause-found
returns-in-Err-clause-found c =
    found_stop c.args.reading.now c.reading.reading c.reading.standing c.in-Err.stop c.reading.invariant c.reading-test.true
    (subst (λ w. PassesItems (map tree_view w) (Err c.in-Err.stop)) c.as_slice.ensures c.in-Err.ensures)

pub read_on-requires-clause-begun : goal.read_on-requires-clause-begun
read_on-requires-clause-begun c =
    let i = c.reading.invariant.reads c.requires.begun.0 c.requires.begun.1 c.requires.begun.2 in
    (c.requires.begun.0, i.0, reads_kept c.requires.begun.0 c.reading.reading c.keep.new.self i.0 c.in_ok-keep-in-Ok.ensures.chunks c.in_ok-keep-in-Ok.ensures.whole i.1)

pub reading-preserved : goal.reading-preserved
reading-preserved c =
    let passed = passed_of (goal.at.reading-preserved c).In-Ok in
    gone_next c.args.reading.now c.reading.reading c.keep.new.self c.read_on.new.self (map tree_view c.in-Ok.rest.now) c.reading.standing c.in-Ok.found c.append.new.self c.reading.invariant c.reading-test.true passed
    c.in_ok-keep-in-Ok.ensures.chunks c.in_ok-keep-in-Ok.ensures.whole
    (kept_is c.reading.reading.window c.in-Ok.rest.now c.keep.new.self.window (length c.in-Ok.rest.now) (up_to_behind passed) refl c.in_ok-keep-in-Ok.ensures.window)
    c.in_ok-read_on.ensures.grows c.in_ok-append-in-Ok.ensures.ok

pub returns-in_err-read_on-clause-refused : goal.returns-in_err-read_on-clause-refused
returns-in_err-read_on-clause-refused c = λ source seen h.
    let i = c.reading.invariant.reads source seen h in
    let p = err_from_is_err_and c.from_residual-in_err-read_on.result c.from_residual-in_err-read_on.ensures.1 in
    rw (p.1, p.2)
    (c.in_err-read_on.ensures.refused source i.0 (reads_kept source c.reading.reading c.keep.new.self i.0 c.in_ok-keep-in-Ok.ensures.chunks c.in_ok-keep-in-Ok.ensures.whole i.1))

pub returns-in-Err-are_items-clause-found : goal.returns-in-Err-are_items-clause-found
returns-in-Err-are_items-clause-found c =
    found_end_stop c.args.reading.now c.reading.reading c.reading.standing c.in-Err-are_items.stop c.reading.invariant c.reading-test.false
    (subst (λ w. Finds (AreItems (map tree_view w)) (StopAt (map tree_view w)) (Err c.in-Err-are_items.stop)) c.as_slice-2.ensures c.in-Err-are_items.ensures)

pub returns-clause-found : goal.returns-clause-found
returns-clause-found c =
    found_end c.args.reading.now c.reading.reading c.reading.standing c.in-Ok-are_items.found c.append-in-Ok-are_items.new.self c.reading.invariant c.reading-test.false
    (subst (λ w. AreItems (map tree_view w) c.in-Ok-are_items.found) c.as_slice-2.ensures c.in-Ok-are_items.ensures) c.in_ok-append-in-Ok-are_items.ensures.ok
