use Rattle.std.proofs.Common.{◌≡◌, ◌∙◌, length, map, ap, sym, refl, subst}
use Rattle.tokens.specs.Trees.{tree_view}
use Rattle.prepare.specs.Trees.{before}
use Rattle.prepare.specs.Attributes.{after_inner, is_for_tests}
use Rattle.prepare.specs.Reading.{window_of}
use Rattle.prepare.proofs.Behind.{IsBehind}
use Rattle.prepare.proofs.Repeated.{inner_behind}
use Rattle.prepare.proofs.Found.{kept_is, fits, reads_kept, found_for_tests, so_far_none}
use Rattle.prepare.proofs.file.standing_of.Goals as goal
use Rattle.prepare.proofs.file.standing_of.Goals.{After-is_for_tests}

-- what was looked at are the trees that are read
rest_is : (c : After-is_for_tests) → map tree_view c.after_inner-rest.result.now ≡ after_inner (window_of c.read_inner.new.self)
rest_is c = c.after_inner-rest.ensures ∙ ap (λ ts. after_inner (map tree_view ts)) c.as_slice-trees.ensures

tests_are : (c : After-is_for_tests) → c.is_for_tests.result ≡ is_for_tests (before (window_of c.read_inner.new.self) (after_inner (window_of c.read_inner.new.self)))
tests_are c =
    let window = ap (map tree_view) c.as_slice-trees.ensures in
    c.is_for_tests.ensures ∙ ap is_for_tests (c.before-2.ensures ∙ ap (before (map tree_view c.as_slice-trees.result.now)) (rest_is c) ∙ ap (λ v. before v (after_inner (window_of c.read_inner.new.self))) window)

behind_all : (c : After-is_for_tests) → IsBehind (map tree_view c.after_inner-rest.result.now) (window_of c.read_inner.new.self)
behind_all c = subst (λ v. IsBehind v (window_of c.read_inner.new.self)) (sym (rest_is c)) (inner_behind (window_of c.read_inner.new.self))

pub returns-then-is_for_tests-clause-found : goal.returns-then-is_for_tests-clause-found
returns-then-is_for_tests-clause-found c = λ source h.
    let tests = sym (tests_are (goal.at.returns-then-is_for_tests-clause-found c).After-is_for_tests) ∙ c.if-is_for_tests.true in
    found_for_tests source c.read_inner.new.self c.new.result (c.in_ok-read_inner.ensures.grows source h) c.in_ok-read_inner.ensures.behind tests c.new.ensures

pub keep-requires : goal.keep-requires
keep-requires c = fits c.read_inner.new.self.window c.after_inner-rest.result.now (length c.after_inner-rest.result.now) (behind_all (goal.at.keep-requires c).After-is_for_tests) refl

pub items_of-requires : goal.items_of-requires
items_of-requires c =
    let r = c.read_inner.new.self in
    let source = c.requires.begun.0 in
    record {
      begun = (source, window_of r, reads_kept source r c.keep.new.self (window_of r) c.in_ok-keep.ensures.chunks c.in_ok-keep.ensures.whole (c.in_ok-read_inner.ensures.grows source c.requires.begun.1));
    }

pub returns-clause-found : goal.returns-clause-found
returns-clause-found c = λ source h.
    let r = c.read_inner.new.self in
    let kept = c.keep.new.self in
    let looked = (goal.at.returns-clause-found c).After-is_for_tests in
    let others = sym (tests_are looked) ∙ c.if-is_for_tests.false in
    let window = kept_is r.window c.after_inner-rest.result.now kept.window (length c.after_inner-rest.result.now) (behind_all looked) refl c.in_ok-keep.ensures.window ∙ rest_is looked in
    let read = reads_kept source r kept (window_of r) c.in_ok-keep.ensures.chunks c.in_ok-keep.ensures.whole (c.in_ok-read_inner.ensures.grows source h) in
    c.items_of.ensures.found source (window_of r) read (so_far_none r kept c.in_ok-read_inner.ensures.behind others c.in_ok-keep.ensures.whole window)

pub returns-clause-refused : goal.returns-clause-refused
returns-clause-refused c = λ source h.
    let r = c.read_inner.new.self in
    c.items_of.ensures.refused source (window_of r)
    (reads_kept source r c.keep.new.self (window_of r) c.in_ok-keep.ensures.chunks c.in_ok-keep.ensures.whole (c.in_ok-read_inner.ensures.grows source h))
