use Rattle.std.proofs.Common.{◌≡◌, ◌<◌, ◌∙◌, ℕ, List, length, map, get_or, IsTrue, ap, sym, subst, inl, refl}
use Rattle.std.proofs.lemmas.List.{get_or_default}
use Rattle.schema_trees.specs.Schema.{schema_view}
use Rattle.inlining.specs.Inlining.{targets_of, IsAmong, AreTargets}
use Rattle.inlining.specs.Marks.{mark}
use Rattle.inlining.specs.Shown.{shown_first, shown_inline}
use Rattle.shapes.specs.Views.{declaration_view}
use Rattle.closing.proofs.Made.{schema_at}
use Rattle.closing.proofs.schema.schema_of.Goals as goal

pub find_shown-requires-clause-targets : goal.find_shown-requires-clause-targets
find_shown-requires-clause-targets c =
    let ss = map declaration_view c.args.declared.now in
    subst AreTargets (sym c.requires.targets) (c.numbers_stand.ensures ss c.args.reach.now).0

pub find_shown-requires-clause-references : goal.find_shown-requires-clause-references
find_shown-requires-clause-references c = λ n m among. absurd (c.in_ok-none.ensures.none n m (subst (λ (links : List (List ℕ)). IsAmong m (targets_of links n)) c.as_slice.ensures among))

pub closed-requires-clause-along : goal.closed-requires-clause-along
closed-requires-clause-along c =
    let ss = map declaration_view c.args.declared.now in
    let shown = c.in_ok-shown.ensures.shown in
    λ n m marked among.
    let there : IsTrue (mark c.in_ok-shown.shown.marks n) = subst (λ ms. IsTrue (mark ms n)) c.as_slice-marks.ensures marked in
    subst (λ ms. IsTrue (mark ms m)) (sym c.as_slice-marks.ensures) ((shown m).1 (shown_inline n m ((shown n).0 there) (subst (λ (ts : List (List ℕ)). IsAmong m (targets_of ts n)) (sym c.requires.targets) among)))

pub returns : goal.returns
returns c =
    let made = c.in_ok-made.made.items in
    let number = c.args.number in
    let there : number < length made = subst (λ n. number < n) (sym c.in_ok-made.ensures.many) c.requires.number in
    let marked : IsTrue (mark c.as_slice-marks.result.now number) = subst (λ ms. IsTrue (mark ms number)) (sym c.as_slice-marks.ensures) ((c.in_ok-shown.ensures.shown number).1 (shown_first number (inl refl))) in
    let taken : c.replace.result ≡ get_or made number c.replace.result = c.replace.ensures.value ∙ c.index_mut.ensures.value ∙ get_or_default made number c.index_mut.result.now c.replace.result there in
    ap schema_view taken ∙ sym (schema_at made number c.replace.result there) ∙ c.in_ok-made.ensures.schemas number c.requires.number marked
