use Rattle.std.proofs.Common.{[], ◌∷◌, ◌∙◌, sym, subst, true, false, slice_set}
use Rattle.std.proofs.lemmas.List.{get_or_read}
use Rattle.inlining.specs.Found.{AreFound, IsGrown}
use Rattle.inlining.proofs.Found.{found_push, grown_push}
use Rattle.inlining.proofs.shown.Found.add.Goals as goal

pub returns-in_ok-push-clause-found : goal.returns-in_ok-push-clause-found
returns-in_ok-push-clause-found c =
    subst (AreFound (slice_set c.args.self.now.marks.items c.args.number true)) (sym c.in_ok-push.ensures.ok)
    (found_push c.args.self.now.marks.items c.args.self.now.numbers c.args.number c.requires.found c.requires.within (sym (get_or_read c.args.self.now.marks.items c.args.number c.index.result.now c.requires.within c.index.ensures false) ∙ c.if-not-index.true))

pub returns-in_ok-push-clause-grown : goal.returns-in_ok-push-clause-grown
returns-in_ok-push-clause-grown c = subst (IsGrown c.args.self.now.numbers (c.args.number ∷ [])) (sym c.in_ok-push.ensures.ok) (grown_push c.args.self.now.numbers c.args.number)
