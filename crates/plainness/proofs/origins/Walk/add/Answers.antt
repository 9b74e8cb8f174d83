use Rattle.std.proofs.Common.{◌∙◌, [], ◌∷◌, Some, None, is_some, not, map, slice_set, ap, sym, subst}
use Rattle.std.proofs.lemmas.List.{get_or_read}
use Rattle.inlining.specs.Found.{AreFound, IsGrown}
use Rattle.inlining.proofs.Found.{grown_push}
use Rattle.plainness.proofs.Leading.{found-more, some-found, given-more, grown-same}
use Rattle.plainness.proofs.origins.Walk.add.Goals as goal

pub returns-in_ok-push-clause-found : goal.returns-in_ok-push-clause-found
returns-in_ok-push-clause-found c =
    let os = c.args.self.now.origins.items in
    let n = c.args.number in
    let read = get_or_read os n c.index.result.now c.requires.within c.index.ensures None in
    subst (AreFound (map is_some (slice_set os n (Some c.args.origin)))) (sym c.in_ok-push.ensures.ok)
    (found-more os c.args.self.now.numbers n c.args.origin c.requires.found c.requires.within (ap is_some (sym read) ∙ c.is_none.ensures ∙ ap not c.if-is_none.true))

pub returns-in_ok-push-clause-grown : goal.returns-in_ok-push-clause-grown
returns-in_ok-push-clause-grown c = subst (IsGrown c.args.self.now.numbers (c.args.number ∷ [])) (sym c.in_ok-push.ensures.ok) (grown_push c.args.self.now.numbers c.args.number)

pub returns-in_ok-push-clause-given : goal.returns-in_ok-push-clause-given
returns-in_ok-push-clause-given c = given-more c.args.self.now.origins.items c.args.number c.args.origin c.requires.within

pub returns-else-is_none-clause-grown : goal.returns-else-is_none-clause-grown
returns-else-is_none-clause-grown c =
    let os = c.args.self.now.origins.items in
    let n = c.args.number in
    let read = get_or_read os n c.index.result.now c.requires.within c.index.ensures None in
    grown-same c.args.self.now.numbers n (some-found os c.args.self.now.numbers n c.requires.found (ap is_some (sym read) ∙ c.is_none.ensures ∙ ap not c.if-is_none.false))
