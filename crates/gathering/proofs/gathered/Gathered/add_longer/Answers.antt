use Rattle.std.proofs.Common.{◌∙◌, ◌++◌, ℕ, List, [], ◌∷◌, ap, refl, sym, subst}
use Rattle.gathering.specs.Files.{FileOf, IsToldOfFile, too_long}
use Rattle.gathering.specs.declared.gathered.Gathered.{Gathered}
use Rattle.gathering.proofs.Taking.{gathers_told}
use Rattle.gathering.proofs.gathered.Gathered.add_longer.Goals as goal

pub returns : goal.returns
returns c = λ files bytes long g.
    let f : FileOf = record { name = c.args.name.now; bytes = bytes } in
    let before : Gathered = c.args.self.now in
    let after : Gathered = record { names = c.push-2.new.self; items = before.items; impls = before.impls; aliases = before.aliases; faults = c.push.new.self } in
    let names = c.in_ok-push-2.ensures.ok ∙ ap (λ (n : List ℕ). before.names ++ n ∷ []) c.in_ok-new.ensures in
    gathers_told files f before after c.in_ok-told_longer.field-0 names refl refl refl c.in_ok-push.ensures.ok (subst (IsToldOfFile f) (sym c.in_ok-told_longer.ensures) (too_long long)) g
