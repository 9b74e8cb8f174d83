use Rattle.std.proofs.Common.{◌≡◌, ◌<◌, length, get_or, Some, sym, subst, refl}
use Rattle.open_types.specs.Instances.{declared_place}
use Rattle.instances.specs.Lists.{instance_at}
use Rattle.compose.specs.Bounds.{ident_at}
use Rattle.compose.proofs.Placed.{ident-found}
use Rattle.compose.proofs.refusals.span_of.Goals as goal

pub returns : goal.returns
returns c =
    let ds = c.args.idents.now in
    let place = c.declaration.result in
    let x = get_or ds place c.index-idents-declaration.result in
    let same : place ≡ declared_place (instance_at c.args.reach.now c.args.number) = c.declaration.ensures in
    let lt : place < length ds = subst (λ n. n < length ds) (sym same) (c.requires.placed c.args.number c.requires.within) in
    (x, subst (λ d. ident_at ds d ≡ Some x) same (ident-found ds place c.index-idents-declaration.result lt), refl)
