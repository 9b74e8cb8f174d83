use Rattle.std.proofs.Common.{◌≡◌, ◌<◌, ◌∙◌, Some, length, ap, subst}
use Rattle.std.specs.Prelude.{slice_get}
use Rattle.std.proofs.lemmas.List.{length-map}
use Rattle.std.proofs.lemmas.Result.{IfOk-weaker}
use Rattle.syntax.specs.Items.{DeclaredItem, declaration_view, declarations_view}
use Rattle.resolving.specs.Known.{Known}
use Rattle.scopes.specs.Scopes.{known_in}
use Rattle.warnings.specs.Flat.{flat_view, flat_of, flat_at}
use Rattle.warnings.proofs.Declared.{declared_at, known_here}
use Rattle.warnings.proofs.lookup.flat_at.Goals as goal

pub returns : goal.returns
returns c =
    let config = c.args.config.now in
    let places = c.args.places.now in
    let items = places.declarations.now.items in
    let ds = declarations_view places.declarations.now in
    let at = c.args.at in
    let scope = c.in_ok-scope.scope in
    let item = c.index-as_slice-at.result in
    let d = declaration_view item in
    let less : at < length items = subst (λ n. at < n) (length-map items declaration_view) c.requires in
    let found = declared_at items c.as_slice.result.now at item c.as_slice.ensures less c.index-as_slice-at.is in
    let here = known_here config scope places at d c.in_ok-scope.ensures.places c.in_ok-scope.ensures.owner found in
    IfOk-weaker c.flat_of.result
    (λ flat. flat_view flat ≡ flat_of (known_in config scope) d)
    (λ flat. (x : DeclaredItem) × (slice_get ds at ≡ Some x) × (flat_view flat ≡ flat_at config ds x))
    (λ flat same. (d, found, same ∙ ap (λ (known : Known). flat_of known d) here))
    c.flat_of.ensures
