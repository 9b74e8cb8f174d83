use Rattle.std.proofs.Common.{◌<◌, ◌∙◌, ◌++◌, List, length, map, ap₂, subst}
use Rattle.std.proofs.lemmas.List.{length-map}
use Rattle.attributes.specs.Attributes.{attribute_view}
use Rattle.syntax.specs.Items.{declaration_view, declarations_view}
use Rattle.resolving.specs.Known.{Known}
use Rattle.warnings.specs.Rules.{warning_view}
use Rattle.attributes.specs.declared.attribute.Attribute.{Attribute}
use Rattle.scopes.specs.Scopes.{known_in}
use Rattle.warnings.specs.declared.warning.Warning.{Warning}
use Rattle.warnings.specs.Flat.{FlatOf, flat_view}
use Rattle.warnings.specs.Warned.{warnings_of_body}
use Rattle.warnings.proofs.Declared.{declared_at, known_here}
use Rattle.warnings.proofs.walk.warnings_of.Goals as goal

pub returns : goal.returns
returns c =
    let lookup = c.args.lookup.now in
    let items = lookup.places.now.declarations.now.items in
    let ds = declarations_view lookup.places.now.declarations.now in
    let at = c.args.at in
    let item = c.index-as_slice-at.result in
    let d = declaration_view item in
    let less : at < length items = subst (λ n. at < n) (length-map items declaration_view) c.requires.within in
    let found = declared_at items c.as_slice.result.now at item c.as_slice.ensures less c.index-as_slice-at.is in
    let here = known_here lookup.config.now c.in_ok-scope.scope lookup.places.now at d c.in_ok-scope.ensures.places c.in_ok-scope.ensures.owner found in
    let inside = ap₂ (λ (fs : List FlatOf) (known : Known). warnings_of_body (record { declarations = ds; flats = fs; known = known }) d.attrs d.body) c.requires.known here in
    let said = λ (ws : List Warning) (attributes : List Attribute).
    map warning_view ws ++ warnings_of_body (record { declarations = ds; flats = map flat_view lookup.flats; known = known_in lookup.config.now c.in_ok-scope.scope }) (map attribute_view attributes) d.body in
    (d, found, c.in_ok-push_body.ensures ∙ ap₂ said c.new-warnings.ensures c.as_slice-2.ensures ∙ inside)
