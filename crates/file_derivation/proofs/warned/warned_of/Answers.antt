use Rattle.std.proofs.Common.{◌≡◌, ◌∙◌, ◌++◌, length, map, ap, sym, subst}
use Rattle.std.specs.Borrow.{Bor}
use Rattle.configuration.specs.Configuration.{Configuration}
use Rattle.scopes.specs.declared.scope.Places.{Places}
use Rattle.syntax.specs.declared.item.Declarations.{Declarations}
use Rattle.syntax.specs.Items.{declarations_view}
use Rattle.prepare.specs.declared.file_items.FileItem.{FileItem}
use Rattle.file_derivation.specs.Warned.{AreWarned, AreFirst, told_impls}
use Rattle.file_derivation.proofs.warned.warned_of.Goals as goal

pub warnings_from-requires : goal.warnings_from-requires
warnings_from-requires c =
    let same = ap (λ (p : Places). p.declarations.now) c.in_ok-lookup.ensures.places ∙ c.in_ok-places.ensures in
    record {
      known = c.in_ok-lookup.ensures.known;
      many = subst (λ (v : Declarations). length c.args.from.now ≡ length (declarations_view v)) (sym same) c.requires.many;
    }

pub returns : goal.returns
returns c = λ front first.
    let names = c.args.names.now in
    let from = map (λ (i : Bor FileItem). i.now) c.args.from.now in
    let impls = c.args.impls.now in
    let mine = c.in_ok-warnings.ensures front first in
    let own = mine.0 in
    let places = c.in_ok-places.ensures in
    let same = ap (λ (p : Places). p.declarations.now) c.in_ok-lookup.ensures.places ∙ places in
    let configured = subst (λ (v : Configuration). AreWarned v names (declarations_view c.in_ok-lookup.lookup.places.now.declarations.now) from (length (declarations_view c.in_ok-lookup.lookup.places.now.declarations.now)) own) c.in_ok-lookup.ensures.config mine.1 in (
      own,
      subst (λ (v : Declarations). AreWarned c.args.config.now names (declarations_view v) from (length (declarations_view v)) own) same configured,
      subst (λ (v : Declarations). AreFirst ((front ++ own) ++ told_impls names (declarations_view v) impls) c.add_impls.new.self) places (c.in_ok-add_impls.ensures (front ++ own) mine.2),
    )
