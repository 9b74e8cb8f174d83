-- What declarations are resolved to is what they mean.
use Rattle.std.proofs.Common.{List, [], ◌∷◌, Some, option_map, option_and_then, ◌≡◌, ap, ◌∙◌}
use Rattle.texts.proofs.Laws.{mapped}
use Rattle.attributes.specs.Attributes.{serde_items}
use Rattle.configuration.specs.Configuration.{Configuration}
use Rattle.syntax.specs.Items.{DeclaredItem}
use Rattle.shapes.specs.Declarations.{DeclarationOf}
use Rattle.derive_decl.specs.Attributed.{attributes_with, are_derivable}
use Rattle.derive_decl.specs.Law.{ResolvedIsMeant}
use Rattle.derive_decl.specs.Lifetimes.{parameters_are_distinct}
use Rattle.derive_decl.specs.Resolved.{Around, around_of, all_of, body_of, derived_body, declaration_from, declaration_of, resolved_of, meant_of}
use Rattle.derive_decl.specs.Whole.{resolved_among, meant_among}
use Rattle.derive_decl.proofs.Values.{joined, chosen}

one_meant : (around : Around) (d : DeclaredItem) (s : DeclarationOf) → resolved_of around d ≡ Some s → meant_of around d ≡ Some s
one_meant around d s is =
    let declared = (chosen (parameters_are_distinct d.generics) (declaration_of around d.attrs d.ident d.body) s is).1 in
    let made = mapped (declaration_from around d.attrs d.ident) (derived_body around d.attrs d.body) s declared in
    let body = (chosen (are_derivable (attributes_with d.attrs d.body)) (body_of around (serde_items d.attrs) d.body) made.0 made.1).1 in
    ap (option_map (declaration_from around d.attrs d.ident)) body ∙ ap Some made.2

module _ (c : Configuration) (ds : List DeclaredItem) where
  each_meant : (es : List DeclaredItem) (ss : List DeclarationOf) → all_of (resolved_among c ds) es ≡ Some ss → all_of (meant_among c ds) es ≡ Some ss
  each_meant [] ss is = is
  each_meant (d ∷ es) ss is =
      let around = around_of c ds d.ident.text d.generics in
      let j = joined (resolved_among c ds d) (all_of (resolved_among c ds) es) ss is in
      ap (λ o. option_and_then (λ s. option_map (λ rest. s ∷ rest) (all_of (meant_among c ds) es)) o) (one_meant around d j.0 j.2)
      ∙ ap (option_map (λ rest. j.0 ∷ rest)) (each_meant es j.1 j.3) ∙ ap Some j.4

pub resolved_is_meant : ResolvedIsMeant
resolved_is_meant c ds = each_meant c ds ds
