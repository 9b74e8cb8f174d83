use Rattle.std.proofs.Common.{Box, Global, rules, inl, inr, ◌≡◌, None, refl, ap, sym, ◌∙◌}
use Rattle.texts.specs.declared.span.Span.{Span}
use Rattle.written_types.specs.declared.written.Path.{Path}
use Rattle.written_types.specs.declared.written.WrittenType.{WrittenType, the_lemmas}
use Rattle.written_types.specs.declared.written.WrittenType.TheVariants as types
use Rattle.written_types.specs.Written.{written_view, path_view, slice, array, trait_object}
use Rattle.resolving.specs.declared.aliases.Place.{Place}
use Rattle.resolving.specs.Known.{known}
use Rattle.resolving.specs.Names.{span_of}
use Rattle.resolving.specs.Expanding.{inside_here}
use Rattle.resolving.proofs.Expanding.{alias_span, inside_span, view-path, view-tuple}
use Rattle.resolving.proofs.aliases.+expanded_span.Goals as goal

pub returns-in-Some : goal.returns-in-Some
returns-in-Some t c =
    let found = c.in-Some.ensures in
    sym (alias_span (known c.args.names.now) (written_view c.args.ty.now) found.0 c.in-Some.span found.2)

pub returns-in-Path : goal.returns-in-Path
returns-in-Path t c =
    let p = known c.args.names.now in
    let place : Place = record { at = None; below = 32; whole = span_of (written_view c.args.ty.now) } in
    sym (inside_span p place (written_view c.args.ty.now) refl refl c.in-None.ensures ∙ ap (λ w. span_of (inside_here p place w)) (ap written_view c.in-Path.is ∙ view-path c.in-Path.path))

view-slice : (b : Box WrittenType Global) (s : Span) → written_view (types.Slice b s) ≡ slice (written_view b.value) s
view-slice b s = search (rules, the_lemmas)

view-array : (b : Box WrittenType Global) (s : Span) → written_view (types.Array b s) ≡ array (written_view b.value) s
view-array b s = search (rules, the_lemmas)

view-object : (q : Path) (s : Span) → written_view (types.TraitObject q s) ≡ trait_object (path_view q) s
view-object q s = search (rules, the_lemmas)

pub returns-in-Tuple : goal.returns-in-Tuple
returns-in-Tuple t c =
    let p = known c.args.names.now in
    let place : Place = record { at = None; below = 32; whole = span_of (written_view c.args.ty.now) } in
    let inside = inside_span p place (written_view c.args.ty.now) refl refl c.in-None.ensures in
    let s = c.in-Tuple.span in
    sym (inside ∙ (elim c.in-Tuple.is [
      | inl e ↦ ap (λ w. span_of (inside_here p place w)) (ap written_view e.1 ∙ view-tuple e.0 s)
      | inr (inl e) ↦ ap (λ w. span_of (inside_here p place w)) (ap written_view e.1 ∙ view-slice e.0 s)
      | inr (inr (inl e)) ↦ ap (λ w. span_of (inside_here p place w)) (ap written_view e.1 ∙ view-array e.0 s)
      | inr (inr (inr e)) ↦ ap (λ w. span_of (inside_here p place w)) (ap written_view e.1 ∙ view-object e.0 s)
    ]))
