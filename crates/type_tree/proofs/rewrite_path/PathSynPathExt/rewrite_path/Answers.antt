use Rattle.std.proofs.Common.{◌≡◌, inl, inr, ap, sym, ◌∙◌, rules}
use Rattle.written_types.specs.declared.written.Path.{Path}
use Rattle.written_types.specs.declared.written.WrittenType.{the_lemmas}
use Rattle.written_types.specs.declared.written.WrittenType.TheVariants as types
use Rattle.written_types.specs.Written.{path, written_view, path_view}
use Rattle.resolving.specs.Aliases.{expanded_type}
use Rattle.type_tree.specs.Aliases.{known_aliases, rewritten_path, alias_left}
use Rattle.type_tree.proofs.rewrite_path.PathSynPathExt.rewrite_path.Goals as goal

view_path : (q : Path) → written_view (types.Path q) ≡ path (path_view q)
view_path q = search (rules, the_lemmas)

pub returns-in-Some-clause-refused : goal.returns-in-Some-clause-refused
returns-in-Some-clause-refused c =
    let aliases = c.args.config.now.aliases in
    let made : written_view c.in_ok-expanded.expanded ≡ rewritten_path aliases (path_view c.args.self.now) =
    c.in_ok-expanded.ensures.expanded ∙ ap (expanded_type (known_aliases aliases)) (view_path c.in_ok-copy.field-0 ∙ ap path c.in_ok-copy.ensures) in
    elim c.arity.ensures [
      | inl memory ↦ inl memory
      | inr refused ↦ inr (inr ((c.in-Some.name.now, c.in-Some.span), sym (c.in-Some.ensures ∙ ap (alias_left aliases) made), refused))
    ]
