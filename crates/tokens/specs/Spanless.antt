-- Token trees without their spans: each is `0..0`.
use Rattle.texts.specs.Span.{no_span}
use Rattle.tokens.specs.declared.token.Token.{Token}
use Rattle.tokens.specs.Trees.{Tree, token, group, Trees, end, ◌▸◌}

abbrev pub token_without_span : Token → Token
token_without_span t = record { kind = t.kind; text = t.text; span = no_span }

abbrev mutual
  pub tree_without_spans : Tree → Tree
  tree_without_spans (token t) = token (token_without_span t)
  tree_without_spans (group b ts s) = group b (trees_without_spans ts) no_span

  pub trees_without_spans : Trees → Trees
  trees_without_spans end = end
  trees_without_spans (t ▸ ts) = tree_without_spans t ▸ trees_without_spans ts
