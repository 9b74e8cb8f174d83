-- Attributes, without where they lie in memory (The Rust Reference, "Attributes").
use Rattle.std.specs.Prelude.{ℕ, List, [], ◌∷◌, Bool, false, not, ◌&&◌, ◌||◌, codes, Option, Some, None}
use Rattle.std.specs.List.{flat_map}
use Rattle.std.specs.Str.{bytes_eq}
use Rattle.texts.specs.declared.span.Span.{Span}
use Rattle.tokens.specs.declared.token.Bracket.{Bracket}
use Rattle.tokens.specs.Trees.{Trees, trees_view}
use Rattle.written_types.specs.Written.{WrittenPath, path_of, Segments, no_segments, more_segments, plain, path_view}
use Rattle.words.specs.Words.{Word, words_view}
use Rattle.attributes.specs.declared.attribute.Attribute.{Attribute}
use Rattle.attributes.specs.declared.attribute.Meta.{Meta}
use Rattle.attributes.specs.declared.attribute.Meta.TheVariants as metas
use Rattle.attributes.specs.declared.serde_item.SerdeItem.{SerdeItem}

-- what stands behind an attribute's path: nothing, `=` and words, a group; or the text of a doc comment
pub data MetaItem : Type 0 where
  word : MetaItem
  value : List Word → MetaItem
  items : Bracket → Trees → Span → MetaItem
  doc : List ℕ → MetaItem

-- the items are those of the list behind `serde`; other attributes have none
pub record AttributeItem : Type 0 where
  pub path : WrittenPath
  pub meta : MetaItem
  pub items : List SerdeItem
  pub span : Span

-- what the program's values are
abbrev pub meta_view : Meta → MetaItem
meta_view metas.Word = word
meta_view (metas.NameValue ts) = value (words_view ts)
meta_view (metas.Items g) = items g.bracket (trees_view g.trees) g.span
meta_view (metas.Doc text) = doc text

abbrev pub attribute_view : Attribute → AttributeItem
attribute_view a = record { path = path_view a.path; meta = meta_view a.meta; items = a.items; span = a.span }

-- the items of all serde lists at one place, as one list
abbrev pub serde_items : List AttributeItem → List SerdeItem
serde_items attributes = flat_map (λ a. a.items) attributes

-- one that is read, and nothing of another
abbrev pub kept_view : Option Attribute → List AttributeItem
kept_view None = []
kept_view (Some a) = attribute_view a ∷ []

-- the only segment is this word, without arguments
abbrev pub is_only : List ℕ → Segments → Bool
is_only text (more_segments (plain x) no_segments) = bytes_eq x.text text
is_only text _ = false

-- the path is this word alone
abbrev pub is_word : List ℕ → WrittenPath → Bool
is_word text (path_of leading segments s) = not leading && is_only text segments

-- the attributes that are read; others leave nothing
abbrev pub is_read : WrittenPath → Bool
is_read path =
    is_word (codes "doc") path || is_word (codes "serde") path || is_word (codes "schema") path || is_word (codes "repr") path || is_word (codes "deprecated") path
    || is_word (codes "cfg_attr") path || is_word (codes "serde_as") path
