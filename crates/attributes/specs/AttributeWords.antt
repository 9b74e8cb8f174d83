-- Words of attributes: identifiers, doc comments, and what is made of them (The Rust Reference, "Comments", "Attributes").
use Rattle.std.specs.Prelude.{ℕ, ◌-◌, List, [], ◌∷◌, length, take, drop, get_or, map, codes, Bool, false, cond, ◌||◌, Option, Some, None}
use Rattle.std.specs.Option.{option_map}
use Rattle.std.specs.Str.{bytes_eq}
use Rattle.texts.specs.Span.{no_span}
use Rattle.texts.specs.declared.span.Span.{Span}
use Rattle.written_types.specs.declared.written.Ident.{Ident}
use Rattle.written_types.specs.Written.{WrittenPath, path_of, plain, segments_of}
use Rattle.words.specs.Words.{Word, name, underscore, keyword, doc, cover}
use Rattle.attributes.specs.declared.serde_item.SerdeItem.{SerdeItem}
use Rattle.attributes.specs.Attributes.{MetaItem, AttributeItem, is_read}
use Rattle.attributes.specs.Attributes as item

-- an identifier, keywords and `_` too
abbrev pub as_ident : Word → Option Ident
as_ident (name x) = Some x
as_ident (underscore x) = Some x
as_ident (keyword k x) = Some x
as_ident _ = None

-- from the first to the last
abbrev pub extent : List Ident → Span
extent [] = no_span
extent (x ∷ xs) = cover x.span (get_or (x ∷ xs) (length xs) x).span

-- the path of these words
unfoldable pub path_item : List Ident → WrittenPath
path_item xs = path_of false (segments_of (map plain xs)) (extent xs)

abbrev pub attribute_item : WrittenPath → MetaItem → List SerdeItem → Span → AttributeItem
attribute_item path meta xs span = record { path = path; meta = meta; items = xs; span = span }

-- an attribute that is read, and nothing of another
abbrev pub kept : AttributeItem → List AttributeItem
kept a = cond (is_read a.path) (a ∷ []) []

-- an item alone or with a group, and one with a text
abbrev pub bare_item : Ident → SerdeItem
bare_item x = record { name = x; value = None }

abbrev pub text_item : Ident → List ℕ → Span → SerdeItem
text_item x text span = record { name = x; value = Some (record { text = text; span = span }) }

-- ---- doc comments

-- the text begins with this mark of three characters
abbrev pub begins : List ℕ → List ℕ → Bool
begins mark text = bytes_eq (take 3 text) mark

-- a text without the closing `*/`
abbrev pub unclosed : List ℕ → List ℕ
unclosed text = cond (bytes_eq (drop (length text - 2) text) (codes "*/")) (take (length text - 2) text) text

-- an outer doc comment begins with `///` or `/**`; it says what follows, in a block without the closing `*/`
abbrev pub outer_text : List ℕ → Option (List ℕ)
outer_text text = cond (begins (codes "///") text) (Some (drop 3 text)) (cond (begins (codes "/**") text) (Some (unclosed (drop 3 text))) None)

-- an inner doc comment begins with `//!` or `/*!`
abbrev pub is_inner_text : List ℕ → Bool
is_inner_text text = begins (codes "//!") text || begins (codes "/*!") text

-- the word `doc` at a place
abbrev pub doc_word : Span → Ident
doc_word span = record { text = codes "doc"; raw = false; span = span }

abbrev pub doc_path : Span → WrittenPath
doc_path span = path_of false (segments_of (plain (doc_word span) ∷ [])) span

-- the attribute that an outer doc comment with this text is
abbrev pub doc_attribute : Span → List ℕ → AttributeItem
doc_attribute span text = attribute_item (doc_path span) (item.doc text) [] span

abbrev pub as_outer_doc : Word → Option AttributeItem
as_outer_doc (doc t) = option_map (doc_attribute t.span) (outer_text t.text)
as_outer_doc _ = None

abbrev pub is_inner_doc : Word → Bool
is_inner_doc (doc t) = is_inner_text t.text
is_inner_doc _ = false
