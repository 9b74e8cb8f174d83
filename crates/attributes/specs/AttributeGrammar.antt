-- The grammar of attributes (The Rust Reference, "Attributes", "Doc comments") and of serde's lists of items (serde.rs, "Attributes"). In `IsX before x rest` the words before begin with an x, and rest is what follows it.
use Rattle.std.specs.Prelude.{◌≡◌, ℕ, List, [], ◌∷◌, ◌++◌, Some, true, false, codes}
use Rattle.texts.specs.declared.span.Span.{Span}
use Rattle.tokens.specs.declared.token.Token.{Token}
use Rattle.tokens.specs.declared.token.Bracket.{Bracket}
use Rattle.tokens.specs.declared.token.Bracket.TheVariants.{Square}
use Rattle.tokens.specs.Trees.{Trees}
use Rattle.written_types.specs.declared.written.Ident.{Ident}
use Rattle.written_types.specs.Written.{WrittenPath}
use Rattle.words.specs.declared.vocabulary.Sign.TheVariants.{Colons, Equals, Hash}
use Rattle.words.specs.Words.{Word, sign, literal, group, words_of, cover}
use Rattle.words.specs.Lists.{IsList}
use Rattle.literal_values.specs.Values.{text_value}
use Rattle.attributes.specs.declared.serde_item.SerdeItem.{SerdeItem}
use Rattle.attributes.specs.Attributes.{MetaItem, word, value, items, AttributeItem, is_word}
use Rattle.attributes.specs.AttributeWords.{as_ident, as_outer_doc, path_item, attribute_item, kept, bare_item, text_item}

-- ident ("::" ident)*
pub data IsPath : List Word → List Ident → List Word → Type 0 where
  last_ident : {w : Word} {x : Ident} {rest : List Word} → as_ident w ≡ Some x → IsPath (w ∷ rest) (x ∷ []) rest
  more_idents : {w : Word} {x : Ident} {s : Span} {ws rest : List Word} {xs : List Ident} → as_ident w ≡ Some x → IsPath ws xs rest → IsPath (w ∷ sign Colons s ∷ ws) (x ∷ xs) rest

-- ("=" expr | group)?, all of the words, where expr is one or more words
pub data IsMeta : List Word → MetaItem → Type 0 where
  no_meta : IsMeta [] word
  valued : {s : Span} {w : Word} {ws : List Word} → IsMeta (sign Equals s ∷ w ∷ ws) (value (w ∷ ws))
  listed : {b : Bracket} {inside : Trees} {s : Span} → IsMeta (group b inside s ∷ []) (items b inside s)

-- ident | ident "=" string-literal | ident group
pub data IsSerdeItem : List Word → SerdeItem → List Word → Type 0 where
  bare : {w : Word} {x : Ident} {rest : List Word} → as_ident w ≡ Some x → IsSerdeItem (w ∷ rest) (bare_item x) rest
  texted : {w : Word} {x : Ident} {s : Span} {t : Token} {text : List ℕ} {rest : List Word} → as_ident w ≡ Some x → text_value t ≡ Some text → IsSerdeItem (w ∷ sign Equals s ∷ literal t ∷ rest) (text_item x text t.span) rest
  grouped : {w : Word} {x : Ident} {b : Bracket} {inside : Trees} {s : Span} {rest : List Word} → as_ident w ≡ Some x → IsSerdeItem (w ∷ group b inside s ∷ rest) (bare_item x) rest

-- a group that is a list of these items
abbrev pub IsSerdeList : MetaItem → List SerdeItem → Type 0
IsSerdeList (items b inside s) xs = IsList IsSerdeItem (words_of inside) xs
IsSerdeList _ xs = ⊥

-- behind `serde` stands a list of its items; behind other paths stands anything, without items
pub data HasItems (path : WrittenPath) (meta : MetaItem) : List SerdeItem → Type 0 where
  of_serde : {xs : List SerdeItem} → is_word (codes "serde") path ≡ true → IsSerdeList meta xs → HasItems path meta xs
  of_another : is_word (codes "serde") path ≡ false → HasItems path meta []

-- outer-doc | "#" "[" path meta "]", of which the list holds what is read
pub data IsAttribute : List Word → List AttributeItem → List Word → Type 0 where
  outer_doc : {w : Word} {a : AttributeItem} {rest : List Word} → as_outer_doc w ≡ Some a → IsAttribute (w ∷ rest) (a ∷ []) rest
  in_brackets : {h s : Span} {inside : Trees} {xs : List Ident} {meta : MetaItem} {ys : List SerdeItem} {ws rest : List Word}
      → IsPath (words_of inside) xs ws → IsMeta ws meta → HasItems (path_item xs) meta ys
      → IsAttribute (sign Hash h ∷ group Square inside s ∷ rest) (kept (attribute_item (path_item xs) meta ys (cover h s))) rest

-- attribute*
pub data IsAttributes : List Word → List AttributeItem → List Word → Type 0 where
  no_attributes : {rest : List Word} → IsAttributes rest [] rest
  more_attributes : {ws mid rest : List Word} {first others : List AttributeItem} → IsAttribute ws first mid → IsAttributes mid others rest → IsAttributes ws (first ++ others) rest
