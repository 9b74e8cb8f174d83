-- Reading attributes from left to right, as functions.
use Rattle.std.specs.Prelude.{ℕ, zero, suc, List, [], ◌∷◌, ◌++◌, length, codes, Bool, false, cond, ◌||◌, is_some, Option, Some, None, Result, Ok, Err}
use Rattle.texts.specs.declared.span.Span.{Span}
use Rattle.tokens.specs.declared.token.Token.{Token}
use Rattle.tokens.specs.declared.token.Bracket.{Bracket}
use Rattle.tokens.specs.declared.token.Bracket.TheVariants.{Square}
use Rattle.tokens.specs.Trees.{Trees}
use Rattle.written_types.specs.declared.written.Ident.{Ident}
use Rattle.written_types.specs.Written.{WrittenPath}
use Rattle.words.specs.declared.vocabulary.Sign.TheVariants.{Colons, Equals, Hash}
use Rattle.words.specs.Words.{Word, group, words_of, cover}
use Rattle.words.specs.Reading.{Fault, wrong, Read, ◌>>=◌, first_as, as_sign, literal_at, sign_at, group_at}
use Rattle.words.specs.Lists.{list_of}
use Rattle.literal_values.specs.Values.{text_value}
use Rattle.attributes.specs.declared.serde_item.SerdeItem.{SerdeItem}
use Rattle.attributes.specs.declared.serde_item.SerdeText.{SerdeText}
use Rattle.attributes.specs.Attributes.{MetaItem, value, items, AttributeItem, is_word}
use Rattle.attributes.specs.Attributes as item
use Rattle.attributes.specs.AttributeWords.{as_ident, as_outer_doc, path_item, attribute_item, kept}

-- what is read, with more at its front
abbrev pub with_before : {A : Type 0} → List A → Read (List A) → Read (List A)
with_before front r = r >>= λ p. Ok (front ++ p.0, p.1)

abbrev pub ident_at : List Word → Read Ident
ident_at = first_as as_ident

-- the identifier, where one stands, and others
abbrev pub ident_before : Option Ident → Read (List Ident) → Read (List Ident)
ident_before None r = Err wrong
ident_before (Some x) r = with_before (x ∷ []) r

-- ("::" ident)*
abbrev pub more_idents_at : List Word → Read (List Ident)
more_idents_at [] = Ok ([], [])
more_idents_at (w ∷ []) = cond (is_some (as_sign Colons w)) (Err wrong) (Ok ([], w ∷ []))
more_idents_at (w ∷ v ∷ ws) = cond (is_some (as_sign Colons w)) (ident_before (as_ident v) (more_idents_at ws)) (Ok ([], w ∷ v ∷ ws))

-- ident ("::" ident)*
unfoldable pub idents_at : List Word → Read (List Ident)
idents_at ws = ident_at ws >>= λ x. with_before (x.0 ∷ []) (more_idents_at x.1)

unfoldable pub path_at : List Word → Read WrittenPath
path_at ws = idents_at ws >>= λ xs. Ok (path_item xs.0, xs.1)

-- ("=" expr | group)?, all of the words
abbrev pub group_meta : Bracket → Trees → Span → List Word → Result MetaItem Fault
group_meta b inside s [] = Ok (items b inside s)
group_meta b inside s (w ∷ ws) = Err wrong

abbrev pub value_meta : List Word → Result MetaItem Fault
value_meta [] = Err wrong
value_meta (w ∷ ws) = Ok (value (w ∷ ws))

unfoldable pub meta_of : List Word → Result MetaItem Fault
meta_of [] = Ok item.word
meta_of (group b inside s ∷ ws) = group_meta b inside s ws
meta_of (w ∷ ws) = sign_at Equals (w ∷ ws) >>= λ e. value_meta e.1

-- ---- serde's items

abbrev pub text_from : Token → List Word → Option (List ℕ) → Read SerdeText
text_from t ws None = Err wrong
text_from t ws (Some text) = Ok (record { text = text; span = t.span }, ws)

-- a string literal
unfoldable pub text_at : List Word → Read SerdeText
text_at ws = literal_at ws >>= λ t. text_from t.0 t.1 (text_value t.0)

-- `=` and a text, a group, or nothing
unfoldable pub value_at : List Word → Read (Option SerdeText)
value_at [] = Ok (None, [])
value_at (group b inside s ∷ ws) = Ok (None, ws)
value_at (w ∷ ws) = cond (is_some (as_sign Equals w)) (text_at ws >>= λ t. Ok (Some t.0, t.1)) (Ok (None, w ∷ ws))

unfoldable pub serde_item_at : List Word → Read SerdeItem
serde_item_at ws = ident_at ws >>= λ x. value_at x.1 >>= λ v. Ok (record { name = x.0; value = v.0 }, v.1)

-- the items of a group
abbrev pub serde_list : MetaItem → Result (List SerdeItem) Fault
serde_list (items b inside s) = list_of serde_item_at (words_of inside)
serde_list _ = Err wrong

-- the items of what stands behind the path: those of serde's list, and none behind another path
unfoldable pub items_of : WrittenPath → MetaItem → Result (List SerdeItem) Fault
items_of path meta = cond (is_word (codes "serde") path) (serde_list meta) (Ok [])

-- ---- attributes

-- what is read of an attribute between square brackets
unfoldable pub attribute_in : Span → List Word → Result (List AttributeItem) Fault
attribute_in span ws = path_at ws >>= λ p. meta_of p.1 >>= λ m. items_of p.0 m >>= λ xs. Ok (kept (attribute_item p.0 m xs span))

-- an outer doc comment or a `#` begins an attribute
abbrev pub begins_attribute : Word → Bool
begins_attribute w = is_some (as_outer_doc w) || is_some (as_sign Hash w)

abbrev pub begin_attributes : List Word → Bool
begin_attributes [] = false
begin_attributes (w ∷ ws) = begins_attribute w

abbrev pub attribute_behind : Option AttributeItem → Option Span → List Word → Read (List AttributeItem)
attribute_behind (Some a) hash ws = Ok (a ∷ [], ws)
attribute_behind None (Some h) ws = group_at Square ws >>= λ g. attribute_in (cover h g.0.1) (words_of g.0.0) >>= λ xs. Ok (xs, g.1)
attribute_behind None None ws = Err wrong

unfoldable pub attribute_at : List Word → Read (List AttributeItem)
attribute_at [] = Err wrong
attribute_at (w ∷ ws) = attribute_behind (as_outer_doc w) (as_sign Hash w) ws

-- attribute*, with a bound on their number
unfoldable pub attributes_within : ℕ → List Word → Read (List AttributeItem)
attributes_within n [] = Ok ([], [])
attributes_within zero (w ∷ ws) = Ok ([], w ∷ ws)
attributes_within (suc n) (w ∷ ws) = cond (begins_attribute w) (attribute_at (w ∷ ws) >>= λ p. with_before p.0 (attributes_within n p.1)) (Ok ([], w ∷ ws))

unfoldable pub attributes_at : List Word → Read (List AttributeItem)
attributes_at ws = attributes_within (length ws) ws
