-- What a token tree is to the grammar (The Rust Reference, "Keywords", "Identifiers", "Punctuation").
use Rattle.std.specs.Prelude.{ℕ, suc, min, max, List, [], ◌∷◌, ◌++◌, Bool, false, cond, codes, take, drop, Option, Some, None}
use Rattle.std.specs.Char.{is_ascii_lowercase}
use Rattle.std.specs.List.{list_any}
use Rattle.std.specs.Str.{bytes_eq}
use Rattle.std.proofs.Math.Nat.{le-max_left, le-min, le-suc}
use Rattle.texts.specs.declared.span.Span.{Span}
use Rattle.tokens.specs.declared.token.Token.{Token}
use Rattle.tokens.specs.declared.token.TokenKind.{TokenKind}
use Rattle.tokens.specs.declared.token.TokenKind.TheVariants as kind
use Rattle.tokens.specs.declared.token.Bracket.{Bracket}
use Rattle.tokens.specs.declared.token.TokenTree.{TokenTree}
use Rattle.tokens.specs.Trees.{Tree, token, Trees, end, ◌▸◌, trees_view}
use Rattle.tokens.specs.Trees as trees
use Rattle.written_types.specs.declared.written.Ident.{Ident}
use Rattle.words.specs.declared.vocabulary.Keyword.{Keyword}
use Rattle.words.specs.declared.vocabulary.Keyword.TheVariants as keywords
use Rattle.words.specs.declared.vocabulary.Sign.{Sign}
use Rattle.words.specs.declared.vocabulary.Sign.TheVariants as signs

-- an identifier that is neither `_` nor a keyword, `_`, a keyword, a sign, a lifetime, a literal, a doc comment, and what stands in brackets
pub data Word : Type 0 where
  name : Ident → Word
  underscore : Ident → Word
  keyword : Keyword → Ident → Word
  sign : Sign → Span → Word
  lifetime : Ident → Word
  literal : Token → Word
  doc : Token → Word
  group : Bracket → Trees → Span → Word

-- the keywords, by their lengths
abbrev pub reserved_of_2 : List (List ℕ)
reserved_of_2 = codes "as" ∷ codes "do" ∷ codes "fn" ∷ codes "if" ∷ codes "in" ∷ []

abbrev pub reserved_of_3 : List (List ℕ)
reserved_of_3 = codes "box" ∷ codes "dyn" ∷ codes "for" ∷ codes "let" ∷ codes "mod" ∷ codes "mut" ∷ codes "pub" ∷ codes "ref" ∷ codes "try" ∷ codes "use" ∷ []

abbrev pub reserved_of_4 : List (List ℕ)
reserved_of_4 = codes "else" ∷ codes "enum" ∷ codes "impl" ∷ codes "loop" ∷ codes "move" ∷ codes "priv" ∷ codes "self" ∷ codes "Self" ∷ codes "true" ∷ codes "type" ∷ []

abbrev pub reserved_of_5 : List (List ℕ)
reserved_of_5 = codes "async" ∷ codes "await" ∷ codes "break" ∷ codes "const" ∷ codes "crate" ∷ codes "false" ∷ codes "final" ∷ codes "macro" ∷ codes "match" ∷ codes "super" ∷ codes "trait" ∷ codes "where" ∷ codes "while" ∷ codes "yield" ∷ []

abbrev pub reserved_of_6 : List (List ℕ)
reserved_of_6 = codes "become" ∷ codes "extern" ∷ codes "return" ∷ codes "static" ∷ codes "struct" ∷ codes "typeof" ∷ codes "unsafe" ∷ []

abbrev pub reserved_of_7 : List (List ℕ)
reserved_of_7 = codes "unsized" ∷ codes "virtual" ∷ []

abbrev pub reserved_of_8 : List (List ℕ)
reserved_of_8 = codes "abstract" ∷ codes "continue" ∷ codes "override" ∷ []

abbrev pub reserved_words : List (List ℕ)
reserved_words = reserved_of_2 ++ (reserved_of_3 ++ (reserved_of_4 ++ (reserved_of_5 ++ (reserved_of_6 ++ (reserved_of_7 ++ reserved_of_8)))))

-- the text is one of the words
abbrev pub is_among : List ℕ → List (List ℕ) → Bool
is_among text words = list_any (λ word. bytes_eq text word) words

-- the text begins with a small letter of ASCII
abbrev pub begins_small : List ℕ → Bool
begins_small [] = false
begins_small (b ∷ bs) = is_ascii_lowercase b

unfoldable pub is_reserved : List ℕ → Bool
is_reserved text = is_among text reserved_words

-- what stands beside the text in the first of the rows that has it, or else the other
abbrev pub found_in : {A : Type 0} → List ℕ → List (List ℕ × A) → A → A
found_in text [] other = other
found_in text (row ∷ rows) other = cond (bytes_eq text row.0) row.1 (found_in text rows other)

abbrev pub grammar_keywords : List (List ℕ × Option Keyword)
grammar_keywords =
    (codes "pub", Some keywords.Pub) ∷ (codes "struct", Some keywords.Struct) ∷ (codes "enum", Some keywords.Enum) ∷ (codes "use", Some keywords.Use) ∷ (codes "mut", Some keywords.Mut)
    ∷ (codes "dyn", Some keywords.Dyn) ∷ (codes "in", Some keywords.In) ∷ (codes "crate", Some keywords.Crate) ∷ (codes "self", Some keywords.SelfValue) ∷ (codes "super", Some keywords.Super)
    ∷ (codes "Self", Some keywords.SelfType) ∷ (codes "true", Some keywords.True) ∷ (codes "false", Some keywords.False) ∷ (codes "const", Some keywords.Const) ∷ (codes "where", Some keywords.Where) ∷ []

-- the keyword that the text is, if it is one
unfoldable pub keyword_of : List ℕ → Option Keyword
keyword_of text = found_in text grammar_keywords (cond (is_reserved text) (Some keywords.Other) None)

abbrev pub grammar_signs : List (List ℕ × Sign)
grammar_signs =
    (codes "::", signs.Colons) ∷ (codes "!", signs.Exclamation) ∷ (codes "#", signs.Hash) ∷ (codes "$", signs.Dollar) ∷ (codes "%", signs.Percent) ∷ (codes "&", signs.Ampersand)
    ∷ (codes "*", signs.Star) ∷ (codes "+", signs.Plus) ∷ (codes ",", signs.Comma) ∷ (codes "-", signs.Minus) ∷ (codes ".", signs.Dot) ∷ (codes "/", signs.Slash) ∷ (codes ":", signs.Colon)
    ∷ (codes ";", signs.Semicolon) ∷ (codes "<", signs.Less) ∷ (codes "=", signs.Equals) ∷ (codes ">", signs.Greater) ∷ (codes "?", signs.Question) ∷ (codes "@", signs.At) ∷ (codes "^", signs.Caret)
    ∷ (codes "|", signs.Bar) ∷ (codes "~", signs.Tilde) ∷ []

unfoldable pub sign_of : List ℕ → Sign
sign_of text = found_in text grammar_signs signs.Other

-- an identifier is raw where it begins with `r#`, which its text is without
abbrev pub is_raw : List ℕ → Bool
is_raw text = bytes_eq (take 2 text) (codes "r#")

abbrev pub unmarked : List ℕ → List ℕ
unmarked text = cond (is_raw text) (drop 2 text) text

-- a lifetime is raw where it begins with `'r#`, of which its text has only the `'`
abbrev pub is_raw_lifetime : List ℕ → Bool
is_raw_lifetime text = bytes_eq (take 3 text) (codes "'r#")

abbrev pub unmarked_lifetime : List ℕ → List ℕ
unmarked_lifetime text = cond (is_raw_lifetime text) (codes "'" ++ drop 3 text) text

-- the identifier that a token is, and the lifetime, whose text is with the `'`
abbrev pub ident_of : Token → Ident
ident_of t = record { text = unmarked t.text; raw = is_raw t.text; span = t.span }

abbrev pub lifetime_of : Token → Ident
lifetime_of t = record { text = unmarked_lifetime t.text; raw = is_raw_lifetime t.text; span = t.span }

-- an identifier that is no keyword is a name
abbrev pub keyword_or_name : Option Keyword → Ident → Word
keyword_or_name None x = name x
keyword_or_name (Some k) x = keyword k x

-- a raw identifier is never a keyword, but `r#_` is `_`
abbrev pub identifier_word : Ident → Word
identifier_word x = cond (bytes_eq x.text (codes "_")) (underscore x) (cond x.raw (name x) (keyword_or_name (keyword_of x.text) x))

abbrev pub token_word : TokenKind → Token → Word
token_word kind.Ident t = identifier_word (ident_of t)
token_word kind.Lifetime t = lifetime (lifetime_of t)
token_word kind.Literal t = literal t
token_word kind.Punct t = sign (sign_of t.text) t.span
token_word kind.Doc t = doc t

abbrev pub word_of : Tree → Word
word_of (token t) = token_word t.kind t
word_of (trees.group b ts s) = group b ts s

abbrev pub words_of : Trees → List Word
words_of end = []
words_of (t ▸ ts) = word_of t ∷ words_of ts

abbrev pub words_view : List TokenTree → List Word
words_view ts = words_of (trees_view ts)

-- from the start of the first to the end of the last; in a source, where the last ends no sooner than the first starts, that is last.end
unfoldable pub cover : Span → Span → Span
cover first last = record { start = first.start; end = max first.start last.end; ordered = le-max_left first.start last.end }

-- the byte of the bracket that opens a group
unfoldable pub opening : Span → Span
opening s = record { start = s.start; end = min (suc s.start) s.end; ordered = le-min (le-suc s.start) s.ordered }

-- the bytes of a word
abbrev pub span_of : Word → Span
span_of (name x) = x.span
span_of (underscore x) = x.span
span_of (keyword k x) = x.span
span_of (sign k s) = s
span_of (lifetime x) = x.span
span_of (literal t) = t.span
span_of (doc t) = t.span
span_of (group b ts s) = s

-- where a word begins: its bytes, or the opening bracket of what stands in brackets
abbrev pub start_of : Word → Span
start_of (group b ts s) = opening s
start_of w = span_of w
