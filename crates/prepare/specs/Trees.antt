-- Single token trees, and parts of lists of them.
use Rattle.std.specs.Prelude.{ℕ, ◌-◌, List, [], ◌∷◌, length, take, get_or, codes, Bool, true, false, ◌||◌, is_some, Option, Some, None}
use Rattle.std.specs.Str.{bytes_eq}
use Rattle.texts.specs.Span.{no_span}
use Rattle.texts.specs.declared.span.Span.{Span}
use Rattle.tokens.specs.declared.token.Bracket.TheVariants.{Round, Square, Curly}
use Rattle.tokens.specs.declared.token.TokenKind.{TokenKind}
use Rattle.tokens.specs.declared.token.TokenKind.TheVariants as kind
use Rattle.tokens.specs.Trees.{Tree, token, group, Trees, end, ◌▸◌}
use Rattle.words.specs.Words.{cover}

-- the trees as a list
abbrev pub listed : Trees → List Tree
listed end = []
listed (t ▸ ts) = t ∷ listed ts

-- the text of an identifier or a keyword, of a sign, and of a doc comment
abbrev pub word_in : TokenKind → List ℕ → Option (List ℕ)
word_in kind.Ident text = Some text
word_in _ text = None

abbrev pub sign_in : TokenKind → List ℕ → Option (List ℕ)
sign_in kind.Punct text = Some text
sign_in _ text = None

abbrev pub doc_in : TokenKind → List ℕ → Option (List ℕ)
doc_in kind.Doc text = Some text
doc_in _ text = None

abbrev pub word : Tree → Option (List ℕ)
word (token t) = word_in t.kind t.text
word (group b ts s) = None

abbrev pub sign : Tree → Option (List ℕ)
sign (token t) = sign_in t.kind t.text
sign (group b ts s) = None

abbrev pub doc : Tree → Option (List ℕ)
doc (token t) = doc_in t.kind t.text
doc (group b ts s) = None

-- there is a text, and it is this one
abbrev pub is_text : List ℕ → Option (List ℕ) → Bool
is_text text None = false
is_text text (Some found) = bytes_eq found text

abbrev pub is_word : List ℕ → Tree → Bool
is_word text t = is_text text (word t)

abbrev pub is_sign : List ℕ → Tree → Bool
is_sign text t = is_text text (sign t)

-- a doc comment of what it stands in begins with `//!` or `/*!`, and one of what stands behind it with `///` or `/**`
abbrev pub begins : List ℕ → List ℕ → Bool
begins mark text = bytes_eq (take 3 text) mark

abbrev pub is_inner_text : Option (List ℕ) → Bool
is_inner_text None = false
is_inner_text (Some text) = begins (codes "//!") text || begins (codes "/*!") text

abbrev pub is_outer_text : Option (List ℕ) → Bool
is_outer_text None = false
is_outer_text (Some text) = begins (codes "///") text || begins (codes "/**") text

abbrev pub is_inner_doc : Tree → Bool
is_inner_doc t = is_inner_text (doc t)

abbrev pub is_outer_doc : Tree → Bool
is_outer_doc t = is_outer_text (doc t)

abbrev pub is_round : Tree → Bool
is_round (group Round ts s) = true
is_round _ = false

abbrev pub is_square : Tree → Bool
is_square (group Square ts s) = true
is_square _ = false

abbrev pub is_curly : Tree → Bool
is_curly (group Curly ts s) = true
is_curly _ = false

abbrev pub is_group : Tree → Bool
is_group (token t) = false
is_group (group b ts s) = true

-- a word, or `::`
abbrev pub is_path_part : Tree → Bool
is_path_part t = is_some (word t) || is_sign (codes "::") t

-- what stands in a group; nothing stands in a token
abbrev pub inside : Tree → List Tree
inside (token t) = []
inside (group b ts s) = listed ts

-- the bytes of a tree, and from the first of the trees to the last
abbrev pub span_of : Tree → Span
span_of (token t) = t.span
span_of (group b ts s) = s

abbrev pub extent : List Tree → Span
extent [] = no_span
extent (t ∷ ts) = cover (span_of t) (span_of (get_or (t ∷ ts) (length ts) t))

-- the trees that stand before the rest
abbrev pub before : List Tree → List Tree → List Tree
before ts rest = take (length ts - length rest) ts

-- the trees but for the last
abbrev pub but_last : List Tree → List Tree
but_last ts = take (length ts - 1) ts
