-- Formats: those of the built-in names, and those that stand in attributes (OpenAPI 3.1, "Data Types"; JSON Schema, Validation, "Defined Formats").
use Rattle.std.specs.Prelude.{ℕ, List, [], ◌∷◌, ◌++◌, Option, Some, None, option_and_then, bytes_eq, cond, codes}
use Rattle.std.specs.List.{join_by}
use Rattle.diag.specs.Refusal.{IsRefusal}
use Rattle.diag.specs.declared.error.DeriveError.{DeriveError}
use Rattle.diag.specs.declared.kind.Kind.TheVariants.{BadValue}
use Rattle.texts.specs.declared.span.Span.{Span}
use Rattle.leaves.specs.declared.leaf.Leaf.{Leaf}
use Rattle.leaves.specs.declared.leaf.Leaf.TheVariants as leaf
use Rattle.literal_values.specs.Values.{value_of}
use Rattle.literal_values.specs.declared.value.LiteralValue.{LiteralValue}
use Rattle.literal_values.specs.declared.value.LiteralValue.TheVariants.{Text}
use Rattle.tokens.specs.Trees.{Tree, token, group, Trees, end, ◌▸◌}
use Rattle.tokens.specs.declared.token.Token.{Token}
use Rattle.tokens.specs.declared.token.TokenKind.{TokenKind}
use Rattle.tokens.specs.declared.token.TokenKind.TheVariants as kind
use Rattle.words.specs.Words.{cover, ident_of}
use Rattle.written_types.specs.declared.written.Ident.{Ident}
use Rattle.type_tree.specs.declared.known_format.KnownFormat.{KnownFormat}
use Rattle.type_tree.specs.declared.known_format.KnownFormat.TheVariants as format

abbrev pub format_of : Option Leaf → KnownFormat
format_of (Some leaf.I8) = format.Int32
format_of (Some leaf.I16) = format.Int32
format_of (Some leaf.I32) = format.Int32
format_of (Some leaf.I64) = format.Int64
format_of (Some leaf.U8) = format.Int32
format_of (Some leaf.U16) = format.Int32
format_of (Some leaf.U32) = format.Int32
format_of (Some leaf.U64) = format.Int64
format_of (Some leaf.F32) = format.Float
format_of (Some leaf.F64) = format.Double
format_of other = format.Unknown

-- ---- formats in attributes

abbrev pub named_formats : List (List ℕ × KnownFormat)
named_formats =
    (codes "Int32", format.Int32) ∷ (codes "Int64", format.Int64) ∷ (codes "Float", format.Float) ∷ (codes "Double", format.Double)
    ∷ (codes "Byte", format.Byte) ∷ (codes "Binary", format.Binary) ∷ (codes "Date", format.Date) ∷ (codes "DateTime", format.DateTime)
    ∷ (codes "Duration", format.Duration) ∷ (codes "Password", format.Password) ∷ (codes "Email", format.Email) ∷ (codes "IdnEmail", format.IdnEmail)
    ∷ (codes "Hostname", format.Hostname) ∷ (codes "IdnHostname", format.IdnHostname) ∷ (codes "Ipv4", format.Ipv4) ∷ (codes "Ipv6", format.Ipv6)
    ∷ (codes "UriTemplate", format.UriTemplate) ∷ (codes "JsonPointer", format.JsonPointer)
    ∷ (codes "RelativeJsonPointer", format.RelativeJsonPointer) ∷ (codes "Regex", format.Regex) ∷ []

abbrev pub format_among : List ℕ → List (List ℕ × KnownFormat) → Option KnownFormat
format_among name [] = None
format_among name (f ∷ fs) = cond (bytes_eq name f.0) (Some f.1) (format_among name fs)

-- the format of a name
abbrev pub format_named : List ℕ → Option KnownFormat
format_named name = format_among name named_formats

-- any text is a format
abbrev pub custom_format : Option LiteralValue → Option KnownFormat
custom_format (Some (Text text)) = Some (format.Custom text)
custom_format other = None

abbrev pub token_format : TokenKind → Token → Option KnownFormat
token_format kind.Ident t = format_named (ident_of t).text
token_format kind.Literal t = custom_format (value_of t)
token_format other t = None

abbrev pub token_of : Tree → Option Token
token_of (token t) = Some t
token_of (group b ts s) = None

-- the token where there is one tree, and it is a token
abbrev pub only_token : Trees → Option Token
only_token end = None
only_token (t ▸ end) = token_of t
only_token (t ▸ (u ▸ ts)) = None

-- the format of the trees after `format =`: one identifier or one string
abbrev pub format_value : Trees → Option KnownFormat
format_value ts = option_and_then (λ t. token_format t.kind t) (only_token ts)

-- ---- other values are refused

-- the bytes of a token, or of a group with its brackets
abbrev pub tree_span : Tree → Span
tree_span (token t) = t.span
tree_span (group b ts s) = s

abbrev pub last_span : Tree → Trees → Span
last_span t end = tree_span t
last_span t (u ▸ ts) = last_span u ts

-- from the first tree to the last, or the other span where there is no tree
abbrev pub trees_span : Trees → Span → Span
trees_span end none = none
trees_span (t ▸ end) none = tree_span t
trees_span (t ▸ (u ▸ ts)) none = cover (tree_span t) (last_span u ts)

abbrev pub expected_formats : List ℕ
expected_formats = codes ", expected one of: " ++ join_by (λ f. f.0) (codes ", ") named_formats

abbrev pub unexpected_value : List ℕ → List ℕ
unexpected_value attribute = codes "unexpected value of " ++ attribute

abbrev pub token_message : TokenKind → Token → List ℕ → List ℕ
token_message kind.Ident t attribute = codes "unexpected format: " ++ (ident_of t).text ++ expected_formats
token_message other t attribute = unexpected_value attribute

-- of one identifier the message tells the names, of anything else the attribute
abbrev pub format_message : Option Token → List ℕ → List ℕ
format_message None attribute = unexpected_value attribute
format_message (Some t) attribute = token_message t.kind t attribute

-- the error refuses the trees as the value of the attribute
abbrev pub IsRefusedFormat : Trees → Ident → DeriveError → Type 0
IsRefusedFormat ts x e = IsRefusal BadValue (trees_span ts x.span) (format_message (only_token ts) x.text) e
