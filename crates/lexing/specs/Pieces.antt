-- The pieces of a text, over its characters (The Rust Reference, "Whitespace", "Comments", "Identifiers", "Tokens").
use Rattle.std.specs.Prelude.{◌≡◌, ℕ, ◌+◌, ◌≤◌, ◌⊎◌, List, [], ◌∷◌, ◌++◌, length, codes, Bool, true, false, not, ◌||◌, ◌&&◌, ◌==◌}
use Rattle.std.specs.Str.{encode_utf8_all}
use Rattle.std.specs.Int.{is_in_range}
use Rattle.std.specs.List.{list_all, list_any}
use Rattle.unicode_ident.specs.Ident.{is_xid_continue}
use Rattle.literals.specs.Literals.{starts_name, IsLiteral}
use Rattle.tokens.specs.declared.token.Bracket.{Bracket}
use Rattle.tokens.specs.declared.token.Bracket.TheVariants.{Round, Square, Curly}
use Rattle.tokens.specs.declared.token.TokenKind.TheVariants.{Ident, Lifetime, Literal, Punct, Doc}
use Rattle.lexing.specs.declared.piece.Piece.{Piece}
use Rattle.lexing.specs.declared.piece.PieceKind.{PieceKind}
use Rattle.lexing.specs.declared.piece.PieceKind.TheVariants.{Space, Comment, Token, Open, Close}

-- ---- characters

abbrev pub quote : ℕ
quote = 39

abbrev pub star : ℕ
star = 42

abbrev pub slash : ℕ
slash = 47

-- U+0009 to U+000D, U+0020, U+0085, U+200E, U+200F, U+2028 and U+2029
abbrev pub is_white : ℕ → Bool
is_white c = is_in_range 9 13 c || (c == 0x20) || (c == 0x85) || (c == 0x200E) || (c == 0x200F) || (c == 0x2028) || (c == 0x2029)

-- a character of a line: any but U+000A
abbrev pub is_in_line : ℕ → Bool
is_in_line c = not (c == 10)

-- the signs of one character
abbrev pub signs : List ℕ
signs = codes "!#$%&*+,-./:;<=>?@^|~"

abbrev pub is_sign : ℕ → Bool
is_sign c = list_any (λ sign. c == sign) signs

-- ( [ {
abbrev pub opening : Bracket → ℕ
opening Round = 40
opening Square = 91
opening Curly = 123

-- ) ] }
abbrev pub closing : Bracket → ℕ
closing Round = 41
closing Square = 93
closing Curly = 125

abbrev pub begins_with : ℕ → List ℕ → Bool
begins_with c [] = false
begins_with c (d ∷ ds) = d == c

abbrev pub begins_with_two : ℕ → ℕ → List ℕ → Bool
begins_with_two a b [] = false
begins_with_two a b (c ∷ cs) = (c == a) && begins_with b cs

-- ---- comments

-- the text begins with neither /* nor */
abbrev pub is_plain : List ℕ → Bool
is_plain cs = not (begins_with_two slash star cs || begins_with_two star slash cs)

-- Between /* and */ stand characters and whole block comments. The text before begins so, and rest is what follows.
pub data IsInside : List ℕ → List ℕ → Type 0 where
  nothing : {rest : List ℕ} → IsInside rest rest
  nested : {cs mid rest : List ℕ} → IsInside cs (star ∷ slash ∷ mid) → IsInside mid rest → IsInside (slash ∷ star ∷ cs) rest
  plain : {c : ℕ} {cs rest : List ℕ} → is_plain (c ∷ cs) ≡ true → IsInside cs rest → IsInside (c ∷ cs) rest

-- what follows the // or /* of a doc comment: !, or their second character again, and then neither that nor /
abbrev pub is_doc : ℕ → List ℕ → Bool
is_doc second [] = false
is_doc second (c ∷ cs) = (c == 33) || ((c == second) && not (begins_with second cs || begins_with slash cs))

-- the characters are // and the rest of a line, as a doc comment or not
abbrev pub IsLineComment : Bool → List ℕ → Type 0
IsLineComment doc cs = (body : List ℕ) × (cs ≡ slash ∷ slash ∷ body) × (list_all is_in_line body ≡ true) × (is_doc slash body ≡ doc)

-- the characters are /* up to its */, as a doc comment or not
abbrev pub IsBlockComment : Bool → List ℕ → Type 0
IsBlockComment doc cs = (body : List ℕ) × (cs ≡ slash ∷ star ∷ body) × IsInside body (star ∷ slash ∷ []) × (is_doc star body ≡ doc)

abbrev pub IsComment : Bool → List ℕ → Type 0
IsComment doc cs = IsLineComment doc cs ⊎ IsBlockComment doc cs

-- ---- identifiers

abbrev pub IsName : List ℕ → Type 0
IsName [] = ⊥
IsName (c ∷ cs) = (starts_name c ≡ true) × (list_all is_xid_continue cs ≡ true)

-- a name, or a raw one
abbrev pub IsIdentifier : List ℕ → Type 0
IsIdentifier cs = IsName cs ⊎ ((name : List ℕ) × (cs ≡ codes "r#" ++ name) × IsName name)

-- ---- pieces

-- the characters are one piece of the kind
abbrev pub IsPiece : PieceKind → List ℕ → Type 0
IsPiece kind [] = ⊥
IsPiece Space (c ∷ cs) = list_all is_white (c ∷ cs) ≡ true
IsPiece Comment (c ∷ cs) = IsComment false (c ∷ cs)
IsPiece (Token Doc) (c ∷ cs) = IsComment true (c ∷ cs)
IsPiece (Token Ident) (c ∷ cs) = IsIdentifier (c ∷ cs)
IsPiece (Token Lifetime) (c ∷ cs) = (c ≡ quote) × IsIdentifier cs
IsPiece (Token Literal) (c ∷ cs) = IsLiteral (c ∷ cs)
IsPiece (Token Punct) (c ∷ cs) = ((is_sign c ≡ true) × (cs ≡ [])) ⊎ (c ∷ cs ≡ codes "::")
IsPiece (Open b) (c ∷ cs) = (c ≡ opening b) × (cs ≡ [])
IsPiece (Close b) (c ∷ cs) = (c ≡ closing b) × (cs ≡ [])

-- no quote follows a lifetime, and no star the sign /, which would open a comment
abbrev pub may_end : PieceKind → List ℕ → List ℕ → Bool
may_end (Token Lifetime) front rest = not (begins_with quote rest)
may_end (Token Punct) front rest = not (begins_with slash front && begins_with star rest)
may_end kind front rest = true

-- of a text that is front and then rest, the front is the longest piece that begins there, and the rest may follow it
pub record IsLongest (kind : PieceKind) (front rest : List ℕ) : Type 0 where
  pub piece : IsPiece kind front
  pub longest : (k : PieceKind) (long less : List ℕ) → IsPiece k long → front ++ rest ≡ long ++ less → length long ≤ length front
  pub ends : may_end kind front rest ≡ true

-- The pieces, each the longest that begins there, are the text whose first byte is at the offset.
abbrev pub Cuts : List Piece → ℕ → List ℕ → Type 0
Cuts [] offset text = text ≡ []
Cuts (p ∷ ps) offset text =
    (front : List ℕ) × (rest : List ℕ) × (text ≡ front ++ rest) × IsLongest p.kind front rest × (p.span.start ≡ offset) × (p.span.end ≡ offset + length (encode_utf8_all front)) × Cuts ps p.span.end rest
