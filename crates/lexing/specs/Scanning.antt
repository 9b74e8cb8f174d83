-- What a scanner, which goes by a piece's first character, finds at the front of a text.
use Rattle.std.specs.Prelude.{◌≡◌, ℕ, zero, suc, ◌+◌, ◌-◌, ◌≤◌, ◌<◌, List, [], ◌∷◌, length, chars, drop, Bool, true, false, cond, ◌&&◌, ◌==◌, Option, Some, None}
use Rattle.std.specs.Borrow.{Bor}
use Rattle.std.specs.Str.{IsUtf8}
use Rattle.unicode_ident.specs.Ident.{is_xid_continue}
use Rattle.literals.specs.Literals.{starts_name}
use Rattle.literals.specs.Scanning.{skip, literal_at}
use Rattle.tokens.specs.declared.token.Bracket.TheVariants.{Round, Square, Curly}
use Rattle.tokens.specs.declared.token.TokenKind.TheVariants.{Ident, Lifetime, Literal, Punct, Doc}
use Rattle.lexing.specs.declared.comment.Mark.{Mark}
use Rattle.lexing.specs.declared.comment.Mark.TheVariants as marks
use Rattle.lexing.specs.declared.piece.LexError.{LexError}
use Rattle.lexing.specs.declared.piece.LexError.TheVariants.{Memory, TooDeep, Stopped}
use Rattle.lexing.specs.declared.piece.Piece.{Piece}
use Rattle.lexing.specs.declared.piece.PieceKind.{PieceKind}
use Rattle.lexing.specs.declared.piece.PieceKind.TheVariants.{Space, Comment, Token, Open, Close}
use Rattle.lexing.specs.declared.scan.Class.{Class}
use Rattle.lexing.specs.declared.scan.Class.TheVariants as classes
use Rattle.lexing.specs.declared.text.PieceRun.{PieceRun}
use Rattle.lexing.specs.declared.text.PieceRun.TheVariants as runs
use Rattle.lexing.specs.Pieces.{quote, star, slash, is_white, is_in_line, is_sign, begins_with_two, is_plain, is_doc, may_end, Cuts}

-- ---- what readers of a text answer

-- what follows a front of the text, where there is one
abbrev pub Finds : Option (List ℕ) → List ℕ → Option (Bor (List ℕ)) → Type 0
Finds found text None = found ≡ None
Finds found text (Some rest) = (found ≡ Some (chars rest.now)) × (length rest.now < length text) × IsUtf8 rest.now

-- the kind of a front of the text and what follows it, where there is one
abbrev pub FindsPiece : Option (PieceKind × List ℕ) → List ℕ → Option (PieceKind × Bor (List ℕ)) → Type 0
FindsPiece found text None = found ≡ None
FindsPiece found text (Some p) = (found ≡ Some (p.0, chars p.1.now)) × (length p.1.now < length text) × IsUtf8 p.1.now

-- ---- classes of characters

-- what a character may begin
abbrev pub bracket_class : ℕ → Class
bracket_class c =
    cond (c == 40) (classes.Opens Round) (cond (c == 91) (classes.Opens Square) (cond (c == 123) (classes.Opens Curly)
    (cond (c == 41) (classes.Closes Round) (cond (c == 93) (classes.Closes Square) (cond (c == 125) (classes.Closes Curly) classes.Other)))))

unfoldable pub class_of : ℕ → Class
class_of c =
    cond (is_white c) classes.White (cond (starts_name c) classes.NameStart (cond (c == slash) classes.Slash (cond (c == 58) classes.Colon
    (cond (c == quote) classes.Quote (cond (is_sign c) classes.Sign (bracket_class c))))))

-- ---- runs of characters

-- whether a character goes on with a run
abbrev pub continues : PieceRun → ℕ → Bool
continues runs.White c = is_white c
continues runs.Name c = is_xid_continue c
continues runs.Line c = is_in_line c

-- ---- identifiers

-- what follows the name at the front
abbrev pub name_at : List ℕ → Option (List ℕ)
name_at [] = None
name_at (c ∷ cs) = cond (starts_name c) (Some (skip is_xid_continue cs)) None

abbrev pub first_of_both : Option (List ℕ) → Option (List ℕ) → Option (List ℕ)
first_of_both None other = other
first_of_both (Some rest) other = Some rest

abbrev pub raw_name_at : List ℕ → Option (List ℕ)
raw_name_at text = cond (begins_with_two 114 35 text) (name_at (drop 2 text)) None

-- what follows the identifier at the front
abbrev pub identifier_at : List ℕ → Option (List ℕ)
identifier_at text = first_of_both (raw_name_at text) (name_at text)

-- ---- comments

-- what stands at the front of a text in a block comment
abbrev pub IsMark : Mark → List ℕ → List ℕ → Type 0
IsMark marks.Opens text rest = text ≡ slash ∷ star ∷ rest
IsMark marks.Closes text rest = text ≡ star ∷ slash ∷ rest
IsMark marks.Plain text rest = (c : ℕ) × (text ≡ c ∷ rest) × (is_plain text ≡ true)

-- how many block comments are open after a mark
abbrev pub open_after : Mark → ℕ → ℕ
open_after marks.Opens depth = depth + 1
open_after marks.Closes depth = depth - 1
open_after marks.Plain depth = depth

-- what follows the end of the last of so many open block comments
unfoldable pub closing_at : ℕ → List ℕ → Option (List ℕ)
closing_at zero cs = Some cs
closing_at (suc n) [] = None
closing_at (suc n) (c ∷ []) = None
closing_at (suc n) (c ∷ d ∷ cs) =
    cond ((c == slash) && (d == star)) (closing_at (suc (suc n)) cs) (cond ((c == star) && (d == slash)) (closing_at n cs) (closing_at (suc n) (d ∷ cs)))

abbrev pub comment_kind : Bool → PieceKind
comment_kind true = Token Doc
comment_kind false = Comment

abbrev pub of_kind : PieceKind → Option (List ℕ) → Option (PieceKind × List ℕ)
of_kind kind None = None
of_kind kind (Some rest) = Some (kind, rest)

-- the comment whose first slash stands before the text, and what follows it
abbrev pub comment_at : List ℕ → Option (PieceKind × List ℕ)
comment_at [] = None
comment_at (c ∷ body) =
    cond (c == slash) (Some (comment_kind (is_doc slash body), skip is_in_line body)) (cond (c == star) (of_kind (comment_kind (is_doc star body)) (closing_at 1 body)) None)

-- ---- pieces

abbrev pub or_sign : List ℕ → Option (PieceKind × List ℕ) → Option (PieceKind × List ℕ)
or_sign cs None = Some (Token Punct, cs)
or_sign cs (Some p) = Some p

-- what follows a sign that begins with a colon
abbrev pub after_colon : List ℕ → List ℕ
after_colon [] = []
after_colon (c ∷ cs) = cond (c == 58) cs (c ∷ cs)

-- the piece of a text whose first character is of that class, and what follows it
abbrev pub class_at : ℕ → List ℕ → Class → Option (PieceKind × List ℕ)
class_at c cs classes.White = Some (Space, skip is_white cs)
class_at c cs classes.Slash = or_sign cs (comment_at cs)
class_at c cs classes.Colon = Some (Token Punct, after_colon cs)
class_at c cs classes.Sign = Some (Token Punct, cs)
class_at c cs classes.Quote = of_kind (Token Lifetime) (identifier_at cs)
class_at c cs classes.NameStart = of_kind (Token Ident) (identifier_at (c ∷ cs))
class_at c cs (classes.Opens b) = Some (Open b, cs)
class_at c cs (classes.Closes b) = Some (Close b, cs)
class_at c cs classes.Other = None

abbrev pub literal_or : Option (List ℕ) → Option (PieceKind × List ℕ) → Option (PieceKind × List ℕ)
literal_or None other = other
literal_or (Some rest) other = Some (Token Literal, rest)

-- the longest piece at the front that is no literal
abbrev pub plain_piece_at : List ℕ → Option (PieceKind × List ℕ)
plain_piece_at [] = None
plain_piece_at (c ∷ cs) = class_at c cs (class_of c)

-- the longest piece at the front, whatever follows it
abbrev pub longest_at : List ℕ → Option (PieceKind × List ℕ)
longest_at text = literal_or (literal_at text) (plain_piece_at text)

abbrev pub if_ended : List ℕ → Option (PieceKind × List ℕ) → Option (PieceKind × List ℕ)
if_ended text None = None
if_ended text (Some p) = cond (may_end p.0 text p.1) (Some p) None

abbrev pub piece_at : List ℕ → Option (PieceKind × List ℕ)
piece_at text = if_ended text (longest_at text)

-- where reading stopped, in a source of which this is left that cannot be cut
abbrev pub IsUncutFrom : List ℕ → List ℕ → LexError → Type 0
IsUncutFrom source text Memory = Unit {0}
IsUncutFrom source text (TooDeep span) = ⊥
IsUncutFrom source text (Stopped span) = (span.end ≤ length source) × ((pieces : List Piece) → ¬ (Cuts pieces (length source - length text) (chars text)))

-- where reading stopped, in a source that cannot be cut
abbrev pub IsUncut : List ℕ → LexError → Type 0
IsUncut source Memory = Unit {0}
IsUncut source (TooDeep span) = ⊥
IsUncut source (Stopped span) = (span.end ≤ length source) × ((pieces : List Piece) → ¬ (Cuts pieces 0 (chars source)))
