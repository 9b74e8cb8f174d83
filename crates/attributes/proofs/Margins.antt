-- The white space that lines begin with.
use Rattle.std.proofs.Common.{◌≡◌, ◌≤◌, ◌<◌, ◌+◌, ◌-◌, ◌∙◌, ℕ, zero, suc, [], ◌∷◌, List, ap, sym, subst, refl, arith, length, map, take, unwrap_or, get_or, cond, true, false, Bool}
use Rattle.std.specs.Char.{is_ascii_whitespace}
use Rattle.std.specs.Str.{IsUtf8, IsCharBoundary, IsTrimAsciiStart}
use Rattle.std.proofs.lemmas.Str.{IsCharBoundary-start, IsCharBoundary-after_ascii}
use Rattle.std.proofs.lemmas.Str.Ascii.{trim_ascii_start_is}
use Rattle.std.proofs.lemmas.List.{length-drop, take_all}
use Rattle.std.proofs.lemmas.List.Sums.{prefix_len-le-length}
use Rattle.std.proofs.lemmas.Simd.{map-map}
use Rattle.std.specs.Str.{trim_end}
use Rattle.attributes.specs.Comments.{indent, margin, unindented, lines_of}

pub indent_is : (line rest : List ℕ) → IsTrimAsciiStart line rest → length line - length rest ≡ indent line
indent_is line rest trims =
    let shorter : length rest ≡ length line - indent line = ap length (trim_ascii_start_is line rest trims) ∙ length-drop (indent line) line in
    let within : indent line ≤ length line = prefix_len-le-length is_ascii_whitespace line in
    omega arith

white_is_ascii : (b : ℕ) → is_ascii_whitespace b ≡ true → b < 128
white_is_ascii b white = grind arith

white_byte_of : (b : ℕ) (bs : List ℕ) (i : ℕ) (white : Bool) → is_ascii_whitespace b ≡ white → i < cond white (1 + indent bs) 0 → ((j : ℕ) → j < indent bs → get_or bs j 0 < 128) → get_or (b ∷ bs) i 0 < 128
white_byte_of b bs i false white below others = absurd (omega arith)
white_byte_of b bs zero true white below others = white_is_ascii b white
white_byte_of b bs (suc i) true white below others = others i (omega arith)

white_byte : (line : List ℕ) (i : ℕ) → i < indent line → get_or line i 0 < 128
white_byte [] i below = absurd (omega arith)
white_byte (b ∷ bs) i below = white_byte_of b bs i (is_ascii_whitespace b) refl below (white_byte bs)

-- a line may be cut within the white space that it begins with
pub within_indent : (line : List ℕ) (n : ℕ) → IsUtf8 line → n ≤ indent line → IsCharBoundary line n
within_indent line zero utf8 within = IsCharBoundary-start line utf8
within_indent line (suc n) utf8 within =
    let next : n + 1 ≡ suc n = omega arith in
    subst (λ i. IsCharBoundary line i) next (IsCharBoundary-after_ascii line n utf8 (omega (arith, prefix_len-le-length is_ascii_whitespace line)) (white_byte line n within))

pub lines_of_all : (docs : List (List ℕ)) (i m : ℕ) → length docs ≤ i → m ≡ unwrap_or (margin (map trim_end docs)) 0
    → map (λ doc. unindented m (trim_end doc)) (take i docs) ≡ lines_of docs
lines_of_all docs i m all is =
    ap (map (λ doc. unindented m (trim_end doc))) (take_all i docs all)
    ∙ sym (map-map (λ line. unindented m line) trim_end docs)
    ∙ ap (λ n. map (λ line. unindented n line) (map trim_end docs)) is
