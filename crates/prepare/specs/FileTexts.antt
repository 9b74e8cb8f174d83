-- The text of a file, as rustc takes it from its bytes (The Rust Reference, "Input format"): without a byte order mark, without what
-- stands in a first line `#!..`, and with LF for CR LF.
use Rattle.std.specs.Prelude.{ℕ, List, [], ◌∷◌, Bool, false, not, cond, ◌&&◌, ◌||◌, ◌==◌, nat_le, chars, encode_utf8_all}

abbrev pub without_mark : List ℕ → List ℕ
without_mark [] = []
without_mark (c ∷ cs) = cond (c == 65279) cs (c ∷ cs)

-- a space, or one of the characters from the tab to the carriage return
abbrev pub is_blank : ℕ → Bool
is_blank c = (c == 32) || (nat_le 9 c && nat_le c 13)

-- with the character, in front of the others, a comment begins
abbrev pub begins_comment : ℕ → List ℕ → Bool
begins_comment c [] = false
begins_comment c (d ∷ ds) = (c == 47) && ((d == 47) || (d == 42))

-- behind blanks a `[` stands, so that `#!` begins an attribute, or a comment, behind which it may stand
abbrev pub opens : List ℕ → Bool
opens [] = false
opens (c ∷ cs) = cond (is_blank c) (opens cs) ((c == 91) || begins_comment c cs)

abbrev pub is_script : List ℕ → Bool
is_script (c ∷ d ∷ cs) = (c == 35) && ((d == 33) && not (opens cs))
is_script _ = false

abbrev pub from_feed : List ℕ → List ℕ
from_feed [] = []
from_feed (c ∷ cs) = cond (c == 10) (c ∷ cs) (from_feed cs)

abbrev pub without_script : List ℕ → List ℕ
without_script cs = cond (is_script cs) (from_feed cs) cs

abbrev pub begins_with_feed : List ℕ → Bool
begins_with_feed [] = false
begins_with_feed (c ∷ cs) = c == 10

-- a carriage return before a line feed is left out
abbrev pub with_feeds : List ℕ → List ℕ
with_feeds [] = []
with_feeds (c ∷ cs) = cond ((c == 13) && begins_with_feed cs) (with_feeds cs) (c ∷ with_feeds cs)

unfoldable pub text_of_file : List ℕ → List ℕ
text_of_file bytes = encode_utf8_all (with_feeds (without_script (without_mark (chars bytes))))
