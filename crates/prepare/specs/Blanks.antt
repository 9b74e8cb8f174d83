-- The text of a declaration as it is read: where something is not read, blanks stand.
use Rattle.std.specs.Prelude.{ℕ, ◌-◌, List, [], ◌∷◌, ◌++◌, length, Bool, true, false, ◌&&◌, nat_le, nat_lt, chars, encode_utf8, encode_utf8_all, replicate}
use Rattle.std.specs.List.{list_any}
use Rattle.texts.specs.declared.span.Span.{Span}
use Rattle.prepare.specs.declared.file_items.FileItem.{FileItem}

-- the byte is one of a span
abbrev pub covers : List Span → (at : ℕ) → Bool
covers spans at = list_any (λ s. nat_le s.start at && nat_lt at s.end) spans

-- as many blanks as the character has bytes, where it is covered, or itself
abbrev pub blank_or_not : Bool → ℕ → List ℕ
blank_or_not true c = replicate (length (encode_utf8 c)) 32
blank_or_not false c = c ∷ []

-- these characters are the last up to the byte where they end
abbrev pub blanked : List Span → (end : ℕ) → List ℕ → List ℕ
blanked spans end [] = []
blanked spans end (c ∷ cs) = blank_or_not (covers spans (end - length (encode_utf8_all (c ∷ cs)))) c ++ blanked spans end cs

unfoldable pub with_blanks : List Span → (end : ℕ) → List ℕ → List ℕ
with_blanks spans end text = encode_utf8_all (blanked spans end (chars text))

abbrev pub text_read_by : List Span → (end : ℕ) → List ℕ → List ℕ
text_read_by [] end text = text
text_read_by (s ∷ spans) end text = with_blanks (s ∷ spans) end text

abbrev pub text_read : FileItem → List ℕ
text_read i = text_read_by i.unread i.end i.text
