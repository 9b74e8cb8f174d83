-- Doc comments as one text (The rustdoc book, "How to write documentation"; The Rust Reference, "Doc comments").
use Rattle.std.specs.Prelude.{ℕ, min, List, [], ◌∷◌, map, Option, Some, None, unwrap_or, drop, Bool, true, false, cond, codes}
use Rattle.std.specs.List.{filter, flat_map, reduce, join_by, prefix_len}
use Rattle.std.specs.Char.{is_ascii_whitespace}
use Rattle.std.specs.Str.{trim_end}
use Rattle.words.specs.Words.{literal}
use Rattle.literal_values.specs.Values.{text_value}
use Rattle.written_types.specs.Written.{WrittenPath}
use Rattle.attributes.specs.Attributes.{MetaItem, value, doc, AttributeItem, is_word}

abbrev pub listed : Option (List ℕ) → List (List ℕ)
listed None = []
listed (Some text) = text ∷ []

-- what a doc comment says, and what `doc = "text"` does; other attributes say nothing
abbrev pub said_by : WrittenPath → MetaItem → List (List ℕ)
said_by path (doc text) = text ∷ []
said_by path (value (literal t ∷ [])) = cond (is_word (codes "doc") path) (listed (text_value t)) []
said_by path _ = []

abbrev pub docs_of : List AttributeItem → List (List ℕ)
docs_of attributes = flat_map (λ a. said_by a.path a.meta) attributes

-- how many ASCII white space characters the text begins with
abbrev pub indent : List ℕ → ℕ
indent line = prefix_len is_ascii_whitespace line

abbrev pub has_text : List ℕ → Bool
has_text [] = false
has_text (b ∷ bs) = true

-- the least indent of the texts that are not empty
abbrev pub margin : List (List ℕ) → Option ℕ
margin lines = reduce min (map indent (filter has_text lines))

-- without so much of the white space that the text begins with
abbrev pub unindented : ℕ → List ℕ → List ℕ
unindented count line = drop (min count (indent line)) line

-- the texts of doc comments, without the white space at the end of each and without their margin
abbrev pub lines_of : List (List ℕ) → List (List ℕ)
lines_of docs = let lines = map trim_end docs in map (unindented (unwrap_or (margin lines) 0)) lines

abbrev pub joined : List (List ℕ) → List ℕ
joined lines = join_by (λ line. line) (10 ∷ []) lines

-- doc comments as one text
abbrev pub formatted : List (List ℕ) → List ℕ
formatted docs = joined (lines_of docs)
