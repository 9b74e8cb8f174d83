-- Laws of runs, escapes, raw strings and literals, for other crates.

-- a choice comes to one of the two, and by its condition to the first or the second
pub use Rattle.literals.proofs.RunLaws.{either, cond_true, cond_false}
-- of two conditions that do not hold neither does, and what is found is one
pub use Rattle.literals.proofs.RunLaws.{neither, some_same}
-- what a run takes and what it leaves
pub use Rattle.literals.proofs.RunLaws.{skip_split, skip_more, skip_short, skip_past, skip_least}
-- no name begins with a digit
pub use Rattle.literals.proofs.NumberLaws.{name_no_digit}
-- a plain character is neither a quote nor a backslash
pub use Rattle.literals.proofs.StringLaws.{plain_signs}
-- a text is read up to the quote behind it
pub use Rattle.literals.proofs.StringLaws.{text_reads}
-- what holds no apostrophe is read up to the one behind it
pub use Rattle.literals.proofs.QuotedLaws.{apostrophe_reads}
-- a number of hexadecimal digits, digit by digit
pub use Rattle.literals.proofs.EscapeLaws.{number_after, hex_more, hex_same, number_more, number_same}
-- a code point goes on with these signs, up to its bracket
pub use Rattle.literals.proofs.EscapeLaws.{GoesOn}
-- so it does before each of them
unfoldable pub use Rattle.literals.proofs.EscapeLaws.{on_digit, on_line}
-- a code of at most six digits fits
pub use Rattle.literals.proofs.Codes.{code_fits}
-- the signs before and behind a raw string, and the text between them
pub use Rattle.literals.proofs.RawLaws.{hashes_read, no_hashes, raw_text_inside, raw_reads, raw_text_reads}
-- a raw string that is read is one, and one is read
pub use Rattle.literals.proofs.RawLaws.{raw_string_sound, raw_string_reads}
-- what is read as a literal is one, and one is read where it begins
pub use Rattle.literals.proofs.LiteralLaws.{literal_sound, literal_reads, literal_begins}
