-- Laws of pieces, for other crates.

-- how many bytes a front of a text takes
pub use Rattle.lexing.proofs.CutLaws.{front_bytes}
-- a block comment is counted to its end
pub use Rattle.lexing.proofs.CommentLaws.{block_reads}
-- what holds of each of some numbers holds of one of them
pub use Rattle.lexing.proofs.Classes.{any_of}
-- a raw identifier begins as a name, and so does every identifier
pub use Rattle.lexing.proofs.Classes.{r_starts_name}
-- every identifier begins as a name, and none is empty
pub use Rattle.lexing.proofs.WordLaws.{identifier_starts, no_identifier}
-- the piece that a scanner finds at the front of a text is the longest that begins there
pub use Rattle.lexing.proofs.PieceLaws.{finds_longest}
-- a group of the program is the group of its trees
pub use Rattle.lexing.proofs.NestLaws.{view_group}
