-- Laws of token trees without their spans, for other crates.

-- whether token trees are the same, which decides whether they are equal without their spans
pub use Rattle.tokens.proofs.Equal.{same_trees, lists_equal}
-- a proof for each item of a list
pub use Rattle.tokens.proofs.Equal.{each_beside, each_of}
