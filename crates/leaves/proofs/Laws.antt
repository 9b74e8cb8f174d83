-- Laws of the names of leaves, for other crates.

-- the leaf of a leaf's name is that leaf
pub use Rattle.leaves.proofs.Names.{named_leaf}
