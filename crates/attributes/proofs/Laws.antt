-- Laws of attributes, for other crates.

-- what fails first fails the whole
pub use Rattle.attributes.proofs.Idents.{first_fails}
-- attributes that are read are of the grammar, and those of the grammar are read
pub use Rattle.attributes.proofs.Whole.{attributes_sound, attributes_complete}
-- they leave no more words than there were, and are never too deep
pub use Rattle.attributes.proofs.Whole.{attributes_no_longer, attributes_shallow}
