-- Laws of lists of open types, for other crates.

-- one list behind another, of which the second is none, or the first had a type more
pub use Rattle.open_types.proofs.OpenLists.{append, append_none, push_views}
