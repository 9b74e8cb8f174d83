pub mod Joined
pub mod Segments
pub mod Views
pub mod Equal
pub mod AttributeTrees
pub mod PathGenerics
pub mod AliasNames
pub mod AliasKnown
