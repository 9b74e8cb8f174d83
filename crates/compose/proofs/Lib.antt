pub mod Bounded
pub mod Composed
pub mod Counts
pub mod Declared
pub mod NamedAlone
pub mod OneList
pub mod Placed
pub mod TypesFound
