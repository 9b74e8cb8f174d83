pub mod Formats
pub mod PathGenerics
pub mod Tests
pub mod TypeTrees
pub mod Spanless
pub mod Aliases
