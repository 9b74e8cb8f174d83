pub mod Configuration
pub mod Aliases
pub mod Stored
pub mod proved
