pub mod Known
pub mod Free
pub mod Names
pub mod Aliases
pub mod Bad
pub mod Resolved
pub mod Reading
pub mod Expanding
