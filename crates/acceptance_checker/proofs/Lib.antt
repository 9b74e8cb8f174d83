pub mod Levels
mod Prefixes
mod Schemas
pub mod Views
