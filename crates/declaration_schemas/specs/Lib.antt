pub mod Made
pub mod Schemas
