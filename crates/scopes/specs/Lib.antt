pub mod Descriptions
pub mod Names
pub mod Parameters
pub mod Scopes
pub mod Texts
