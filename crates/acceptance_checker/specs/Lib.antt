pub mod Judge
pub mod Kinds
pub mod Layer
