pub mod Acceptance
pub mod Data
pub mod Json
pub mod Keyword
pub mod Law
pub mod References
