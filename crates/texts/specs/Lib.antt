pub mod Lists
pub mod Names
pub mod Span
pub mod formers
