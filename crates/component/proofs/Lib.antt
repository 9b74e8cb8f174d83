pub mod NamedLeaves
pub mod Places
