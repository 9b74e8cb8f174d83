pub mod Margins
pub mod Unclosed
pub mod Words
pub mod Idents
pub mod Serde
pub mod Whole
pub mod Listed
pub mod Laws
