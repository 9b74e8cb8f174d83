pub mod Filling
pub mod SameLeaves
