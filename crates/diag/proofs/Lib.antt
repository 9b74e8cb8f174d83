mod Joins
mod Orders
pub mod RenameIndexLaws
