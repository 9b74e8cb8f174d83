pub mod Spanless
pub mod Trees
