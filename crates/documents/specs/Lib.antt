pub mod Components
pub mod Difference
pub mod Merge
pub mod Text
pub mod Written
