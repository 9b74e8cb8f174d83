pub mod Spanless
pub mod Written
