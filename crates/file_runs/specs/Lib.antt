pub mod Contents
pub mod Given
pub mod Shown
pub mod Owed
pub mod Reports
pub mod Words
