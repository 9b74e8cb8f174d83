pub mod Consequences
pub mod Ended
pub mod Written
