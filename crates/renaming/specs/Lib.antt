pub mod Cases
pub mod Law
pub mod Refusals
pub mod Rows
