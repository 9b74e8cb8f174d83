pub mod EntryLaws
pub mod Fields
pub mod Forms
pub mod Found
pub mod Held
pub mod OneOf
pub mod OneText
pub mod Puts
pub mod ReadBack
pub mod Refers
pub mod Values
mod Examples
mod InOrder
mod Parts
mod Placed
mod Plain
mod Writes
mod Written
