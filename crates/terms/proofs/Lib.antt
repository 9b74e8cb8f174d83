pub mod Accepted
pub mod Alike
pub mod EnumsAccepted
mod Examples
mod FlattenExamples
pub mod Joined
pub mod Members
pub mod Roots
pub mod TagLaws
pub mod Telling
