pub mod InstanceTerms
pub mod Meaning
pub mod Telling
pub mod Terms
