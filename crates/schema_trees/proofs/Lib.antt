mod Holds
pub mod Laws
