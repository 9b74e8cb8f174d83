pub mod Files
pub mod Laws
pub mod Reading
pub mod Stops
pub mod Telling
