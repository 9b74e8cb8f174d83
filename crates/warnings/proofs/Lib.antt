pub mod Declared
pub mod TypeLaws
pub mod ThroughLaws
pub mod Views
