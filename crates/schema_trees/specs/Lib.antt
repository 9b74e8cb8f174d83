pub mod Annotations
pub mod Bound
pub mod Bounds
pub mod Held
pub mod Objects
pub mod Schema
pub mod proved
