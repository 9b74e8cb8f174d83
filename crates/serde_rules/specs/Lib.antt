pub mod Items
pub mod Value
pub mod Container
pub mod Names
