pub mod Starts
pub mod Grammar
pub mod Reading
pub mod Opening
pub mod Source
