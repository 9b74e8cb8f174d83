pub mod Bounds
pub mod Composed
pub mod Faults
pub mod Sets
pub mod Settled
pub mod Types
pub mod Unplain
pub mod Within
