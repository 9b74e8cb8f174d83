pub mod Counts
pub mod Depths
pub mod Found
pub mod Inlining
pub mod Marks
pub mod Shown
