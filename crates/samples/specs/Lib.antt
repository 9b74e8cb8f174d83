pub mod Rings
pub mod Samples
pub mod Sound
pub mod Spelling
