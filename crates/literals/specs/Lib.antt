pub mod Literals
pub mod Scanning
