pub mod Marking
pub mod PartLaw
pub mod Places
pub mod Positions
pub mod Printable
pub mod Told
