pub mod Beginning
pub mod Bytes
pub mod Command
pub mod Endings
pub mod Numbers
pub mod Owed
pub mod Program
pub mod Report
