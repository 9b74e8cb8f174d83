pub mod Form
pub mod Said
pub mod Parts
