mod Below
mod Components
pub mod Laws
