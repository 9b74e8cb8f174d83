pub mod Declared
pub mod PlaceLaws
pub mod Given
pub mod TextLaws
pub mod Laws
