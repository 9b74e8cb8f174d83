pub mod Edges
pub mod Obstacles
pub mod Laws
pub mod Unplain
