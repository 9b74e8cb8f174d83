mod Examples
pub mod OpenLists
pub mod SameLists
pub mod Laws
