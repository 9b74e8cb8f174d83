pub mod AliasLaws
pub mod Laws
pub mod TypeLaws
