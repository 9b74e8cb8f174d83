pub mod ItemLaws
pub mod ValueLaws
pub mod ContainerLaws
