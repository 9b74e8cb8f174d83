pub mod Words
pub mod Reading
pub mod Lists
pub mod Visibility
