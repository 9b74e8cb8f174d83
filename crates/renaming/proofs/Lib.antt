mod Keys
mod Lists
mod Rowless
mod Serving
mod Tables
mod Walks
