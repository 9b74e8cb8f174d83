mod Aliased
mod Choosing
mod One
mod Rest
mod Typed
