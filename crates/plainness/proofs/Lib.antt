pub mod Bodies
pub mod Declared
pub mod Exact
pub mod Firsts
pub mod Leading
pub mod Marked
pub mod Numbered
pub mod Turning
