mod Borrowed
mod Entries
mod Taking
mod Within
