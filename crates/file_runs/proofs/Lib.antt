pub mod Consequences
mod Ended
mod Lines
mod OptionFiles
mod Paths
mod Quiet
mod Saying
mod SchemaTexts
mod Strict
mod Taken
mod Told
