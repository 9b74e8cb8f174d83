pub mod Diagnostics
pub mod Kind
pub mod Refusal
pub mod RenameIndex
pub mod RenameRows
pub mod RenameRules
pub mod Suggestion
