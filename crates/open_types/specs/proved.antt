-- Proofs that types cite, for equality and for models, so they stand among the definitions.
pub mod OpenCode
pub mod SameLaws
