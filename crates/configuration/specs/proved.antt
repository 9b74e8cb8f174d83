-- Codes of values, with their proofs. Models of types cite them, so they stand among the definitions.
pub mod WrittenCode
pub mod Code
