-- Laws of what is known in a scope, for other crates.

-- the generic parameters of a declaration that is there
pub use Rattle.scopes.proofs.Given.{generics_are}
-- its name
pub use Rattle.scopes.proofs.Given.{name_is}
-- the place of a name is one of the identifiers
pub use Rattle.scopes.proofs.Given.{place_below}
