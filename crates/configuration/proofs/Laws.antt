-- Laws of aliases as they are stored, for other crates.

-- one alias more
pub use Rattle.configuration.proofs.AliasLaws.{aliases-push}
