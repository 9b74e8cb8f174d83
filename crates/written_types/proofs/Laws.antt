-- Laws of paths as they are written, for other crates.

-- what a path is, by its parts
pub use Rattle.written_types.proofs.Equal.{path_view_is}
