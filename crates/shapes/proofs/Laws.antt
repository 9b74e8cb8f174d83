-- What holds of what is there and of maps, wherever more does, and small sources with values of their shapes, for examples of other crates.

pub use Rattle.shapes.proofs.Deeper.{present-more, map-more}
-- how members, structs and arguments are written
pub use Rattle.shapes.proofs.Examples.{a_member, a_struct, one, at_i32, at_option}
-- a member that may be missing, and one that must be there, with objects that have it or not
pub use Rattle.shapes.proofs.Examples.{n_source, s_source, empty, with_v}
-- an enum with a tag, at a struct, with objects that tell a variant
pub use Rattle.shapes.proofs.Examples.{tagged, e_u, told, tag_only}
