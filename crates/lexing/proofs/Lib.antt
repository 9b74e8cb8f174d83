pub mod TextLaws
pub mod CommentLaws
pub mod Classes
pub mod WordLaws
pub mod LiteralLaws
pub mod PieceLaws
pub mod CutLaws
pub mod FrontLaws
pub mod NestLaws
mod Lying
pub mod OpenLaws
pub mod ChunkLaws
pub mod LexLaws
pub mod StepLaws
pub mod RawLaws
pub mod Laws
