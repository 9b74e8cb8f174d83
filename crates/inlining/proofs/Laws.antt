-- Laws of lists of numbers, for other crates.

-- the item at a place is in the list, and what is in two lists together is in one of them, and the other way round
pub use Rattle.inlining.proofs.Among.{among_at, among-left, among-right, among_cases}
