-- Laws on numbers and their types, for other crates.

-- a list that grows at its end: where it began, and where it grew twice
pub use Rattle.type_table.proofs.Fronts.{front_itself, front_twice}
-- the type of a number stays there, and so do those of numbers
pub use Rattle.type_table.proofs.Tables.{type-stays}
pub use Rattle.type_table.proofs.Fronts.{type_front, types_front}
-- numbers below a bound: below a greater one, below a longer list, with one number more, and each of them
pub use Rattle.type_table.proofs.Tables.{below-more}
pub use Rattle.type_table.proofs.Fronts.{below_front, argument_within}
pub use Rattle.type_table.proofs.Chains.{below-push}
-- the types of numbers, as a list
pub use Rattle.type_table.proofs.Chains.{types-are}
-- what is not found is not in the list
pub use Rattle.type_table.proofs.Finds.{not-listed}
