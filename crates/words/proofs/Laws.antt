-- Laws of reading words, signs and lists, for other crates.
use Rattle.std.proofs.Common.{◌≡◌, ◌∙◌, Result}
use Rattle.words.specs.declared.stopping.Stop.{Stop}
use Rattle.words.specs.declared.stopping.Stop.TheVariants as stop
use Rattle.words.specs.Reading.{Fault, Fails}
-- what a reading that goes on has read first, and what it answers at the end
pub use Rattle.words.proofs.Read.{bind_ok, bind_err, ok_is, along}
-- a reader of one word reads the first, and never too deep
pub use Rattle.words.proofs.Read.{first_is, first_shortens, first_shallow}
-- which word it is that is read as a bracket, a name, a keyword, a sign or a group
pub use Rattle.words.proofs.Stands.{same_bracket-is, name-is, keyword-is, sign-is, group-is}
-- which word it is that is a sign
pub use Rattle.words.proofs.Signs.{as_sign-is}
-- as many words as token trees
pub use Rattle.words.proofs.Turns.{length_view}
-- what is read leaves fewer words
pub use Rattle.words.proofs.Many.{Shortens}
-- items are read again and again, turn by turn
pub use Rattle.words.proofs.Many.{SoFar, ends, goes_on, many_none, many_start, many_done, many_turn, many_fails}
-- an item and the comma behind it, and lists of them, are of the grammar
pub use Rattle.words.proofs.Sound.{comma_read, turn_sound, turn_shortens, list_sound}
-- what ends an item of a list
pub use Rattle.words.proofs.Complete.{Ends, at_end, at_comma}
-- what is found, or nests too deep
pub use Rattle.words.proofs.Complete.{IsDeep, Finds, like_finds, then_finds}
-- items of the grammar, one by one and as a list, are found, or nest too deep
pub use Rattle.words.proofs.Complete.{turn_finds, turn_deep, more_finds, more_deep, first_deep, list_complete}

-- what is the same as what fails, fails so
pub like_fails : {A : Type 0} (s : Stop) {r q : Result A Fault} → r ≡ q → Fails s q → Fails s r
like_fails stop.Memory e f = tt
like_fails stop.Ended e f = e ∙ f
like_fails (stop.Unexpected at) e f = e ∙ f
like_fails (stop.Deep at) e f = e ∙ f
