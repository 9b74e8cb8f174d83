-- Laws of the grammar of types and bounds, for other crates.

-- a lifetime that is read is the first word
pub use Rattle.type_grammar.proofs.Firsts.{lifetime_at-is}
-- words weigh one each, and more by a measure: how much they weigh together
pub use Rattle.type_grammar.proofs.Measures.{total, total_length, fewer_words}
-- types and bounds leave what weighs less
pub use Rattle.type_grammar.proofs.Measures.{type_lighter, bounds_lighter}
-- what is read as a type, as bounds or as a list is of the grammar
pub use Rattle.type_grammar.proofs.Sound.{type_sound, bounds_sound, until_sound}
-- what the reading of a type comes to
pub use Rattle.type_grammar.proofs.Complete.{Reaches, type_complete, bounds_complete}
-- how types and paths begin, and what no type begins with
pub use Rattle.type_grammar.proofs.Complete.{type_begins, path_starts, begins_no_kind}
-- what follows types, bounds and items of a list
pub use Rattle.type_grammar.proofs.Complete.{BoundsStop, closes, closes_stops, ends_closes, ends_no_comma}
-- a list goes on before a word that does not end it, and ends before one that does
pub use Rattle.type_grammar.proofs.Complete.{list_goes_on}
-- a list ends before a word that ends it
pub use Rattle.type_grammar.proofs.Lists.{list_ends}
-- a reader stops for depth where its words open, and nowhere else
pub use Rattle.type_grammar.proofs.Deep.{Agrees, type_agrees, in_bounds_agree, list_agrees}
-- so at one place; what is read opens nowhere, and what opens nowhere is read
pub use Rattle.type_grammar.proofs.Deep.{one_place, read_passes, passed_reads}
-- words in which a type opens too deep begin as a type, and weigh as much
pub use Rattle.type_grammar.proofs.Deep.{opens_begins}
-- by the weight of what stands in their groups
pub use Rattle.type_grammar.proofs.Unique.{inside, opens_light, in_bounds_light}
-- a type is of one grammar alone
pub use Rattle.type_grammar.proofs.Unique.{type_one}
-- what opens at one place nests too deep at one
pub use Rattle.type_grammar.proofs.TypeText.{nests_once}
