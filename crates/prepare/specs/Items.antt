-- Items with their attributes (The Rust Reference, "Items", "Conditional compilation").
use Rattle.std.specs.Prelude.{◌≡◌, List, [], ◌∷◌, map, false, cond, option_map, Option, Some, None, Result, Ok, Err}
use Rattle.std.specs.Borrow.{Bor}
use Rattle.tokens.specs.declared.token.TokenTree.{TokenTree}
use Rattle.tokens.specs.Trees.{Tree, trees_of, tree_view}
use Rattle.texts.specs.Span.{no_span}
use Rattle.texts.specs.declared.span.Span.{Span}
use Rattle.words.specs.Words.{word_of, start_of}
use Rattle.written_types.specs.declared.written.Ident.{Ident}
use Rattle.reaching.specs.declared.node.Node.{Node}
use Rattle.prepare.specs.declared.item.Standing.{Standing}
use Rattle.prepare.specs.declared.item.Stands.TheVariants.{Declared, Written, Alias}
use Rattle.prepare.specs.declared.item.Stop.{Stop}
use Rattle.prepare.specs.declared.item.Stop.TheVariants as stop
use Rattle.prepare.specs.declared.item.Item as program
use Rattle.prepare.specs.declared.item.Item.TheVariants as items
use Rattle.prepare.specs.Trees.{before, but_last, extent}
use Rattle.prepare.specs.Attributes.{after_attributes, after_visibility, is_for_tests}
use Rattle.prepare.specs.Fields.{declared_names}
use Rattle.prepare.specs.Parameters.{parameters, others_than}
use Rattle.prepare.specs.Traits.{are_deriving}
use Rattle.prepare.specs.declared.traits.Traits.TheVariants.{SerdeOrSchema}
use Rattle.prepare.specs.Unread.{unread_of}
use Rattle.prepare.specs.Heads.{outside, Implemented, implemented}
use Rattle.prepare.specs.Imports.{imports_of}
use Rattle.prepare.specs.Names.{all_names}
use Rattle.prepare.specs.Forms.{Form, declares, implements, names, imports, form_at}
use Rattle.prepare.specs.Forms as form

-- what stands, several things that stand, a module, by what stands in its brackets, and an item that does not stand
pub data Item : Type 0 where
  stands : Standing → Item
  all : List Standing → Item
  holds : List Tree → Item
  passed : Item

abbrev pub item_view : program.Item → Item
item_view (items.Stands s) = stands s
item_view (items.All ss) = all ss
item_view (items.Holds ts) = holds (map tree_view ts.now)
item_view items.Passed = passed

-- and with what follows it
abbrev pub read_view : program.Item × Bor (List TokenTree) → Item × List Tree
read_view p = (item_view p.0, map tree_view p.1.now)

-- the declaration of the name, by its attributes, by what stands from its keyword on, and by what stands behind its name; it
-- is first where it derives one of the traits
abbrev pub declared_of : Ident → (attributes keyword behind : List Tree) → Node
declared_of name attributes keyword behind = record { name = name.text; is_first = are_deriving SerdeOrSchema attributes; names = others_than (parameters behind) (declared_names keyword behind) }

-- an impl with that head of one of serde's traits, for the type of that name; any other does not stand
abbrev pub written_by : (head : List Tree) → Option Implemented → Item
written_by head None = passed
written_by head (Some x) = stands (record { what = Written x.0 x.1.text; span = extent head })

abbrev pub written_of : (head : List Tree) → Item
written_of head = written_by head (implemented (outside head))

-- a type alias, by its trees and those of its type, both with the `;` at their end
abbrev pub named_of : Ident → (whole of : List Tree) → Standing
named_of name whole of =
    let own : List Tree = but_last of in
    record { what = Alias (record { name = name.text; is_first = false; names = all_names own }) (extent own) false; span = extent (but_last whole) }

-- The item of the form among these trees, from its start, behind its attributes, and from its keyword on; it ends before the rest.
abbrev pub item_of : (ts start keyword : List Tree) → Form → List Tree → Item
item_of ts start keyword (declares name behind) rest =
    let attributes : List Tree = before ts start in
    let own : List Tree = before behind rest in
    stands (record { what = Declared (declared_of name attributes keyword own) name.span (unread_of attributes keyword own); span = extent (before ts rest) })
item_of ts start keyword implements rest = written_of (but_last (before keyword rest))
item_of ts start keyword (form.holds inside) rest = holds inside
item_of ts start keyword (names name behind) rest = stands (named_of name (before keyword rest) (before behind rest))
item_of ts start keyword imports rest = all (imports_of (trees_of (before keyword rest)))
item_of ts start keyword form.passes rest = passed

abbrev pub unless_for_tests : List Tree → Item → Item
unless_for_tests attributes item = cond (is_for_tests attributes) passed item

abbrev pub item_from : (ts start keyword : List Tree) → Form × List Tree → Item × List Tree
item_from ts start keyword found = (unless_for_tests (before ts start) (item_of ts start keyword found.0 found.1), found.1)

-- the item at the front, and what follows it
unfoldable pub item_at : List Tree → Option (Item × List Tree)
item_at ts =
    let start = after_attributes ts in
    let keyword = after_visibility start in
    option_map (item_from ts start keyword) (form_at keyword)

-- where no item begins: at the first tree behind its attributes, or else at the first of all
abbrev pub stop_at : (ts start : List Tree) → Span
stop_at ts (t ∷ start) = start_of (word_of t)
stop_at (t ∷ ts) [] = start_of (word_of t)
stop_at [] [] = no_span

abbrev pub stop_of : List Tree → Span
stop_of ts = stop_at ts (after_attributes ts)

-- what a function returned is the item at the front, or there is none, unless memory ran out
abbrev pub ReadsItem : Result (program.Item × Bor (List TokenTree)) Stop → List Tree → Type 0
ReadsItem (Ok x) ts = item_at ts ≡ Some (read_view x)
ReadsItem (Err stop.Memory) ts = Unit {0}
ReadsItem (Err (stop.At span)) ts = (item_at ts ≡ None) × (span ≡ stop_of ts)
