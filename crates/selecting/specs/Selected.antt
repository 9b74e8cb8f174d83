-- Which declarations of all files are selected, and which aliases with them.
use Rattle.std.specs.Prelude.{◌≡◌, ◌⊎◌, ℕ, List, ◌++◌, map, Bool, true, false, not, cond, ◌&&◌, ◌||◌, is_none, Option, None}
use Rattle.reaching.specs.Reached.{IsReached}
use Rattle.reaching.specs.declared.node.Node.{Node}
use Rattle.texts.specs.Names.{is_in, place_in}
use Rattle.configuration.specs.Aliases.{last_names}
use Rattle.configuration.specs.Configuration.{Alias, Configuration}
use Rattle.prepare.specs.declared.file_items.FileItem.{FileItem}
use Rattle.prepare.specs.declared.file_items.FileAlias.{FileAlias}
use Rattle.selecting.specs.Deriving.{deriving_names, items_staying}
use Rattle.selecting.specs.Imports.{type_names, aliases_among}
use Rattle.selecting.specs.Lists.{AreThose, is_empty}
use Rattle.selecting.specs.Standing.{items_left, aliases_left, own_names, is_own, items_counting, aliases_counting, unknown_only, unknown_exclude}
use Rattle.selecting.specs.Types.{NamesType}
use Rattle.selecting.specs.declared.selection.Selection.{Selection}

-- a declaration is selected for itself: by its name where names are given, else one of the user's own by its traits, or since all are
abbrev pub is_first : Selection → FileItem → Bool
is_first s i = cond (is_empty s.only) (is_own s i.file && (not s.serde || i.declared.is_first)) (is_in i.declared.name s.only)

-- ---- what names what

abbrev pub item_node : Selection → FileItem → Node
item_node s i = record i.declared { is_first = is_first s i }

-- an alias of a configuration names what stands last in the paths of its type, and is not first; nor is one of a file
abbrev pub configured_node : Alias → Node
configured_node x = record { name = x.name; is_first = false; names = last_names x.of }

abbrev pub alias_node : FileAlias → Node
alias_node a = record a.declared { is_first = false }

abbrev pub nodes : Selection → Configuration → List FileItem → List FileAlias → List Node
nodes s c items aliases = map (item_node s) items ++ (map configured_node c.aliases ++ map alias_node aliases)

-- ---- what is selected

abbrev pub IsChosen : Selection → List Node → FileItem → Type 0
IsChosen s all i = (is_first s i ≡ true) ⊎ IsReached all i.declared.name

abbrev pub IsNeeded : List Node → FileAlias → Type 0
IsNeeded all a = IsReached all a.declared.name

-- Of these declarations and aliases those are selected; what names an alias names what its type names.
pub record AreChosen (s : Selection) (c : Configuration) (items chosen : List FileItem) (aliases needed : List FileAlias) : Type 0 where
  pub typed : List FileAlias
  pub have_types : AreThose (NamesType c) aliases typed
  pub are_chosen : AreThose (IsChosen s (nodes s c items typed)) items chosen
  pub are_needed : AreThose (IsNeeded (nodes s c items typed)) typed needed

-- how the program finds them: by the names that are not reached
abbrev pub is_chosen : {X : Type 0} → (List ℕ → Option X) → Selection → FileItem → Bool
is_chosen unreached s i = is_first s i || is_none (unreached i.declared.name)

abbrev pub is_needed : {X : Type 0} → (List ℕ → Option X) → FileAlias → Bool
is_needed unreached a = is_none (unreached a.declared.name)

-- the names of the selection are known
abbrev pub AreKnown : Selection → (names : List (List ℕ)) → List FileItem → List FileAlias → Type 0
AreKnown s names items aliases = (unknown_only items s.only ≡ None) × (unknown_exclude names items aliases s.exclude ≡ None)

-- Of what files of these names have, what is excluded does not count, nor what a stand-in has under a name that the user's own
-- files declare, nor a declaration that gives way to one that derives the traits, nor the name that a `use` gives to what is no
-- such type; of the rest those declarations are selected, and the aliases that they need.
abbrev pub AreSelected : Selection → Configuration → (names : List (List ℕ)) → (items chosen : List FileItem) → (aliases needed : List FileAlias) → Type 0
AreSelected s c names items chosen aliases needed =
    let items_in : List FileItem = items_left s names items in
    let aliases_in : List FileAlias = aliases_left s names aliases in
    let own : List ℕ → Option ℕ = λ name. place_in name (own_names s items_in aliases_in) in
    let items_with : List FileItem = items_counting own s items_in in
    let with_traits : List ℕ → Option ℕ = λ name. place_in name (deriving_names items_with) in
    let items_by : List FileItem = items_staying with_traits s items_with in
    let aliases_by : List FileAlias = aliases_counting own s aliases_in in
    let declared : List ℕ → Option ℕ = λ name. place_in name (type_names items_by aliases_by) in
    AreChosen s c items_by chosen (aliases_among declared aliases_by) needed
