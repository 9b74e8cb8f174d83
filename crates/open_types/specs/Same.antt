-- When two resolved types are the same: equal names, equal places, and the same types in them, as many.
use Rattle.std.specs.Prelude.{ℕ, Bool, true, false, ◌&&◌, ◌==◌, bytes_eq}
use Rattle.leaves.specs.Leaves.{name_of}
use Rattle.open_types.specs.declared.open_type.ListHead.{ListHead}
use Rattle.open_types.specs.declared.open_type.ListHead.TheVariants as lists
use Rattle.open_types.specs.declared.open_type.SetHead.{SetHead}
use Rattle.open_types.specs.declared.open_type.SetHead.TheVariants as sets
use Rattle.open_types.specs.declared.open_type.MapHead.{MapHead}
use Rattle.open_types.specs.declared.open_type.MapHead.TheVariants as maps
use Rattle.open_types.specs.declared.open_type.ThroughHead.{ThroughHead}
use Rattle.open_types.specs.declared.open_type.ThroughHead.TheVariants as throughs
use Rattle.open_types.specs.Open.{Open, Opens, leaf, any_value, free_object, unit, tuple, items, set, map_of, option, through, param, named, no_types, more_types}

-- names by their place among the names
abbrev pub list_place : ListHead → ℕ
list_place lists.Vec = 0
list_place lists.LinkedList = 1
list_place lists.SmallVec = 2
list_place lists.Array = 3

abbrev pub set_place : SetHead → ℕ
set_place sets.BTreeSet = 0
set_place sets.HashSet = 1

abbrev pub map_place : MapHead → ℕ
map_place maps.HashMap = 0
map_place maps.BTreeMap = 1
map_place maps.Map = 2
map_place maps.IndexMap = 3

abbrev pub through_place : ThroughHead → ℕ
through_place throughs.Cow = 0
through_place throughs.Box = 1
through_place throughs.RefCell = 2
through_place throughs.Arc = 3
through_place throughs.Rc = 4

abbrev mutual
  pub same_type : Open → Open → Bool
  same_type (leaf x) (leaf y) = bytes_eq (name_of x) (name_of y)
  same_type any_value any_value = true
  same_type free_object free_object = true
  same_type unit unit = true
  same_type (tuple ts) (tuple us) = same_types ts us
  same_type (items h t) (items k u) = (list_place h == list_place k) && same_type t u
  same_type (set h t) (set k u) = (set_place h == set_place k) && same_type t u
  same_type (map_of h s t) (map_of k u v) = (map_place h == map_place k) && same_type s u && same_type t v
  same_type (option t) (option u) = same_type t u
  same_type (through h t) (through k u) = (through_place h == through_place k) && same_type t u
  same_type (param i) (param j) = i == j
  same_type (named d ts) (named e us) = (d == e) && same_types ts us
  same_type _ _ = false

  pub same_types : Opens → Opens → Bool
  same_types no_types no_types = true
  same_types (more_types t ts) (more_types u us) = same_type t u && same_types ts us
  same_types _ _ = false
