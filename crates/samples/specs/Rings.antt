-- A ring of declarations, of which each names the next and the last the first: in turn a struct, a struct over a type parameter
-- and an enum with an internal tag.
use Rattle.std.specs.Prelude.{◌≡◌, ◌≤◌, ◌%◌, ℕ, zero, suc, List, [], ◌∷◌, map, codes, Bool, true, false}
use Rattle.std.specs.Fmt.{decimal}
use Rattle.std.specs.List.{range_with_len}
use Rattle.leaves.specs.declared.leaf.Leaf.TheVariants as leaves
use Rattle.open_types.specs.declared.open_type.ListHead.TheVariants.{Vec}
use Rattle.open_types.specs.declared.open_type.ThroughHead.TheVariants.{Box}
use Rattle.open_types.specs.Open.{Open, Opens, leaf, items, option, through, param, named, no_types, more_types}
use Rattle.open_types.specs.Instances.{type_size}
use Rattle.shapes.specs.declared.tagging.Tagging.TheVariants.{Internal}
use Rattle.shapes.specs.Declarations.{MemberOf, alone, named_fields, no_fields, VariantOf, BodyOf, fields, variants, DeclarationOf, unannotated}
use Rattle.shapes.specs.InstanceShape.{IsReachable}
use Rattle.instances.specs.Lists.{AreInstances}
use Rattle.instances.specs.Names.{NamesDiffer}
use Rattle.closing.specs.Closed.{most_inlined}
use Rattle.closing.specs.Copies.{sum_over, instance_copies}
use Rattle.closing.specs.Described.{AreShallow}
use Rattle.closing.specs.Links.{AreComponentsOf}

-- ---- declarations

pub data Turn : Type 0 where
  plain_struct : Turn
  generic_struct : Turn
  tagged_enum : Turn

abbrev pub turn_by : ℕ → Turn
turn_by zero = plain_struct
turn_by (suc zero) = generic_struct
turn_by (suc (suc n)) = tagged_enum

-- whose turn it is, as the number modulo 3 is 0, 1 or 2
abbrev pub turn : ℕ → Turn
turn i = turn_by (i % 3)

-- the code points of S, G and E
abbrev pub letter : Turn → ℕ
letter plain_struct = 83
letter generic_struct = 71
letter tagged_enum = 69

-- `S`, `G` or `E` and the number
abbrev pub name : ℕ → List ℕ
name i = letter (turn i) ∷ decimal i

abbrev pub parameters : Turn → ℕ
parameters generic_struct = 1
parameters _ = 0

-- the argument of a struct over a type parameter is `bool`
abbrev pub arguments : Turn → Opens
arguments generic_struct = more_types (leaf leaves.Bool) no_types
arguments _ = no_types

abbrev pub instance : ℕ → Open
instance i = named i (arguments (turn i))

-- the number after the number, and after the last the first
abbrev pub next : (many : ℕ) → ℕ → ℕ
next many i = suc i % many

abbrev pub member : List ℕ → Bool → Open → MemberOf
member name required of = record { name = name; required = required; annotations = unannotated; of = of }

abbrev pub variant : List ℕ → List MemberOf → VariantOf
variant name ms = record { name = name; annotations = unannotated; form = named_fields (alone false) ms }

abbrev pub unit_variant : List ℕ → VariantOf
unit_variant name = record { name = name; annotations = unannotated; form = no_fields }

-- { id: u64, name: Option<String>, next: Option<Box<t>> }, { item: T, next: Option<Box<t>> }, { next: Vec<t> }
abbrev pub members : Turn → Open → List MemberOf
members plain_struct t =
    member (codes "id") true (leaf leaves.U64)
    ∷ member (codes "name") false (option (leaf leaves.String))
    ∷ member (codes "next") false (option (through Box t)) ∷ []
members generic_struct t = member (codes "item") true (param 0) ∷ member (codes "next") false (option (through Box t)) ∷ []
members tagged_enum t = member (codes "next") true (items Vec t) ∷ []

-- a struct with the members, or an enum { A, B { .. } } with them in `B`
abbrev pub body : Turn → Open → BodyOf
body plain_struct t = fields (named_fields (alone false) (members plain_struct t))
body generic_struct t = fields (named_fields (alone false) (members generic_struct t))
body tagged_enum t = variants (Internal (codes "t")) (unit_variant (codes "A") ∷ variant (codes "B") (members tagged_enum t) ∷ [])

-- the declaration of the number in a ring of so many
abbrev pub declaration : (many : ℕ) → ℕ → DeclarationOf
declaration many i = record { name = name i; parameters = parameters (turn i); annotations = unannotated; body = body (turn i) (instance (next many i)) }

abbrev pub numbers : (many : ℕ) → List ℕ
numbers many = range_with_len 0 many

abbrev pub ring : (many : ℕ) → List DeclarationOf
ring many = map (declaration many) (numbers many)

abbrev pub instances : (many : ℕ) → List Open
instances many = map instance (numbers many)

-- ---- the law

-- Each declaration of the ring has one instance, which is small; the names of instances differ; no inline path is longer than it
-- may be; each instance is a component, and there are as many copies as instances, since none stands in the schema of another.
pub record IsOpenRing (many : ℕ) : Type 0 where
  pub reached : AreInstances (ring many) (instances many)
  pub small : (t : Open) → IsReachable (ring many) t → type_size t ≤ 2
  pub differ : NamesDiffer (ring many)
  pub shallow : AreShallow (ring many)
  pub components : (all : Bool) → AreComponentsOf (ring many) all (instances many)
  pub copied : sum_over (instance_copies (ring many) most_inlined) (instances many) ≡ many
