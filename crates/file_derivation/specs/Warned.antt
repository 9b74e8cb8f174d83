-- What declarations that are read of files are warned of.
use Rattle.std.specs.Prelude.{◌≡◌, ◌<◌, ◌≤◌, ℕ, suc, List, [], ◌∷◌, ◌++◌, length, map, filter, take, slice_get, codes, is_some, Bool, true, false, Option, Some, None}
use Rattle.schema_core.specs.Document.{Entry}
use Rattle.configuration.specs.Configuration.{Configuration}
use Rattle.syntax.specs.Items.{DeclaredItem}
use Rattle.scopes.specs.Names.{place_among}
use Rattle.telling.specs.Told.{told_at}
use Rattle.telling.specs.declared.told.Told.{Told}
use Rattle.prepare.specs.declared.file_items.FileItem.{FileItem}
use Rattle.prepare.specs.declared.serde_trait.SerdeTrait.{SerdeTrait}
use Rattle.prepare.specs.declared.serde_trait.SerdeTrait.TheVariants.{Serialize, Deserialize}
use Rattle.warnings.specs.Rules.{WarningItem}
use Rattle.warnings.specs.Warned.{warnings_of}
use Rattle.gathering.specs.Reading.{file_name}
use Rattle.gathering.specs.Telling.{told_plainly, whole_span}
use Rattle.prepare.specs.declared.file_items.FileImpl.{FileImpl}
use Rattle.file_derivation.specs.Elsewhere.{told_all_elsewhere}
use Rattle.file_derivation.specs.Unplain.{IsPlainTold}
use Rattle.file_derivation.specs.declared.warned.Warnings.{Warnings}

-- what is told of a warning of the text of a declaration in the file of the name
abbrev pub told_warning : (name : List ℕ) → FileItem → WarningItem → Told
told_warning name i w = told_at name i.place i.text w.span (codes "warning") w.message

-- what is told of the warnings of a declaration among these that is read from the item
abbrev pub told_warnings : Configuration → (names : List (List ℕ)) → List DeclaredItem → FileItem → DeclaredItem → List Told
told_warnings c names ds i d = map (told_warning (file_name names i.file) i) (warnings_of c ds d)

-- Of the first so many declarations, each read from the item at the same place, this is warned of, in order.
pub data AreWarned (c : Configuration) (names : List (List ℕ)) (ds : List DeclaredItem) (from : List FileItem) : ℕ → List Told → Type 0 where
  none_yet : AreWarned c names ds from 0 []
  one_more : {at : ℕ} {told : List Told} {d : DeclaredItem} {i : FileItem} → AreWarned c names ds from at told → slice_get ds at ≡ Some d → slice_get from at ≡ Some i
      → AreWarned c names ds from (suc at) (told ++ told_warnings c names ds i d)

-- ---- impls by hand

abbrev pub trait_name : SerdeTrait → List ℕ
trait_name Serialize = codes "Serialize"
trait_name Deserialize = codes "Deserialize"

abbrev pub impl_message : FileImpl → List ℕ
impl_message x = codes "`" ++ (trait_name x.of ++ (codes "` of " ++ (x.name ++ codes " is written by hand; the schema is that of the declaration")))

-- what is told of an impl by hand, under its head
abbrev pub told_impl : (names : List (List ℕ)) → FileImpl → Told
told_impl names x = told_at (file_name names x.file) x.place x.text (whole_span x.text) (codes "warning") (impl_message x)

-- a declaration has the name
abbrev pub is_declared : List DeclaredItem → List ℕ → Bool
is_declared ds name = is_some (place_among ds name)

-- of the impls by hand those for declarations of these
abbrev pub told_impls : (names : List (List ℕ)) → List DeclaredItem → List FileImpl → List Told
told_impls names ds impls = map (told_impl names) (filter (λ x. is_declared ds x.name) impls)

-- ---- a document without a component

abbrev pub warning : List ℕ → Told
warning message = told_plainly [] (codes "warning") message

abbrev pub has_some : {A : Type 0} → List A → Bool
has_some [] = false
has_some (x ∷ xs) = true

-- a document without a component says nothing of any declaration
abbrev pub nothing_message : (is_declared : Bool) → List ℕ
nothing_message true = codes "nothing is described: each declaration that is chosen has type parameters"
nothing_message false = codes "nothing is described: no file has a declaration that is chosen and not left out"

abbrev pub told_nothing : (is_declared is_described : Bool) → List Told
told_nothing is_declared true = []
told_nothing is_declared false = warning (nothing_message is_declared) ∷ []

-- ---- all warnings

-- all that is warned of: what is left out, declarations, the impls by hand that are for them, what another file has in place of theirs, what is not plain, where that is asked for, and their document
pub record AreAllWarned (plain : Bool) (c : Configuration) (names : List (List ℕ)) (elsewhere : FileItem → Option (List ℕ)) (ds : List DeclaredItem) (from : List FileItem) (impls : List FileImpl) (components : List Entry) (left_out warnings : List Told) : Type 0 where
  pub own : List Told
  pub warned : AreWarned c names ds from (length ds) own
  pub unplain : List Told
  pub not_plain : IsPlainTold plain c names ds from unplain
  pub whole : warnings ≡ ((((left_out ++ own) ++ told_impls names ds impls) ++ told_all_elsewhere names elsewhere ds from) ++ unplain) ++ told_nothing (has_some ds) (has_some components)

-- these are the first hundred of all, and how many there are
abbrev pub AreFirst : List Told → Warnings → Type 0
AreFirst all warnings = (warnings.told ≡ take 100 all) × (warnings.count ≡ length all)

-- behind so many one is told where it is among the first hundred
abbrev pub IsToldFirst : ℕ → Told → Option Told → Type 0
IsToldFirst count one told = (count < 100 → told ≡ Some one) × (100 ≤ count → told ≡ None)
