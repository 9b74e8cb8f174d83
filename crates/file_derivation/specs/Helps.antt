-- What the reader may do about the fault of a declaration, by the declarations around it.
use Rattle.std.specs.Prelude.{◌==◌, ℕ, List, [], ◌∷◌, ◌++◌, map, bytes_eq, cond, codes, Option, Some, None, option_map, option_and_then, slice_get}
use Rattle.std.specs.Option.{option_or}
use Rattle.diag.specs.declared.diagnostics.DiangosticsInner.{DiangosticsInner}
use Rattle.diag.specs.declared.kind.Kind.{Kind}
use Rattle.diag.specs.declared.kind.Kind.TheVariants.{Syntax, DuplicateName, UnknownType, Arity, FlattenedMaps}
use Rattle.texts.specs.Names.{is_in}
use Rattle.syntax.specs.Items.{DeclaredItem, declarations_view}
use Rattle.scopes.specs.Names.{place_among}
use Rattle.derive_decl.specs.Attributed.{first_feature, feature_name}
use Rattle.derive_decl.specs.Faults.{fieldless_message}
use Rattle.derive_decl.specs.declared.feature.Feature.{Feature}
use Rattle.telling.specs.Told.{place_in}
use Rattle.telling.specs.declared.told.Told.{Told}
use Rattle.prepare.specs.declared.file_items.FileItem.{FileItem}
use Rattle.gathering.specs.Reading.{file_name, told_of}
use Rattle.gathering.specs.Telling.{unknown_type}
use Rattle.selecting.specs.declared.selection.Selection.{Selection}
use Rattle.file_derivation.specs.declared.helps.Around.{Around}

-- what declarations are read from: the names of the files, the names that are excluded, and the items
pub record Origin : Type 0 where
  pub names : List (List ℕ)
  pub excluded : List (List ℕ)
  pub from : List FileItem

-- the origin of declarations that are read of these files and selected so
abbrev pub origin_of : List (List ℕ) → Selection → List FileItem → Origin
origin_of names s from = record { names = names; excluded = s.exclude; from = from }

-- the declaration that is read from the item has its name first
abbrev pub first_help : Origin → Option DeclaredItem → Option FileItem → Option (List ℕ)
first_help o (Some d) (Some i) =
    Some (codes "the first stands at " ++ (place_in (file_name o.names i.file) i.place i.text d.ident.span.start ++ codes "; leave one out by --exclude PATH:LINE"))
first_help o _ _ = None

-- of a declaration that is not the first of its name
abbrev pub second_help : Origin → List DeclaredItem → (at first : ℕ) → Option (List ℕ)
second_help o ds at first = cond (first == at) None (first_help o (slice_get ds first) (slice_get o.from first))

abbrev pub feature_help : Feature → List ℕ
feature_help feature = codes "`" ++ (feature_name feature ++ codes "` is not built")

abbrev pub excluded_help : Origin → List ℕ → Option (List ℕ)
excluded_help o name = cond (is_in name o.excluded) (Some (name ++ codes " is excluded by --exclude")) None

-- of a wrong number of type arguments, and of a tuple form without a field, by the message
abbrev pub arity_help : List ℕ → List ℕ
arity_help message = cond (bytes_eq message fieldless_message)
    (codes "give it a field of the type `[u8; 0]`: its JSON, too, is the empty array")
    (codes "write each of its type arguments, also one that has a default; an alias has none")

-- of the declaration at the place among these, by the kind and the message of its fault
abbrev pub around_help : Origin → List DeclaredItem → ℕ → DeclaredItem → Kind → List ℕ → Option (List ℕ)
around_help o ds at d DuplicateName message = option_and_then (second_help o ds at) (place_among ds d.ident.text)
around_help o ds at d Syntax message = option_map feature_help (first_feature d)
around_help o ds at d UnknownType message = option_and_then (excluded_help o) (unknown_type message)
around_help o ds at d Arity message = Some (arity_help message)
around_help o ds at d FlattenedMaps message = Some (codes "flatten one map; give the other field a name")
around_help o ds at d _ message = None

-- what is told of the fault of the declaration at the place, which is read from the item
abbrev pub told_fault : Origin → List DeclaredItem → ℕ → DeclaredItem → FileItem → List DiangosticsInner → Told
told_fault o ds at d i [] = told_of o.names i []
told_fault o ds at d i (entry ∷ entries) =
    let told : Told = told_of o.names i (entry ∷ entries) in
    record told { help = option_or (around_help o ds at d entry.kind entry.message) told.help }

-- ---- what the program's values are

abbrev pub origin_around : Around → Origin
origin_around a = record { names = a.names.now; excluded = a.excluded.now; from = map (λ i. i.now) a.from.now }

abbrev pub declared_around : Around → List DeclaredItem
declared_around a = declarations_view a.places.now.declarations.now
