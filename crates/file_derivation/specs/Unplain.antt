-- What is told of instances that are not plain.
use Rattle.std.specs.Prelude.{◌≡◌, ℕ, List, [], ◌∷◌, ◌++◌, slice_get, codes, Bool, true, false, Some}
use Rattle.configuration.specs.Configuration.{Configuration}
use Rattle.syntax.specs.Items.{DeclaredItem}
use Rattle.plainness.specs.declared.unplain.Misfit.{Misfit}
use Rattle.plainness.specs.declared.unplain.Misfit.TheVariants.{NoOpenMap, NoTexts, NotAlone, Denied}
use Rattle.plainness.specs.declared.unplain.Obstacle.{Obstacle}
use Rattle.plainness.specs.declared.unplain.Obstacle.TheVariants.{Float, MapKey, TaggedNewtype, Flattened, Unit, NoVariant}
use Rattle.plainness.specs.declared.unplain.Reason.{Reason}
use Rattle.plainness.specs.declared.unplain.Reason.TheVariants.{Body, Reaches}
use Rattle.plainness.specs.declared.unplain.Unplain.{Unplain}
use Rattle.compose.specs.Unplain.{AreUnplainOf}
use Rattle.telling.specs.declared.told.Told.{Told}
use Rattle.prepare.specs.declared.file_items.FileItem.{FileItem}
use Rattle.file_derivation.specs.Elsewhere.{told_at_name}

-- what is said of a flattened field, behind its name
abbrev pub misfit_text : Misfit → List ℕ
misfit_text NoOpenMap = codes "flattens neither a struct with named fields nor an enum with a tag, or one that has deny_unknown_fields or a flattened map"
misfit_text NoTexts = codes "flattens a map whose key is not String, str or char"
misfit_text NotAlone = codes "flattens a map beside something else that is flattened"
misfit_text Denied = codes "is flattened beside deny_unknown_fields"

abbrev pub obstacle_text : Obstacle → List ℕ
obstacle_text Float = codes "f32 or f64 stands in the type of a field"
obstacle_text MapKey = codes "a map's key is not String, str, char or an externally tagged enum of unit variants"
obstacle_text TaggedNewtype = codes "beside `tag`, a newtype variant holds no struct with named fields and without deny_unknown_fields"
obstacle_text (Flattened name misfit) = codes "`" ++ (name ++ (codes "` " ++ misfit_text misfit))
obstacle_text Unit = codes "it is a unit struct, or () stands in the type of a field"
obstacle_text NoVariant = codes "it is untagged and has no variant that is not skipped"

abbrev pub reason_text : Reason → List ℕ
reason_text (Body obstacle) = obstacle_text obstacle
reason_text (Reaches name) = codes "it uses " ++ name

abbrev pub unplain_message : Unplain → List ℕ
unplain_message u = u.name ++ (codes " is not plain: " ++ reason_text u.reason)

-- what is told of an instance of the declaration that is read from the item, at the name of that
abbrev pub told_unplain : (names : List (List ℕ)) → DeclaredItem → FileItem → Unplain → Told
told_unplain names d i u = told_at_name names d i (unplain_message u)

-- Of instances of these declarations, each of which is read from the item at the same place, this is told, in order.
pub data AreUnplainTold (names : List (List ℕ)) (ds : List DeclaredItem) (from : List FileItem) : List Unplain → List Told → Type 0 where
  none_told : AreUnplainTold names ds from [] []
  one_told : {u : Unplain} {us : List Unplain} {told : List Told} {d : DeclaredItem} {i : FileItem} → slice_get ds u.declaration ≡ Some d → slice_get from u.declaration ≡ Some i → AreUnplainTold names ds from us told
      → AreUnplainTold names ds from (u ∷ us) (told_unplain names d i u ∷ told)

-- this is told of the instances that are not plain, where they are asked for
abbrev pub IsPlainTold : (asked : Bool) → Configuration → (names : List (List ℕ)) → List DeclaredItem → (from : List FileItem) → List Told → Type 0
IsPlainTold false c names ds from told = told ≡ []
IsPlainTold true c names ds from told = (us : List Unplain) × AreUnplainOf c ds us × AreUnplainTold names ds from us told
