-- Which data are the parts of a row, and which texts are the lines of rows.
use Rattle.std.proofs.Common.{◌≡◌, ◌≢◌, ℕ, suc, List, [], ◌∷◌, length, Option, Some, None, Result, Ok, Err, MatchOption, IfOk, refl, sym, ap, ◌∙◌, subst}
use Rattle.std.specs.declared.alloc.AllocError.{AllocError}
use Rattle.serde_json.specs.Data.{Data, null, boolean, number, string, array, object, Items, no_items, item}
use Rattle.serde_json.specs.Find.{as_array}
use Rattle.serde_json.specs.Read.{read}
use Rattle.serde_json.specs.View.{items_view}
use Rattle.serde_json.specs.declared.value.Value.{Value}
use Rattle.rows.specs.declared.row.Row.{Row}
use Rattle.rows.specs.Given.{IsNoPair}
use Rattle.rows.specs.Rows.{AreOf, AreOfNone, IsLineOf, IsLineOfNone}

-- how many data there are
abbrev many : Items → ℕ
many no_items = 0
many (item d ds) = suc (many ds)

many-items_view : (parts : List Value) → many (items_view parts) ≡ length parts
many-items_view [] = refl
many-items_view (v ∷ vs) = ap suc (many-items_view vs)

-- the parts of a row are three
pub others_are_of_none : (parts : List Value) → length parts ≢ 3 → AreOfNone (items_view parts)
others_are_of_none parts other = λ row are. other (sym (many-items_view parts) ∙ ap many are.are)

-- a list of two has two items
pub others_are_no_pair : (parts : List Value) (d : Data) → length parts ≢ 2 → as_array d ≡ Some (items_view parts) → IsNoPair d
others_are_no_pair parts d other is = λ one two pair.
    let same : items_view parts ≡ item one (item two no_items) = cc in
    other (sym (many-items_view parts) ∙ ap many same)

-- a text is one list
same_list : (text : List ℕ) (cs es ds : Items) → read text ≡ Some (array cs) → read text ≡ Some (array es) → Some ds ≡ Some es → cs ≡ ds
same_list text cs es ds one other is = cc

-- a list is the line of a row exactly if its data are the row's parts
pub lines_of_list : (text : List ℕ) (d : Data) (ds : Items) (o : Result (Option Row) AllocError) → read text ≡ Some d → Some ds ≡ as_array d →
    IfOk o (λ found. MatchOption found (AreOfNone ds) (AreOf ds)) → IfOk o (λ found. MatchOption found (IsLineOfNone text) (IsLineOf text))
lines_of_list text null ds o reads is are = absurd (let e : Some ds ≡ None = is in cc)
lines_of_list text (boolean b) ds o reads is are = absurd (let e : Some ds ≡ None = is in cc)
lines_of_list text (number n) ds o reads is are = absurd (let e : Some ds ≡ None = is in cc)
lines_of_list text (string s) ds o reads is are = absurd (let e : Some ds ≡ None = is in cc)
lines_of_list text (object ms) ds o reads is are = absurd (let e : Some ds ≡ None = is in cc)
lines_of_list text (array es) ds (Err e) reads is are = tt
lines_of_list text (array es) ds (Ok None) reads is none = λ row line. none row (subst (λ fs. AreOf fs row) (same_list text line.0 es ds line.1 reads is) line.2)
lines_of_list text (array es) ds (Ok (Some row)) reads is are = (ds, reads ∙ ap (λ fs. Some (array fs)) (let f : Some ds ≡ Some es = is in cc), are)
