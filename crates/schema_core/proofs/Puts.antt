-- What is put into a map of serde_json's is put into the members that it stands for.
use Rattle.std.proofs.Common.{ℕ, List, ◌≡◌, refl, ap, ◌∙◌, String, string_bytes, BTreeMap, false, ℤ, pos, negsuc, Option, Some, None, option_map}
use Rattle.std.specs.BTreeMap.{insert_entry}
use Rattle.std.specs.String.{string_cmp}
use Rattle.std.specs.declared.alloc.Global.{Global}
use Rattle.std.specs.Ordering.{nat_cmp, match_ordering}
use Rattle.std.specs.Cmp.Lexicographic.{slice_cmp}
use Rattle.std.specs.declared.cmp.Ordering.{Ordering}
use Rattle.std.specs.declared.cmp.Ordering.TheVariants.{Less, Equal, Greater}
use Rattle.serde_json.specs.declared.value.Value.{Value, Object}
use Rattle.serde_json.specs.Data.{Data, object, put as put_data, member as entry, Members as DataMembers}
use Rattle.serde_json.specs.Find.{is_float}
use Rattle.serde_json.specs.View.{view, members_view}
use Rattle.serde_json.specs.Written.{has_float, items_have_float, members_have_float}
use Rattle.serde_json.proofs.Views.{Entry, members_view-insert_entry, view-Object}
use Rattle.acceptance.specs.Json.{Json, null, boolean, number, text, list, map, Items, no_items, item, Members, no_members, member, put, put_given}
use Rattle.schema_core.specs.Members.{put_given_data}
use Rattle.acceptance.specs.Data.{num_of, data_of, items_data, members_data}

pub put_is : (es : List Entry) (k : String Global) (v : Value) → members_view (insert_entry string_cmp es k v) ≡ put_data (string_bytes k) (view v) (members_view es)
put_is es k v = members_view-insert_entry es k v

pub data_put : (k : List ℕ) (x : Json) (ms : Members) → put_data k (data_of x) (members_data ms) ≡ members_data (put k x ms)
data_put k x no_members = refl
data_put k x (member l y ms) = by (slice_cmp nat_cmp k l) (data_put k x ms)
  where
    by : (o : Ordering) → put_data k (data_of x) (members_data ms) ≡ members_data (put k x ms) →
        match_ordering o (entry k (data_of x) (entry l (data_of y) (members_data ms))) (entry l (data_of x) (members_data ms)) (entry l (data_of y) (put_data k (data_of x) (members_data ms)))
        ≡ members_data (match_ordering o (member k x (member l y ms)) (member l x ms) (member l y (put k x ms)))
    by Less e = refl
    by Equal e = refl
    by Greater e = ap (entry l (data_of y)) e

-- one field more, where the members before stand for ms
pub given_put : (k : List ℕ) (o : Option Json) (d : Option Data) (ms : Members) (old new : DataMembers) →
    old ≡ members_data ms → d ≡ option_map data_of o → new ≡ put_given_data k d old → new ≡ members_data (put_given k o ms)
given_put k None None ms old new e f g = g ∙ e
given_put k None (Some d) ms old new e f g = cc
given_put k (Some x) None ms old new e f g = cc
given_put k (Some x) (Some d) ms old new e f g = let same : d ≡ data_of x = cc in g ∙ ap (λ m. put_data k d m) e ∙ ap (λ y. put_data k y (members_data ms)) same ∙ data_put k x ms

pub object_is : (m : BTreeMap (String Global) Value) → view (Object m) ≡ object (members_view m.entries)
object_is m = view-Object m

-- no value here has a float
pub number_has_no_float : (n : ℤ) → is_float (num_of n) ≡ false
number_has_no_float (pos n) = refl
number_has_no_float (negsuc n) = refl

mutual
  pub has_no_float : (j : Json) → has_float (data_of j) ≡ false
  has_no_float null = refl
  has_no_float (boolean b) = refl
  has_no_float (number n) = number_has_no_float n
  has_no_float (text s) = refl
  has_no_float (list xs) = items_have_no_float xs
  has_no_float (map ms) = members_have_no_float ms

  items_have_no_float : (xs : Items) → items_have_float (items_data xs) ≡ false
  items_have_no_float no_items = refl
  items_have_no_float (item x xs) = rw (has_no_float x, items_have_no_float xs)

  members_have_no_float : (ms : Members) → members_have_float (members_data ms) ≡ false
  members_have_no_float no_members = refl
  members_have_no_float (member k x ms) = rw (has_no_float x, members_have_no_float ms)
