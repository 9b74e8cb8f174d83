-- Lists of values, built one by one.
use Rattle.std.proofs.Common.{ℕ, ◌+◌, ◌<◌, Some, arith, List, [], ◌∷◌, ◌++◌, ◌≡◌, refl, ap, sym, ◌∙◌, length, take, get_or, map as map_list}
use Rattle.std.proofs.lemmas.List.{take_more, map-append}
use Rattle.serde_json.specs.Data.{Data, string, item as data_item, put as put_data, Members as DataMembers}
use Rattle.serde_json.specs.View.{items_of}
use Rattle.acceptance.specs.Json.{Json, list, Members, put, put_all, no_members, map_of}
use Rattle.acceptance.specs.Data.{data_of, items_data, members_data}
use Rattle.schema_trees.specs.declared.tree.Tree.{Tree}
use Rattle.schema_trees.specs.declared.tree.RefLeaf.{RefLeaf}
use Rattle.schema_trees.specs.Schema.{schema_view, tree_views, named_views}
use Rattle.schema_core.specs.declared.alternatives.Alternatives.{Alternatives}
use Rattle.schema_core.specs.Form.{form_by, schema_forms, property_forms, required_form, texts_form, value_items, entries_form}
use Rattle.schema_core.proofs.Puts.{data_put}

pub texts_items : (ts : List (List ℕ)) → items_of (map_list string ts) ≡ items_data (texts_form ts)
texts_items [] = refl
texts_items (t ∷ ts) = ap (data_item (string t)) (texts_items ts)

abbrev pub schema_data : Alternatives → Tree RefLeaf → Data
schema_data by s = data_of (form_by by (schema_view s))

pub schemas_items : (by : Alternatives) (ss : List (Tree RefLeaf)) → items_of (map_list (schema_data by) ss) ≡ items_data (schema_forms by (tree_views (λ l. l) ss))
schemas_items by [] = refl
schemas_items by (s ∷ ss) = ap (data_item (schema_data by s)) (schemas_items by ss)

-- a property's name and the form of its schema
abbrev pub property_form : Alternatives → List ℕ × Tree RefLeaf → List ℕ × Json
property_form by p = (p.0, form_by by (schema_view p.1))

pub properties_are : (by : Alternatives) (ps : List (List ℕ × Tree RefLeaf)) → map_list (property_form by) ps ≡ property_forms by (named_views (λ l. l) ps)
properties_are by [] = refl
properties_are by (p ∷ ps) = ap (λ es. property_form by p ∷ es) (properties_are by ps)

put_all_last : (es : List (List ℕ × Json)) (e : List ℕ × Json) (ms : Members) → put_all (es ++ e ∷ []) ms ≡ put e.0 e.1 (put_all es ms)
put_all_last [] e ms = refl
put_all_last (x ∷ es) e ms = put_all_last es e (put x.0 x.1 ms)

-- one more of a list of entries is put last
pub put_step : {X : Type 0} (f : X → List ℕ × Json) (xs : List X) (i : ℕ) (x : X) → i < length xs → x ≡ get_or xs i x →
    (name : List ℕ) (d : Data) (old new : DataMembers) → name ≡ (f x).0 → d ≡ data_of (f x).1 →
    old ≡ members_data (put_all (map_list f (take i xs)) no_members) → new ≡ put_data name d old →
    new ≡ members_data (put_all (map_list f (take (i + 1) xs)) no_members)
put_step f xs i x h here name d old new n e o p =
    let before = put_all (map_list f (take i xs)) no_members in
    let more : put_all (map_list f (take (i + 1) xs)) no_members ≡ put (f x).0 (f x).1 before =
    ap (λ ys. put_all (map_list f ys) no_members) (take_more xs i x h) ∙ ap (λ ys. put_all ys no_members) (map-append f (take i xs) (get_or xs i x ∷ []))
    ∙ put_all_last (map_list f (take i xs)) (f (get_or xs i x)) no_members ∙ ap (λ y. put (f y).0 (f y).1 before) (sym here) in
    p ∙ ap (λ k. put_data k d old) n ∙ ap (λ y. put_data (f x).0 y old) e ∙ ap (put_data (f x).0 (data_of (f x).1)) o
    ∙ data_put (f x).0 (f x).1 before ∙ ap members_data (sym more)

pub values_items : (xs : List Json) → items_of (map_list data_of xs) ≡ items_data (value_items xs)
values_items [] = refl
values_items (x ∷ xs) = ap (data_item (data_of x)) (values_items xs)

-- a map of entries, of which there is one
pub some_entries : (es : List (List ℕ × Json)) (n : ℕ) → n ≡ length es → 0 < n → entries_form es ≡ Some (map_of es)
some_entries [] n e h = absurd (omega arith)
some_entries (x ∷ es) n e h = refl

-- a list of names, of which there is one
pub some_texts : (ks : List (List ℕ)) → 0 < length ks → required_form ks ≡ Some (list (texts_form ks))
some_texts [] h = absurd (omega arith)
some_texts (k ∷ ks) h = refl
