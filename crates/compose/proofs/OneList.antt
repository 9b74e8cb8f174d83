-- The components of a source are one list: what is held under each name is fixed, and the names are in order.
use Rattle.std.proofs.Common.{◌≡◌, ℕ, List, [], ◌∷◌, Bool, true, Option, Some, None, is_some, is_eq, cond, IsTrue, Ordering, Less, Equal, nat_cmp, refl, ap, sym, subst, ◌∙◌}
use Rattle.std.specs.Cmp.Lexicographic.{slice_cmp}
use Rattle.std.specs.FinMap.Entries as ordered
use Rattle.std.specs.List.{AllByRecursion}
use Rattle.std.specs.List.Sorted.{IsStrictlySortedBy}
use Rattle.std.specs.Ordering.{is_lt}
use Rattle.std.proofs.lemmas.Bool.{and_from}
use Rattle.std.proofs.lemmas.Cmp.{nat_list_cmp_total}
use Rattle.std.proofs.lemmas.Float.{T_from_true}
use Rattle.std.proofs.lemmas.Map.Text.{is_eq-slice_cmp}
use Rattle.std.proofs.lemmas.Option.{same_Some}
use Rattle.std.proofs.lemmas.Slice.Eq.{bytes_eq-Decides}
use Rattle.schema_trees.specs.declared.tree.RefLeaf.{RefLeaf}
use Rattle.schema_trees.specs.Schema.{SchemaOf}
use Rattle.schema_core.specs.Document.{Entry}
use Rattle.schema_core.specs.Entries.{entry_names, find, IsInOrder}
use Rattle.configuration.specs.Configuration.{Configuration}
use Rattle.syntax.specs.Items.{DeclaredItem}
use Rattle.syntax.specs.Source.{Reads}
use Rattle.shapes.specs.Declarations.{DeclarationOf}
use Rattle.closing.specs.Described.{AreComponents}
use Rattle.compose.specs.Bounds.{collects_all}
use Rattle.compose.specs.Faults.{AreDerived, ComponentsAreOne}

-- ---- entries in order

abbrev compare : List ℕ → List ℕ → Ordering
compare = slice_cmp nat_cmp

same_name : (k l : List ℕ) → compare k l ≡ Equal → k ≡ l
same_name k l e = (bytes_eq-Decides k l).0 (sym (is_eq-slice_cmp k l) ∙ ap is_eq e)

is_below : (k : List ℕ) (es : List Entry) → AllByRecursion (λ n. compare k n ≡ Less) (entry_names es) → ordered.below_all compare k es ≡ true
is_below k [] h = refl
is_below k (e ∷ es) h = and_from _ _ (ap is_lt h.0) (is_below k es h.1)

is_in_order : (es : List Entry) → IsInOrder (entry_names es) → ordered.is_sorted compare es ≡ true
unfolding IsStrictlySortedBy
is_in_order [] o = refl
is_in_order (e ∷ es) o = and_from _ _ (is_below e.0 es o.0) (is_in_order es o.1)

found : (k : List ℕ) (es : List Entry) → ordered.find compare k es ≡ find k es
found k [] = refl
found k (e ∷ es) = λ i. cond (is_eq-slice_cmp k e.0 i) (Some e.1) (found k es i)

same_list : (es fs : List Entry) → IsInOrder (entry_names es) → IsInOrder (entry_names fs) → ((k : List ℕ) → find k es ≡ find k fs) → es ≡ fs
same_list es fs o p same =
    ordered.same_entries compare nat_list_cmp_total same_name es fs (T_from_true _ (is_in_order es o)) (T_from_true _ (is_in_order fs p)) (λ k. found k es ∙ same k ∙ sym (found k fs))

-- ---- components

held : (ss : List DeclarationOf) (all : Bool) (es fs : List Entry) → AreComponents ss all es → AreComponents ss all fs → (k : List ℕ) → IsTrue (is_some (find k es)) → find k es ≡ find k fs
held ss all es fs a b k some =
    let named = a.only k some in
    ap (λ n. find n es) named.2 ∙ a.held named.0 named.1 ∙ sym (b.held named.0 named.1) ∙ ap (λ n. find n fs) (sym named.2)

one_list : (ss : List DeclarationOf) (all : Bool) (es fs : List Entry) → AreComponents ss all es → AreComponents ss all fs → es ≡ fs
one_list ss all es fs a b = same_list es fs a.order b.order (λ k. by k (find k es) refl (find k fs) refl)
  where
    by : (k : List ℕ) (o : Option (SchemaOf RefLeaf)) → find k es ≡ o → (p : Option (SchemaOf RefLeaf)) → find k fs ≡ p → find k es ≡ find k fs
    by k None e None f = e ∙ sym f
    by k None e (Some s) f = sym (held ss all fs es b a k (ap is_some f))
    by k (Some s) e p f = held ss all es fs a b k (ap is_some e)

one_derived : (c : Configuration) (ds : List DeclaredItem) (es fs : List Entry) → AreDerived c ds es → AreDerived c ds fs → es ≡ fs
one_derived c ds es fs a b =
    let resolved : a.resolved ≡ b.resolved = same_Some a.resolved b.resolved (sym a.resolves ∙ b.resolves) in
    one_list b.resolved (collects_all c.collect) es fs (subst (λ ss. AreComponents ss (collects_all c.collect) es) resolved a.components_are) b.components_are

-- ---- sources

abbrev pub OneReading : Type 0
OneReading = (source : List ℕ) (ds es : List DeclaredItem) → Reads source ds → Reads source es → ds ≡ es

pub components_are_one : OneReading → ComponentsAreOne
components_are_one one c source es fs a b =
    let read : a.declarations ≡ b.declarations = one source a.declarations b.declarations a.read b.read in
    one_derived c b.declarations es fs (subst (λ ds. AreDerived c ds es) read a.derived) b.derived
