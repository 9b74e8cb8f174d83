-- The types that are found under the names of components.
use Rattle.std.proofs.Common.{◌≡◌, ◌<◌, ◌+◌, ◌∙◌, ℕ, suc, List, [], ◌∷◌, ◌++◌, length, take, get_or, Option, Some, None, option_map, is_some, Bool, true, false, cond, bytes_eq, IsTrue, refl, ap, sym, subst, inl, inr, arith}
use Rattle.std.specs.List.{AllByRecursion, cons_option, filter_map}
use Rattle.std.proofs.lemmas.Bool.{false≢true}
use Rattle.std.proofs.lemmas.List.{take_more}
use Rattle.std.proofs.lemmas.List.Elements.{filter_map-append}
use Rattle.std.proofs.lemmas.Option.{none-some, same_Some}
use Rattle.std.proofs.lemmas.Slice.Eq.{bytes_eq-Decides}
use Rattle.schema_core.specs.Document.{Entry}
use Rattle.schema_core.specs.Entries.{find}
use Rattle.schema_core.specs.Entries as entries
use Rattle.open_types.specs.Open.{Open}
use Rattle.texts.specs.Names.{place_in}
use Rattle.shapes.specs.Declarations.{DeclarationOf}
use Rattle.shapes.specs.InstanceNames.{instance_name}
use Rattle.shapes.specs.InstanceShape.{IsReachable}
use Rattle.instances.specs.Lists.{IsOneOf, instance_at, AreInstances}
use Rattle.instances.specs.Names.{NamesDiffer, instance_names}
use Rattle.instances.proofs.Laws.{at-one}
use Rattle.closing.specs.Links.{IsComponent}
use Rattle.closing.specs.Described.{AreComponents}
use Rattle.compose.specs.Types.{AreTypesOf}

-- the instance of a number has the name
abbrev IsAt : List DeclarationOf → List Open → List ℕ → ℕ → Type 0
IsAt ss is k n = (n < length is) × (k ≡ instance_name ss (instance_at is n))

-- the place that a name has is that of an instance of this name
place-is_at : (ss : List DeclarationOf) (is : List Open) (k : List ℕ) (p : ℕ) → place_in k (instance_names ss is) ≡ Some p → IsAt ss is k p
place-is_at ss [] k p e = absurd (none-some p e)
place-is_at ss (t ∷ is) k p e = by (bytes_eq k (instance_name ss t)) refl (place_in k (instance_names ss is)) e (place-is_at ss is k)
  where
    by : (b : Bool) → bytes_eq k (instance_name ss t) ≡ b → (o : Option ℕ) → cond b (Some 0) (option_map suc o) ≡ Some p → ((r : ℕ) → o ≡ Some r → IsAt ss is k r) → IsAt ss (t ∷ is) k p
    by true q o h later = subst (IsAt ss (t ∷ is) k) (same_Some 0 p h) (omega arith, (bytes_eq-Decides k (instance_name ss t)).0 q)
    by false q None h later = absurd (none-some p h)
    by false q (Some r) h later = let l = later r refl in subst (IsAt ss (t ∷ is) k) (same_Some (suc r) p h) (omega (arith, l.0), l.1)

-- a name that an instance has, has a place
found_at : (ss : List DeclarationOf) (is : List Open) (t : Open) → IsOneOf t is → IsTrue (is_some (place_in (instance_name ss t) (instance_names ss is)))
found_at ss [] t o = absurd o
found_at ss (u ∷ is) t (inl e) = ap (λ b. is_some (cond b (Some 0) (option_map suc (place_in (instance_name ss t) (instance_names ss is))))) ((bytes_eq-Decides (instance_name ss t) (instance_name ss u)).1 (ap (instance_name ss) e))
found_at ss (u ∷ is) t (inr o) = by (bytes_eq (instance_name ss t) (instance_name ss u)) (place_in (instance_name ss t) (instance_names ss is)) (found_at ss is t o)
  where
    by : (b : Bool) (p : Option ℕ) → IsTrue (is_some p) → IsTrue (is_some (cond b (Some 0) (option_map suc p)))
    by true p h = refl
    by false None h = h
    by false (Some r) h = refl

found_later : {A : Type 0} (b : Bool) (x : A) (o : Option A) → IsTrue (is_some o) → IsTrue (is_some (cond b (Some x) o))
found_later true x o f = refl
found_later false x o f = f

-- what stands under each name of entries
under_names : (P : List ℕ → Type 0) (es : List Entry) → ((k : List ℕ) → IsTrue (is_some (find k es)) → P k) → AllByRecursion P (entries.entry_names es)
under_names P [] h = tt
under_names P (e ∷ es) h = (h e.0 (ap (λ b. is_some (cond b (Some e.1) (find e.0 es))) ((bytes_eq-Decides e.0 e.0).1 refl)), under_names P es (λ k f. h k (found_later (bytes_eq k e.0) e.1 (find k es) f)))

-- the name is that of a component
abbrev IsNamed : List DeclarationOf → Bool → List ℕ → Type 0
IsNamed ss all k = (t : Open) × IsComponent ss all t × (k ≡ instance_name ss t)

module _ (ss : List DeclarationOf) (all : Bool) (is : List Open) (are : AreInstances ss is) (differ : NamesDiffer ss) (reachable : (t : Open) → IsComponent ss all t → IsReachable ss t) where
  abbrev look : List ℕ → Option Open
  look k = option_map (instance_at is) (place_in k (instance_names ss is))

  types_at : (ns : List (List ℕ)) → AllByRecursion (IsNamed ss all) ns → AreTypesOf ss all ns (filter_map look ns)
  types_at [] h = record { components = tt; names_are = refl }
  types_at (k ∷ ns) h = by (place_in k (instance_names ss is)) refl (filter_map look ns) (types_at ns h.1)
    where
      t : Open
      t = h.0.0

      here : IsReachable ss t
      here = reachable t h.0.1

      by : (o : Option ℕ) → place_in k (instance_names ss is) ≡ o → (ts : List Open) → AreTypesOf ss all ns ts → AreTypesOf ss all (k ∷ ns) (cons_option (option_map (instance_at is) o) ts)
      by None e ts rest = absurd (false≢true (sym (ap is_some (ap (λ n. place_in n (instance_names ss is)) (sym h.0.2) ∙ e)) ∙ found_at ss is t (are.all t here)))
      by (Some p) e ts rest =
          let at = place-is_at ss is k p e in
          let same : instance_at is p ≡ t = differ (instance_at is p) t (are.reached (instance_at is p) (at-one is p at.0)) here (sym at.1 ∙ h.0.2) in
          record { components = (subst (IsComponent ss all) (sym same) h.0.1, rest.components); names_are = (λ i. sym at.1 i ∷ rest.names_are i) }

  -- the instances of the names of components are their types
  pub types_are : (components : List Entry) → AreComponents ss all components → AreTypesOf ss all (entries.entry_names components) (filter_map look (entries.entry_names components))
  types_are components made = types_at (entries.entry_names components) (under_names (IsNamed ss all) components made.only)

-- one name more
pub found_more : (h : List ℕ → Option Open) (names : List (List ℕ)) (i : ℕ) (d : List ℕ) (found more : List Open) → i < length names → found ≡ filter_map h (take i names) →
    more ≡ found ++ cons_option (h (get_or names i d)) [] → more ≡ filter_map h (take (i + 1) names)
found_more h names i d found more l so e =
    let x = get_or names i d in
    e ∙ ap (λ ts. ts ++ cons_option (h x) []) so ∙ sym (filter_map-append h (take i names) (x ∷ [])) ∙ ap (filter_map h) (sym (take_more names i d l))
