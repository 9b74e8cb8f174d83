-- Names that are reached are taken out one after another, until no more can be.
use Rattle.std.proofs.Common.{◌≡◌, ◌∙◌, ◌<◌, ℕ, length, get_or, unwrap_or, List, [], ◌∷◌, ◌++◌, refl, ap, sym, subst, ◌⊎◌, inl, inr, true, false, cond, bytes_eq, Option, Some, None}
use Rattle.std.specs.List.{remove}
use Rattle.std.specs.Map.{update}
use Rattle.std.proofs.lemmas.Bool.{cases_Bool}
use Rattle.texts.specs.Names.{is_in}
use Rattle.reaching.specs.declared.node.Node.{Node}
use Rattle.reaching.specs.Reached.{IsNodeIn, IsReached, by_first, by_reached, AreUnreached}
use Rattle.reaching.specs.Taken.{NamesByName, names_if_first, first_names, with_names, entry, TakesOne}
use Rattle.reaching.proofs.Within.{bytes_same, bytes_itself, in_either, in_left, in_right, still_in, was_in, item_in}
use Rattle.reaching.proofs.Entries.{AreSame, has_entry, from_entry}

-- ---- the first names
named_by : (d : Node) (k : List ℕ) → is_in k (names_if_first d) ≡ true → (d.is_first ≡ true) × (is_in k d.names ≡ true)
named_by d k i = elim (cases_Bool d.is_first) [
  | inl h ↦ (h, subst (λ b. is_in k (cond b d.names []) ≡ true) h i)
  | inr h ↦ let none : is_in k [] ≡ true = subst (λ b. is_in k (cond b d.names []) ≡ true) h i in cc
]

first_from : (ds : List Node) (k : List ℕ) → is_in k (first_names ds) ≡ true → (d : Node) × IsNodeIn ds d × (d.is_first ≡ true) × (is_in k d.names ≡ true)
first_from [] k i = cc
first_from (d ∷ ds) k i = elim (in_either k (names_if_first d) (first_names ds) i) [
  | inl h ↦ let is = named_by d k h in (d, inl refl, is.0, is.1)
  | inr h ↦ let c = first_from ds k h in (c.0, inr c.1, c.2, c.3)
]

first_names_have : (ds : List Node) (d : Node) (k : List ℕ) → IsNodeIn ds d → d.is_first ≡ true → is_in k d.names ≡ true → is_in k (first_names ds) ≡ true
first_names_have [] d k h e i = elim h [ ]
first_names_have (c ∷ ds) d k (inl h) e i =
    let all : names_if_first c ≡ d.names = ap names_if_first h ∙ ap (λ b. cond b d.names []) e in
    in_left k (names_if_first c) (first_names ds) (subst (λ v. is_in k v ≡ true) (sym all) i)
first_names_have (c ∷ ds) d k (inr h) e i = in_right k (names_if_first c) (first_names ds) (first_names_have ds d k h e i)

-- ---- what is left, while names are taken out

-- the reached names are reached, a name that is gone is reached too, and what stands in declarations that are chosen is among them
pub record AreLeft (ss : List Node) (reached : List (List ℕ)) (left : NamesByName) : Type 0 where
  pub sound : (k : List ℕ) → is_in k reached ≡ true → IsReached ss k
  pub gone : (k : List ℕ) (ns : List (List ℕ)) → entry ss k ≡ Some ns → (left k ≡ Some ns) ⊎ ((left k ≡ None) × IsReached ss k)
  pub unnamed : (k : List ℕ) → entry ss k ≡ None → left k ≡ None
  pub closed : (d : Node) → IsNodeIn ss d → (d.is_first ≡ true) ⊎ (left d.name ≡ None) → (k : List ℕ) → is_in k d.names ≡ true → (is_in k reached ≡ true) ⊎ (left k ≡ None)

pub at_first : (ss : List Node) (reached : List (List ℕ)) (left : NamesByName) → reached ≡ first_names ss → AreSame left (entry ss) → AreLeft ss reached left
at_first ss reached left w same = record {
  sound = λ k i. let d = first_from ss k (subst (λ v. is_in k v ≡ true) w i) in by_first d.0 d.1 d.2 d.3;
  gone = λ k ns e. inl (same k ∙ e);
  unnamed = λ k e. same k ∙ e;
  closed = λ d h o k i. elim o [
    | inl e ↦ inl (subst (λ v. is_in k v ≡ true) (sym w) (first_names_have ss d k h e i))
    | inr e ↦ let has = has_entry ss d h in let both : Some has.0 ≡ None = sym has.1 ∙ sym (same d.name) ∙ e in cc
  ];
}

some_none : {A B : Type 0} {x : A} {o : Option A} → o ≡ Some x → o ≡ None → B
some_none e f = cc

-- an entry is there, or is not
entry_cases : {A : Type 0} (o : Option A) → ((x : A) × (o ≡ Some x)) ⊎ (o ≡ None)
entry_cases None = inr refl
entry_cases (Some x) = inl (x, refl)

module _ (ss : List Node) (reached names rest : List (List ℕ)) (left after : NamesByName) (h : AreLeft ss reached left) (t : TakesOne reached left names rest after) where
  taken_same : (k : List ℕ) → bytes_eq t.name k ≡ true → after k ≡ None
  taken_same k e = t.taken k ∙ ap (λ b. cond b None (left k)) e

  taken_other : (k : List ℕ) → bytes_eq t.name k ≡ false → after k ≡ left k
  taken_other k e = t.taken k ∙ ap (λ b. cond b None (left k)) e

  still_none : (k : List ℕ) → left k ≡ None → after k ≡ None
  still_none k e = elim (cases_Bool (bytes_eq t.name k)) [ inl b ↦ taken_same k b | inr b ↦ taken_other k b ∙ e ]

  -- the names that were taken are those of the entry
  names_are : (ns : List (List ℕ)) → entry ss t.name ≡ Some ns → ns ≡ names
  names_are ns e = elim (h.gone t.name ns e) [
    | inl is ↦ let both : Some ns ≡ Some names = sym is ∙ t.had in cc
    | inr is ↦ some_none t.had is.0
  ]

  name_reached : IsReached ss t.name
  name_reached = h.sound t.name t.was_reached

  new_reached : (k : List ℕ) → is_in k names ≡ true → IsReached ss k
  new_reached k i = elim (entry_cases (entry ss t.name)) [
    | inl e ↦
        let same = names_are e.0 e.1 in
        let d = from_entry ss t.name k e.0 e.1 (subst (λ v. is_in k v ≡ true) (sym same) i) in
        by_reached d.0 d.1 (subst (λ v. IsReached ss v) (sym d.2) name_reached) d.3
    | inr e ↦ some_none t.had (h.unnamed t.name e)
  ]

  still_closed : (k : List ℕ) → (is_in k reached ≡ true) ⊎ (left k ≡ None) → (is_in k (rest ++ names) ≡ true) ⊎ (after k ≡ None)
  still_closed k (inr e) = inr (still_none k e)
  still_closed k (inl i) = elim (t.enough k i) [ inl r ↦ inl (in_left k rest names r) | inr e ↦ inr e ]

  closed_by : (d : Node) → IsNodeIn ss d → (d.is_first ≡ true) ⊎ (after d.name ≡ None) → (k : List ℕ) → is_in k d.names ≡ true → (is_in k (rest ++ names) ≡ true) ⊎ (after k ≡ None)
  closed_by d in_it (inl e) k i = still_closed k (h.closed d in_it (inl e) k i)
  closed_by d in_it (inr e) k i = elim (cases_Bool (bytes_eq t.name d.name)) [
    | inl b ↦
        let has = has_entry ss d in_it in
        let same = names_are has.0 (ap (entry ss) (bytes_same t.name d.name b) ∙ has.1) in
        inl (in_right k rest names (subst (λ v. is_in k v ≡ true) same (has.2 k i)))
    | inr b ↦ still_closed k (h.closed d in_it (inr (sym (taken_other d.name b) ∙ e)) k i)
  ]

  gone_by : (k : List ℕ) (ns : List (List ℕ)) → entry ss k ≡ Some ns → (after k ≡ Some ns) ⊎ ((after k ≡ None) × IsReached ss k)
  gone_by k ns e = elim (cases_Bool (bytes_eq t.name k)) [
    | inl b ↦ inr (taken_same k b, subst (IsReached ss) (bytes_same t.name k b) name_reached)
    | inr b ↦ elim (h.gone k ns e) [ inl is ↦ inl (taken_other k b ∙ is) | inr is ↦ inr (taken_other k b ∙ is.0, is.1) ]
  ]

  pub one_taken : AreLeft ss (rest ++ names) after
  one_taken = record {
    sound = λ k i. elim (in_either k rest names i) [ inl r ↦ h.sound k (t.fewer k r) | inr n ↦ new_reached k n ];
    gone = gone_by;
    unnamed = λ k e. still_none k (h.unnamed k e);
    closed = closed_by;
  }

-- ---- where no more can be taken out
module _ (ss : List Node) (reached : List (List ℕ)) (left : NamesByName) (h : AreLeft ss reached left) (none : (k : List ℕ) → is_in k reached ≡ true → left k ≡ None) where
  left_none : (k : List ℕ) → (is_in k reached ≡ true) ⊎ (left k ≡ None) → left k ≡ None
  left_none k (inl i) = none k i
  left_none k (inr e) = e

  reached_gone : {k : List ℕ} → IsReached ss k → left k ≡ None
  reached_gone {k = k} (by_first d in_it e i) = left_none k (h.closed d in_it (inl e) k i)
  reached_gone {k = k} (by_reached d in_it w i) = left_none k (h.closed d in_it (inr (reached_gone w)) k i)

  gone_reached : (d : Node) → IsNodeIn ss d → left d.name ≡ None → IsReached ss d.name
  gone_reached d in_it e =
      let has = has_entry ss d in_it in
      elim (h.gone d.name has.0 has.1) [ inl is ↦ some_none is e | inr is ↦ is.1 ]

  pub all_taken : (after : NamesByName) → AreSame after left → AreUnreached ss after
  all_taken after same d in_it = (λ e. gone_reached d in_it (sym (same d.name) ∙ e), λ w. same d.name ∙ reached_gone w)

-- ---- one name taken
module _ (w rest : List (List ℕ)) (name : List ℕ) (i : ℕ) (by after : NamesByName) (within : i < length w) (is : name ≡ get_or w i name) (left : rest ≡ remove w i) (taken : (k : List ℕ) → after k ≡ update bytes_eq by name None k) where
  taken_at : after name ≡ None
  taken_at = taken name ∙ ap (λ b. cond b None (by name)) (bytes_itself name)

  stays_none : (k : List ℕ) → by k ≡ None → after k ≡ None
  stays_none k e = elim (cases_Bool (bytes_eq name k)) [
    | inl b ↦ taken k ∙ ap (λ v. cond v None (by k)) b
    | inr b ↦ taken k ∙ ap (λ v. cond v None (by k)) b ∙ e
  ]

  name_in : is_in name w ≡ true
  name_in = subst (λ v. is_in v w ≡ true) (sym is) (item_in w i name within)

  rest_in : (k : List ℕ) → is_in k rest ≡ true → is_in k w ≡ true
  rest_in k h = was_in k w i (subst (λ v. is_in k v ≡ true) left h)

  in_rest : (k : List ℕ) → is_in k w ≡ true → (k ≡ name) ⊎ (is_in k rest ≡ true)
  in_rest k h = elim (still_in k w i name within h) [ inl e ↦ inl (e ∙ sym is) | inr r ↦ inr (subst (λ v. is_in k v ≡ true) (sym left) r) ]

  module _ (reached : List (List ℕ)) (before : NamesByName) (same : AreSame by before) (fewer : (k : List ℕ) → is_in k w ≡ true → is_in k reached ≡ true)
      (enough : (k : List ℕ) → is_in k reached ≡ true → (is_in k w ≡ true) ⊎ (before k ≡ None)) where
    pub takes_one : (names : List (List ℕ)) → by name ≡ Some names → TakesOne reached before names rest after
    takes_one names had = record {
      name = name;
      was_reached = fewer name name_in;
      had = sym (same name) ∙ had;
      taken = λ k. taken k ∙ ap (λ v. cond (bytes_eq name k) None v) (same k);
      fewer = λ k h. fewer k (rest_in k h);
      enough = λ k h. elim (enough k h) [
        | inr e ↦ inr (stays_none k (same k ∙ e))
        | inl h ↦ elim (in_rest k h) [ inl e ↦ inr (ap after e ∙ taken_at) | inr r ↦ inl r ]
      ];
    }

    module _ (none : by name ≡ None) where
      pub none_taken : AreSame after before
      none_taken k = elim (cases_Bool (bytes_eq name k)) [
        | inl b ↦ taken k ∙ ap (λ v. cond v None (by k)) b ∙ sym (ap by (sym (bytes_same name k b)) ∙ none) ∙ same k
        | inr b ↦ taken k ∙ ap (λ v. cond v None (by k)) b ∙ same k
      ]

      pub none_fewer : (k : List ℕ) → is_in k rest ≡ true → is_in k reached ≡ true
      none_fewer k h = fewer k (rest_in k h)

      pub none_enough : (k : List ℕ) → is_in k reached ≡ true → (is_in k rest ≡ true) ⊎ (before k ≡ None)
      none_enough k h = elim (enough k h) [
        | inr e ↦ inr e
        | inl h ↦ elim (in_rest k h) [ inl e ↦ inr (sym (same k) ∙ ap by e ∙ none) | inr r ↦ inl r ]
      ]

-- ---- the names that one node more names
pub names_found : (o : Option (List (List ℕ))) (names : List (List ℕ)) → o ≡ Some names → names ≡ unwrap_or o []
names_found None names e = cc
names_found (Some ns) names e = cc

pub names_new : (o : Option (List (List ℕ))) → o ≡ None → [] ≡ unwrap_or o []
names_new None e = refl
names_new (Some ns) e = cc

pub names_added : (n : Node) (old left new : NamesByName) (names value : List (List ℕ)) → names ≡ unwrap_or (old n.name) [] → value ≡ names ++ n.names
    → ((k : List ℕ) → left k ≡ update bytes_eq old n.name None k) → ((k : List ℕ) → new k ≡ update bytes_eq left n.name (Some value) k) → (k : List ℕ) → new k ≡ with_names n old k
names_added n old left new names value is_old v taken put k =
    let is : value ≡ unwrap_or (old n.name) [] ++ n.names = v ∙ ap (λ ns. ns ++ n.names) is_old in
    elim (cases_Bool (bytes_eq n.name k)) [
      | inl b ↦ put k ∙ ap (λ t. cond t (Some value) (left k)) b ∙ ap (λ ns. Some ns) is ∙ sym (ap (λ t. cond t (Some (unwrap_or (old n.name) [] ++ n.names)) (old k)) b)
      | inr b ↦ put k ∙ ap (λ t. cond t (Some value) (left k)) b ∙ taken k ∙ ap (λ t. cond t None (old k)) b ∙ sym (ap (λ t. cond t (Some (unwrap_or (old n.name) [] ++ n.names)) (old k)) b)
    ]
