-- What has no fault is resolved.
use Rattle.std.proofs.Common.{◌≡◌, ◌⊎◌, inl, inr, List, [], ◌∷◌, ◌++◌, Bool, true, false, IsTrue, IsSome, is_some, leb, leb-true, le-leb, Option, Some, None, option_map, option_and_then, cond, refl, ap, ◌∙◌}
use Rattle.std.proofs.lemmas.Bool.{cases_lt, false_from_ne_true, false≢true}
use Rattle.std.proofs.lemmas.Option.{same_Some}
use Rattle.texts.specs.declared.span.Span.{Span}
use Rattle.written_types.specs.declared.written.Ident.{Ident}
use Rattle.written_types.specs.Written.{Written, Writtens, WrittenPath, Segments, Segment, Arguments, path, reference, tuple, slice, array, trait_object, no_types, more_types, path_of, no_segments, more_segments, plain, applied, no_arguments, more_arguments, lifetime_argument, constant_argument, type_argument}
use Rattle.open_types.specs.declared.open_type.ListHead.TheVariants as lists
use Rattle.open_types.specs.Open.{Open, Opens}
use Rattle.open_types.specs.Open as types
use Rattle.resolving.specs.Known.{Known}
use Rattle.resolving.specs.declared.meaning.Meaning.TheVariants as meanings
use Rattle.resolving.specs.Names.{types_of, ident_of, arguments_of, nameless, where_none, names_in, names_in_path, names_in_last, names_in_segment, names_in_arguments, names_in_types, size, span_of, meaning, is_constant_type}
use Rattle.resolving.specs.Resolved.{meant, tuple_of, type_of, path_type, last_type, segment_type, argument_types, all_types, fitting_type, Fault, unknown_type, wrong_arity, bad_argument, too_large, most_names, are_wrong, IsFaultIn, ResolutionIsExact}
use Rattle.texts.specs.Lists.{Somewhere}
use Rattle.resolving.specs.Reading.{segment_arguments}
use Rattle.resolving.specs.Bad.{are_bad}
use Rattle.resolving.specs.Aliases.{expanded_type}
use Rattle.resolving.proofs.Counted.{somewhere-left, somewhere-right}
use Rattle.resolving.proofs.Stands.{stand-segment, wrong}
use Rattle.resolving.proofs.Whole.{Bad, no_fault}

module _ (p : Known) where
  -- no name of these is at fault
  abbrev Clear : List Segment → Type 0
  Clear ss = Somewhere (Bad p) ss → ⊥

  abbrev Stands : Option Open → Type 0
  Stands o = (u : Open) × (o ≡ Some u)

  abbrev AllStand : Option Opens → Type 0
  AllStand o = (us : Opens) × (o ≡ Some us)

  segment_is : (s : Segment) (ts : Opens) (u : Open) → segment_arguments p s ≡ Some ts → meant p (meaning p s) ts ≡ Some u → are_bad p s ≡ false → segment_type p s ≡ Some u
  segment_is (plain x) ts u e is good = ap (meant p (meaning p (plain x))) (same_Some types.no_types ts e) ∙ is
  segment_is (applied x args) ts u e is good =
      ap (λ b. cond b None (option_and_then (meant p (meaning p (applied x args))) (argument_types p args))) good ∙ ap (option_and_then (meant p (meaning p (applied x args)))) e ∙ is

  -- a name that is not at fault stands for something with its arguments
  own : (s : Segment) (ts : Opens) → segment_arguments p s ≡ Some ts → (Bad p s → ⊥) → Stands (segment_type p s)
  own s ts e good = by (meant p (meaning p s) ts) refl
    where
      by : (o : Option Open) → meant p (meaning p s) ts ≡ o → Stands (segment_type p s)
      by (Some u) is = (u, segment_is s ts u e is (false_from_ne_true (are_bad p s) (λ bad. good (inr (inr bad)))))
      by None is = absurd (good (inr (inl (wrong p (meaning p s) (types_of p (arguments_of s)) ts (stand-segment p s ts e) is (λ unknown. good (inl unknown))))))

  -- the last of these segments, where there is one, stands for something
  abbrev LastStands : Segments → Type 0
  LastStands no_segments = Unit {0}
  LastStands (more_segments s rest) = Stands (last_type p (more_segments s rest))

  last_cases : (s : Segment) (rest : Segments) → Clear (where_none rest (s ∷ names_in_segment p s) (names_in_last p rest)) → (Clear (names_in_last p rest) → LastStands rest) → (Clear (s ∷ names_in_segment p s) → Stands (segment_type p s)) →
      Stands (where_none rest (segment_type p s) (last_type p rest))
  last_cases s no_segments clear later inner = inner clear
  last_cases s (more_segments t ts) clear later inner = later clear

  path_cases : (ss : Segments) (s : Span) → Clear (where_none ss (nameless s ∷ []) (names_in_last p ss)) → (Clear (names_in_last p ss) → LastStands ss) →
      Stands (where_none ss (meant p (meaning p (nameless s)) types.no_types) (last_type p ss))
  path_cases no_segments s clear later = own (nameless s) types.no_types refl (λ bad. clear (inl bad))
  path_cases (more_segments t ts) s clear later = later clear

  first_and_rest : (w : Written) (names : List Segment) (r : Option Opens) → Clear (names_in p w ++ names) → (Clear (names_in p w) → Stands (type_of p w)) → (Clear names → AllStand r) →
      AllStand (option_and_then (λ u. option_map (types.more_types u) r) (type_of p w))
  first_and_rest w names r clear first rest =
      let t = first (λ h. clear (somewhere-left (Bad p) (names_in p w) names h)) in
      let ts = rest (λ h. clear (somewhere-right (Bad p) (names_in p w) names h)) in
      (types.more_types t.0 ts.0, λ i. option_and_then (λ u. option_map (types.more_types u) (ts.1 i)) (t.1 i))

  constant_or : (b : Bool) (w : Written) (names : List Segment) (r : Option Opens) → Clear (cond b [] (names_in p w) ++ names) → (Clear (names_in p w) → Stands (type_of p w)) → (Clear names → AllStand r) →
      AllStand (cond b r (option_and_then (λ u. option_map (types.more_types u) r) (type_of p w)))
  constant_or true w names r clear first rest = rest clear
  constant_or false w names r clear first rest = first_and_rest w names r clear first rest

  mutual
    pub type_stands : (w : Written) → Clear (names_in p w) → Stands (type_of p w)
    type_stands (path q) clear = path_stands q clear
    type_stands (reference w) clear = type_stands w clear
    type_stands (tuple ws s) clear = let found = types_stand ws clear in (tuple_of found.0, ap (option_map tuple_of) found.1)
    type_stands (slice w s) clear = let found = type_stands w clear in (types.items lists.Array found.0, ap (option_map (types.items lists.Array)) found.1)
    type_stands (array w s) clear = let found = type_stands w clear in (types.items lists.Array found.0, ap (option_map (types.items lists.Array)) found.1)
    type_stands (trait_object q s) clear = path_stands q clear

    path_stands : (q : WrittenPath) → Clear (names_in_path p q) → Stands (path_type p q)
    path_stands (path_of leading ss s) clear = path_cases ss s clear (last_stands ss)

    last_stands : (ss : Segments) → Clear (names_in_last p ss) → LastStands ss
    last_stands no_segments clear = tt
    last_stands (more_segments s rest) clear = last_cases s rest clear (last_stands rest) (segment_stands s)

    segment_stands : (s : Segment) → Clear (s ∷ names_in_segment p s) → Stands (segment_type p s)
    segment_stands (plain x) clear = own (plain x) types.no_types refl (λ bad. clear (inl bad))
    segment_stands (applied x args) clear = let found = arguments_stand args (λ h. clear (inr h)) in own (applied x args) found.0 found.1 (λ bad. clear (inl bad))

    arguments_stand : (args : Arguments) → Clear (names_in_arguments p args) → AllStand (argument_types p args)
    arguments_stand no_arguments clear = (types.no_types, refl)
    arguments_stand (more_arguments (lifetime_argument x) rest) clear = arguments_stand rest clear
    arguments_stand (more_arguments (constant_argument c) rest) clear = arguments_stand rest clear
    arguments_stand (more_arguments (type_argument w) rest) clear = constant_or (is_constant_type p w) w (names_in_arguments p rest) (argument_types p rest) clear (type_stands w) (arguments_stand rest)

    types_stand : (ws : Writtens) → Clear (names_in_types p ws) → AllStand (all_types p ws)
    types_stand no_types clear = (types.no_types, refl)
    types_stand (more_types w ws) clear = first_and_rest w (names_in_types p ws) (all_types p ws) clear (type_stands w) (types_stand ws)

  -- ---- a name at fault is a fault of the type

  abbrev HaveFault : List Segment → Type 0
  HaveFault ss =
      ((x : Ident) × Somewhere (λ s. (x ≡ ident_of s) × (meaning p s ≡ meanings.Unknown)) ss)
      ⊎ ((x : Ident) × Somewhere (λ s. (x ≡ ident_of s) × IsTrue (are_wrong p (meaning p s) (types_of p (arguments_of s)))) ss)
      ⊎ ((x : Ident) × Somewhere (λ s. (x ≡ ident_of s) × IsTrue (are_bad p s)) ss)

  fault_among : (ss : List Segment) → Somewhere (Bad p) ss → HaveFault ss
  fault_among [] h = absurd h
  fault_among (s ∷ ss) (inl (inl unknown)) = inl (ident_of s, inl (refl, unknown))
  fault_among (s ∷ ss) (inl (inr (inl many))) = inr (inl (ident_of s, inl (refl, many)))
  fault_among (s ∷ ss) (inl (inr (inr bad))) = inr (inr (ident_of s, inl (refl, bad)))
  fault_among (s ∷ ss) (inr h) = elim (fault_among ss h) [ inl f ↦ inl (f.0, inr f.1) | inr (inl f) ↦ inr (inl (f.0, inr f.1)) | inr (inr f) ↦ inr (inr (f.0, inr f.1)) ]

  abbrev HasNoFault : Written → Type 0
  HasNoFault w = (fault : Fault) → IsFaultIn p w fault → ⊥

  names_clear : (w : Written) → HasNoFault w → Clear (names_in p w)
  names_clear w none h = elim (fault_among (names_in p w) h) [ inl f ↦ none (unknown_type f.0) f.1 | inr (inl f) ↦ none (wrong_arity f.0) f.1 | inr (inr f) ↦ none (bad_argument f.0) f.1 ]

  small : (w : Written) → HasNoFault w → leb (size p w) most_names ≡ true
  small w none = elim (cases_lt most_names (size p w)) [ inl large ↦ absurd (none (too_large (span_of w)) (refl, large)) | inr few ↦ le-leb (size p w) most_names few ]

  resolved : (w : Written) → HasNoFault w → IsSome (fitting_type p w)
  resolved w none = (λ i. is_some (cond (small w none i) ((type_stands w (names_clear w none)).1 i) None))

  faultless : (w : Written) → IsSome (fitting_type p w) → HasNoFault w
  faultless w some = by (leb (size p w) most_names) (type_of p w) refl refl some
    where
      by : (b : Bool) (o : Option Open) → leb (size p w) most_names ≡ b → type_of p w ≡ o → is_some (cond b o None) ≡ true → HasNoFault w
      by true (Some u) few is h = no_fault p w u is (leb-true (size p w) most_names few)
      by true None few is h = absurd (false≢true h)
      by false o few is h = absurd (false≢true h)

pub exact : ResolutionIsExact
exact p t = (faultless p (expanded_type p t), resolved p (expanded_type p t))
