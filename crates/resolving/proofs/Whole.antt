-- What stands for a type has no name at fault.
use Rattle.std.proofs.Common.{◌≡◌, ◌⊎◌, inl, inr, List, [], ◌∷◌, ◌++◌, IsTrue, Option, Some, None, option_map, option_and_then, Result, Ok, Err, IfErr, refl, ap, sym, ◌∙◌, arith, ◌≤◌, Bool, true, false, cond}
use Rattle.std.proofs.lemmas.Option.{none-some}
use Rattle.std.proofs.lemmas.Bool.{false≢true}
use Rattle.diag.specs.declared.error.DeriveError.{DeriveError}
use Rattle.diag.specs.declared.error.DeriveError.TheVariants as errors
use Rattle.texts.specs.declared.span.Span.{Span}
use Rattle.written_types.specs.declared.written.Ident.{Ident}
use Rattle.written_types.specs.Written.{Written, Writtens, WrittenPath, Segments, Segment, Arguments, path, reference, tuple, slice, array, trait_object, no_types, more_types, path_of, no_segments, more_segments, plain, applied, no_arguments, more_arguments, lifetime_argument, constant_argument, type_argument}
use Rattle.open_types.specs.declared.open_type.ListHead.TheVariants as lists
use Rattle.open_types.specs.Open.{Open, Opens}
use Rattle.open_types.specs.Open as types
use Rattle.resolving.specs.Known.{Known}
use Rattle.resolving.specs.declared.meaning.Meaning.TheVariants as meanings
use Rattle.resolving.specs.Names.{types_of, ident_of, arguments_of, nameless, where_none, names_in, names_in_path, names_in_last, names_in_segment, names_in_arguments, names_in_types, size, meaning, is_constant_type}
use Rattle.resolving.specs.Resolved.{meant, tuple_of, type_of, path_type, last_type, segment_type, argument_types, all_types, Fault, unknown_type, wrong_arity, too_large, most_names, are_wrong, IsFaultIn, IsRefusedFor, bad_argument}
use Rattle.texts.specs.Lists.{Somewhere}
use Rattle.texts.proofs.Laws.{mapped, and_then}
use Rattle.resolving.specs.Reading.{segment_arguments, IsAtFault, AreAtFault}
use Rattle.resolving.proofs.Counted.{somewhere-parts}
use Rattle.resolving.proofs.Stands.{stand-segment}
use Rattle.resolving.proofs.Right.{right, not_bad}
use Rattle.resolving.specs.Bad.{are_bad}

module _ (p : Known) where
  -- the segment's name is at fault
  abbrev pub Bad : Segment → Type 0
  Bad s = (meaning p s ≡ meanings.Unknown) ⊎ IsTrue (are_wrong p (meaning p s) (types_of p (arguments_of s))) ⊎ IsTrue (are_bad p s)

  -- a segment stands for what its name means with its arguments
  with_arguments : (s : Segment) (u : Open) → segment_type p s ≡ Some u → (ts : Opens) × (segment_arguments p s ≡ Some ts) × (meant p (meaning p s) ts ≡ Some u) × (are_bad p s ≡ false)
  with_arguments (plain x) u e = (types.no_types, refl, e, refl)
  with_arguments (applied x args) u e =
      let good = not_bad (are_bad p (applied x args)) (option_and_then (meant p (meaning p (applied x args))) (argument_types p args)) u e in
      let found = and_then (meant p (meaning p (applied x args))) (argument_types p args) u good.1 in
      (found.0, found.1, found.2, good.0)

  own : (s : Segment) (u : Open) → segment_type p s ≡ Some u → Bad s → ⊥
  own s u e (inl unknown) = let w = with_arguments s u e in none-some u (sym (ap (λ m. meant p m w.0) unknown) ∙ w.2)
  own s u e (inr (inr bad)) = let w = with_arguments s u e in false≢true (sym w.3 ∙ bad)
  own s u e (inr (inl wrong)) =
      let w = with_arguments s u e in
      false≢true (sym (right p (meaning p s) (types_of p (arguments_of s)) w.0 u (stand-segment p s w.0 w.1) w.2) ∙ wrong)

  last_cases : (s : Segment) (rest : Segments) (u : Open) → where_none rest (segment_type p s) (last_type p rest) ≡ Some u → Somewhere Bad (where_none rest (s ∷ names_in_segment p s) (names_in_last p rest)) →
      (last_type p rest ≡ Some u → Somewhere Bad (names_in_last p rest) → ⊥) → (segment_type p s ≡ Some u → Somewhere Bad (names_in_segment p s) → ⊥) → ⊥
  last_cases s no_segments u e (inl h) later inner = own s u e h
  last_cases s no_segments u e (inr h) later inner = inner e h
  last_cases s (more_segments t ts) u e h later inner = later e h

  path_cases : (ss : Segments) (s : Span) (u : Open) → where_none ss (meant p (meaning p (nameless s)) types.no_types) (last_type p ss) ≡ Some u → Somewhere Bad (where_none ss (nameless s ∷ []) (names_in_last p ss)) →
      (last_type p ss ≡ Some u → Somewhere Bad (names_in_last p ss) → ⊥) → ⊥
  path_cases no_segments s u e (inl h) later = own (nameless s) u e h
  path_cases no_segments s u e (inr h) later = absurd h
  path_cases (more_segments t ts) s u e h later = later e h

  both : (o : Option Open) (r : Option Opens) (ts : Opens) → option_and_then (λ u. option_map (types.more_types u) r) o ≡ Some ts → (u : Open) × (us : Opens) × (o ≡ Some u) × (r ≡ Some us)
  both None r ts e = absurd (none-some ts e)
  both (Some u) None ts e = absurd (none-some ts e)
  both (Some u) (Some us) ts e = (u, us, refl, refl)

  first_or_rest : (w : Written) (names : List Segment) (r : Option Opens) (ts : Opens) → option_and_then (λ u. option_map (types.more_types u) r) (type_of p w) ≡ Some ts →
      ((u : Open) → type_of p w ≡ Some u → Somewhere Bad (names_in p w) → ⊥) → ((us : Opens) → r ≡ Some us → Somewhere Bad names → ⊥) → Somewhere Bad (names_in p w ++ names) → ⊥
  first_or_rest w names r ts e first rest h =
      let b = both (type_of p w) r ts e in
      elim (somewhere-parts Bad (names_in p w) names h) [ inl l ↦ first b.0 b.2 l | inr k ↦ rest b.1 b.3 k ]

  constant_or : (b : Bool) (w : Written) (names : List Segment) (r : Option Opens) (ts : Opens) → cond b r (option_and_then (λ u. option_map (types.more_types u) r) (type_of p w)) ≡ Some ts →
      ((u : Open) → type_of p w ≡ Some u → Somewhere Bad (names_in p w) → ⊥) → ((us : Opens) → r ≡ Some us → Somewhere Bad names → ⊥) → Somewhere Bad (cond b [] (names_in p w) ++ names) → ⊥
  constant_or true w names r ts e first rest h = rest ts e h
  constant_or false w names r ts e first rest h = first_or_rest w names r ts e first rest h

  mutual
    pub clear_type : (w : Written) (u : Open) → type_of p w ≡ Some u → Somewhere Bad (names_in p w) → ⊥
    clear_type (path q) u e h = clear_path q u e h
    clear_type (reference w) u e h = clear_type w u e h
    clear_type (tuple ws s) u e h = let m = mapped tuple_of (all_types p ws) u e in clear_types ws m.0 m.1 h
    clear_type (slice w s) u e h = let m = mapped (types.items lists.Array) (type_of p w) u e in clear_type w m.0 m.1 h
    clear_type (array w s) u e h = let m = mapped (types.items lists.Array) (type_of p w) u e in clear_type w m.0 m.1 h
    clear_type (trait_object q s) u e h = clear_path q u e h

    clear_path : (q : WrittenPath) (u : Open) → path_type p q ≡ Some u → Somewhere Bad (names_in_path p q) → ⊥
    clear_path (path_of leading ss s) u e h = path_cases ss s u e h (clear_last ss u)

    clear_last : (ss : Segments) (u : Open) → last_type p ss ≡ Some u → Somewhere Bad (names_in_last p ss) → ⊥
    clear_last no_segments u e h = absurd h
    clear_last (more_segments s rest) u e h = last_cases s rest u e h (clear_last rest u) (clear_segment s u)

    clear_segment : (s : Segment) (u : Open) → segment_type p s ≡ Some u → Somewhere Bad (names_in_segment p s) → ⊥
    clear_segment (plain x) u e h = absurd h
    clear_segment (applied x args) u e h = let found = with_arguments (applied x args) u e in clear_arguments args found.0 found.1 h

    clear_arguments : (args : Arguments) (ts : Opens) → argument_types p args ≡ Some ts → Somewhere Bad (names_in_arguments p args) → ⊥
    clear_arguments no_arguments ts e h = absurd h
    clear_arguments (more_arguments (lifetime_argument x) rest) ts e h = clear_arguments rest ts e h
    clear_arguments (more_arguments (constant_argument c) rest) ts e h = clear_arguments rest ts e h
    clear_arguments (more_arguments (type_argument w) rest) ts e h = constant_or (is_constant_type p w) w (names_in_arguments p rest) (argument_types p rest) ts e (clear_type w) (clear_arguments rest) h

    clear_types : (ws : Writtens) (ts : Opens) → all_types p ws ≡ Some ts → Somewhere Bad (names_in_types p ws) → ⊥
    clear_types no_types ts e h = absurd h
    clear_types (more_types w ws) ts e h = first_or_rest w (names_in_types p ws) (all_types p ws) ts e (clear_type w) (clear_types ws) h

somewhere-map : {A : Type 0} (P Q : A → Type 0) → ((x : A) → P x → Q x) → (xs : List A) → Somewhere P xs → Somewhere Q xs
somewhere-map P Q f [] h = absurd h
somewhere-map P Q f (x ∷ xs) (inl h) = inl (f x h)
somewhere-map P Q f (x ∷ xs) (inr h) = inr (somewhere-map P Q f xs h)

pub no_fault : (p : Known) (w : Written) (u : Open) → type_of p w ≡ Some u → size p w ≤ most_names → (fault : Fault) → ¬ (IsFaultIn p w fault)
no_fault p w u e l (unknown_type x) h = clear_type p w u e (somewhere-map _ (Bad p) (λ s f. inl f.1) (names_in p w) h)
no_fault p w u e l (wrong_arity x) h = clear_type p w u e (somewhere-map _ (Bad p) (λ s f. inr (inl f.1)) (names_in p w) h)
no_fault p w u e l (bad_argument x) h = clear_type p w u e (somewhere-map _ (Bad p) (λ s f. inr (inr f.1)) (names_in p w) h)
no_fault p w u e l (too_large s) h = let large = h.1 in absurd (omega arith)

-- ---- the fault of a name is one of the type

abbrev Found : Known → DeriveError → List Segment → Type 0
Found p e ss =
    ((x : Ident) × Somewhere (λ s. (x ≡ ident_of s) × (meaning p s ≡ meanings.Unknown)) ss × IsRefusedFor (unknown_type x) e)
    ⊎ ((x : Ident) × Somewhere (λ s. (x ≡ ident_of s) × IsTrue (are_wrong p (meaning p s) (types_of p (arguments_of s)))) ss × IsRefusedFor (wrong_arity x) e)
    ⊎ ((x : Ident) × Somewhere (λ s. (x ≡ ident_of s) × IsTrue (are_bad p s)) ss × IsRefusedFor (bad_argument x) e)

pub fault_of : (p : Known) (w : Written) (e : DeriveError) → AreAtFault p (names_in p w) e → (fault : Fault) × IsFaultIn p w fault × IsRefusedFor fault e
fault_of p w e h = elim (among (names_in p w) h) [ inl f ↦ (unknown_type f.0, f.1, f.2) | inr (inl f) ↦ (wrong_arity f.0, f.1, f.2) | inr (inr f) ↦ (bad_argument f.0, f.1, f.2) ]
  where
    among : (ss : List Segment) → Somewhere (λ s. IsAtFault p s e) ss → Found p e ss
    among [] k = absurd k
    among (s ∷ ss) (inl (inl f)) = inl (ident_of s, inl (refl, f.0), f.1)
    among (s ∷ ss) (inl (inr (inl f))) = inr (inl (ident_of s, inl (refl, f.0), f.1))
    among (s ∷ ss) (inl (inr (inr f))) = inr (inr (ident_of s, inl (refl, f.0), f.1))
    among (s ∷ ss) (inr k) = elim (among ss k) [ inl f ↦ inl (f.0, inr f.1, f.2) | inr (inl f) ↦ inr (inl (f.0, inr f.1, f.2)) | inr (inr f) ↦ inr (inr (f.0, inr f.1, f.2)) ]

pub fault_of-error : {T : Type 0} (p : Known) (w : Written) (r : Result T DeriveError) → IfErr r (λ e. (e ≡ errors.Memory) ⊎ AreAtFault p (names_in p w) e)
    → IfErr r (λ e. (e ≡ errors.Memory) ⊎ ((fault : Fault) × IsFaultIn p w fault × IsRefusedFor fault e))
fault_of-error p w (Ok t) h = tt
fault_of-error p w (Err e) h = by h
  where
    by : (e ≡ errors.Memory) ⊎ AreAtFault p (names_in p w) e → (e ≡ errors.Memory) ⊎ ((fault : Fault) × IsFaultIn p w fault × IsRefusedFor fault e)
    by (inl memory) = inl memory
    by (inr fault) = inr (fault_of p w e fault)
