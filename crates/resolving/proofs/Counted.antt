-- Type arguments by their number, and names in lists of types.
use Rattle.std.proofs.Common.{◌≡◌, ◌≢◌, ◌<◌, ◌≤◌, ◌+◌, ◌⊎◌, inl, inr, ℕ, zero, suc, List, [], ◌∷◌, ◌++◌, Option, Some, None, option_map, option_and_then, map, length, get_or, slice_index_or, ◌-◌, drop, refl, ap, sym, subst, ◌∙◌, arith, add-one, drop-cons, rules, false, ◌==◌, true, cond}
use Rattle.std.proofs.lemmas.List.{drop_all}
use Rattle.std.proofs.lemmas.Bool.{false≢true}
use Rattle.written_types.specs.declared.written.WrittenType.{WrittenType}
use Rattle.written_types.specs.declared.written.GenericArgument.{GenericArgument, the_lemmas as argument_lemmas}
use Rattle.written_types.specs.declared.written.GenericArgument.TheVariants as arguments
use Rattle.written_types.specs.declared.written.PathSegment.{PathSegment, the_lemmas as segment_lemmas}
use Rattle.written_types.specs.declared.written.Ident.{Ident}
use Rattle.written_types.specs.declared.written.Path.{Path, out-Path}
use Rattle.tokens.specs.declared.token.TokenTree.{TokenTree}
use Rattle.tokens.specs.Trees.{trees_view}
use Rattle.texts.specs.declared.list.List.{List as Tokens}
use Rattle.written_types.specs.Written.{segment_of, Segment, Segments, Argument, more_types, more_arguments, path_view, no_segments, more_segments, lifetime_argument, constant_argument, type_argument, written_view, segment_view, segments_view, argument_view, arguments_view, writtens_view}
use Rattle.written_types.proofs.Laws.{path_view_is}
use Rattle.open_types.specs.declared.open_type.OpenType.{OpenType, the_lemmas}
use Rattle.open_types.specs.declared.open_type.OpenType.TheVariants as variants
use Rattle.open_types.specs.Open.{Open, Opens, tuple, open_view, opens_view}
use Rattle.open_types.specs.Open as types
use Rattle.open_types.specs.declared.head.Head.{Head}
use Rattle.open_types.proofs.Laws.{append, push_views, append_none}
use Rattle.resolving.specs.Known.{Known}
use Rattle.resolving.specs.Names.{ident_of, nameless, where_none, meaning, path_size, names_in_path, names_in, names_in_arguments, names_in_argument, names_in_types, names_in_last, names_in_segment, last_size, segment_size, is_constant_type}
use Rattle.resolving.specs.Resolved.{contained, alone, own_type, meant, tuple_of, type_of, path_type, segment_type, last_type, argument_types, argument_type, all_types}
use Rattle.texts.specs.Lists.{Somewhere}
use Rattle.resolving.specs.Expanding.{segment_alias_of, with_span, last_alias_of, path_alias_of}
use Rattle.resolving.specs.Bad.{path_holds_bad, last_holds_bad, segment_holds_bad}

-- ---- numbers of type arguments

pub alone-none : (t : Open) (us : List OpenType) → false ≡ (length us == 0) → None ≡ alone t (opens_view us)
alone-none t [] h = absurd (false≢true h)
alone-none t (u ∷ us) h = refl

pub own-none : (p : Known) (d : ℕ) (us : List OpenType) → false ≡ (length us == 0) → None ≡ own_type p d (opens_view us)
own-none p d [] h = absurd (false≢true h)
own-none p d (u ∷ us) h = refl

pub contained-none : (h : Head) (us : List OpenType) → length us ≢ 1 → length us ≢ 2 → None ≡ contained h (opens_view us)
contained-none h [] f g = refl
contained-none h (t ∷ []) f g = absurd (f refl)
contained-none h (k ∷ t ∷ []) f g = absurd (g refl)
contained-none h (k ∷ t ∷ u ∷ us) f g = refl

view-tuple : (us : List OpenType) → open_view (variants.Tuple us) ≡ tuple (opens_view us)
view-tuple us = search (rules, the_lemmas)

not_empty : (us : List OpenType) → us ≢ [] → tuple (opens_view us) ≡ tuple_of (opens_view us)
not_empty [] h = absurd (h refl)
not_empty (u ∷ us) h = refl

pub tuple_of-some : (us : List OpenType) → us ≢ [] → open_view (variants.Tuple us) ≡ tuple_of (opens_view us)
tuple_of-some us h = view-tuple us ∙ not_empty us h

-- ---- names among those of a list

pub somewhere-left : {A : Type 0} (P : A → Type 0) (xs ys : List A) → Somewhere P xs → Somewhere P (xs ++ ys)
somewhere-left P [] ys h = absurd h
somewhere-left P (x ∷ xs) ys (inl h) = inl h
somewhere-left P (x ∷ xs) ys (inr h) = inr (somewhere-left P xs ys h)

pub somewhere-right : {A : Type 0} (P : A → Type 0) (xs ys : List A) → Somewhere P ys → Somewhere P (xs ++ ys)
somewhere-right P [] ys h = h
somewhere-right P (x ∷ xs) ys h = inr (somewhere-right P xs ys h)

pub somewhere-parts : {A : Type 0} (P : A → Type 0) (xs ys : List A) → Somewhere P (xs ++ ys) → Somewhere P xs ⊎ Somewhere P ys
somewhere-parts P [] ys h = inr h
somewhere-parts P (x ∷ xs) ys (inl h) = inl (inl h)
somewhere-parts P (x ∷ xs) ys (inr h) = elim (somewhere-parts P xs ys h) [ inl l ↦ inl (inr l) | inr r ↦ inr r ]

-- ---- the name of a segment

ident-of : (x : Ident) (o : Option (List Argument)) → ident_of (segment_of x o) ≡ x
ident-of x None = refl
ident-of x (Some args) = refl

pub view-segment : (s : PathSegment) → segment_view s ≡ segment_of s.ident (option_map (map (λ (a : GenericArgument). argument_view a)) s.arguments)
view-segment s = search (rules, segment_lemmas)

pub view-ident : (s : PathSegment) → ident_of (segment_view s) ≡ s.ident
view-ident s = ap ident_of (view-segment s) ∙ ident-of s.ident (option_map (map (λ (a : GenericArgument). argument_view a)) s.arguments)

-- ---- types one after another

-- these types, and then those
abbrev pub after : Opens → Option Opens → Option Opens
after ts rest = option_map (append ts) rest

after-one : (made : List OpenType) (u : OpenType) (rest : Option Opens) → after (opens_view made) (option_map (types.more_types (open_view u)) rest) ≡ after (opens_view (made ++ u ∷ [])) rest
after-one made u None = refl
after-one made u (Some us) = ap Some (sym (push_views made u us))

drop-end : (made : List OpenType) → after (opens_view made) (Some types.no_types) ≡ Some (opens_view made)
drop-end made = ap Some (append_none (opens_view made))

-- the first of the rest
types_drop : (ts : List WrittenType) (i : ℕ) (t : WrittenType) → i < length ts → t ≡ get_or ts i t → writtens_view (drop i ts) ≡ more_types (written_view t) (writtens_view (drop (i + 1) ts))
types_drop ts i t h e = rw (add-one, drop-cons ts i t, ← e)

arguments_drop : (xs : List GenericArgument) (i : ℕ) (a : GenericArgument) → i < length xs → a ≡ get_or xs i a → arguments_view (drop i xs) ≡ more_arguments (argument_view a) (arguments_view (drop (i + 1) xs))
arguments_drop xs i a h e = rw (add-one, drop-cons xs i a, ← e)

pub view-type : (t : WrittenType) → argument_view (arguments.Ty t) ≡ type_argument (written_view t)
view-type t = search (rules, argument_lemmas)

pub view-lifetime : (x : Ident) → argument_view (arguments.Lifetime x) ≡ lifetime_argument x
view-lifetime x = search (rules, argument_lemmas)

pub view-constant : (ts : Tokens TokenTree) → argument_view (arguments.Constant ts) ≡ constant_argument (trees_view ts)
view-constant ts = search (rules, argument_lemmas)

module _ (p : Known) where
  -- a turn of the loops over types and over arguments, and where they end
  pub types_turn : (whole : Option Opens) (made : List OpenType) (ts : List WrittenType) (i : ℕ) (t : WrittenType) (u : OpenType) → i < length ts → t ≡ get_or ts i t → type_of p (written_view t) ≡ Some (open_view u)
      → whole ≡ after (opens_view made) (all_types p (writtens_view (drop i ts))) → whole ≡ after (opens_view (made ++ u ∷ [])) (all_types p (writtens_view (drop (i + 1) ts)))
  types_turn whole made ts i t u h e r w =
      w ∙ ap (λ vs. after (opens_view made) (all_types p vs)) (types_drop ts i t h e)
      ∙ ap (λ o. after (opens_view made) (option_and_then (λ v. option_map (types.more_types v) (all_types p (writtens_view (drop (i + 1) ts)))) o)) r
      ∙ after-one made u (all_types p (writtens_view (drop (i + 1) ts)))

  pub types_end : (whole : Option Opens) (made : List OpenType) (ts : List WrittenType) (i : ℕ) → length ts ≤ i → whole ≡ after (opens_view made) (all_types p (writtens_view (drop i ts))) → whole ≡ Some (opens_view made)
  types_end whole made ts i h w = w ∙ ap (λ vs. after (opens_view made) (all_types p (writtens_view vs))) (drop_all i ts h) ∙ drop-end made

  argument_turn : (whole : Option Opens) (made : List OpenType) (xs : List GenericArgument) (i : ℕ) (a : GenericArgument) → i < length xs → a ≡ get_or xs i a
      → whole ≡ after (opens_view made) (argument_types p (arguments_view (drop i xs))) → (b : Argument) → argument_view a ≡ b
      → whole ≡ after (opens_view made) (argument_type p b (argument_types p (arguments_view (drop (i + 1) xs))))
  argument_turn whole made xs i a h e w b v =
      w ∙ ap (λ vs. after (opens_view made) (argument_types p vs)) (arguments_drop xs i a h e) ∙ ap (λ y. after (opens_view made) (argument_type p y (argument_types p (arguments_view (drop (i + 1) xs))))) v

  pub type_turn : (whole : Option Opens) (made : List OpenType) (xs : List GenericArgument) (i : ℕ) (a : GenericArgument) (t : WrittenType) (u : OpenType) → i < length xs → a ≡ get_or xs i a → a ≡ arguments.Ty t
      → is_constant_type p (written_view t) ≡ false → type_of p (written_view t) ≡ Some (open_view u) → whole ≡ after (opens_view made) (argument_types p (arguments_view (drop i xs)))
      → whole ≡ after (opens_view (made ++ u ∷ [])) (argument_types p (arguments_view (drop (i + 1) xs)))
  type_turn whole made xs i a t u h e f other r w =
      argument_turn whole made xs i a h e w (type_argument (written_view t)) (ap argument_view f ∙ view-type t)
      ∙ ap (λ b. after (opens_view made) (cond b (argument_types p (arguments_view (drop (i + 1) xs))) (option_and_then (λ v. option_map (types.more_types v) (argument_types p (arguments_view (drop (i + 1) xs)))) (type_of p (written_view t))))) other
      ∙ ap (λ o. after (opens_view made) (option_and_then (λ v. option_map (types.more_types v) (argument_types p (arguments_view (drop (i + 1) xs)))) o)) r
      ∙ after-one made u (argument_types p (arguments_view (drop (i + 1) xs)))

  pub skipped_turn : (whole : Option Opens) (made : List OpenType) (xs : List GenericArgument) (i : ℕ) (a : GenericArgument) (t : WrittenType) → i < length xs → a ≡ get_or xs i a → a ≡ arguments.Ty t
      → is_constant_type p (written_view t) ≡ true → whole ≡ after (opens_view made) (argument_types p (arguments_view (drop i xs))) → whole ≡ after (opens_view made) (argument_types p (arguments_view (drop (i + 1) xs)))
  skipped_turn whole made xs i a t h e f constant w =
      argument_turn whole made xs i a h e w (type_argument (written_view t)) (ap argument_view f ∙ view-type t)
      ∙ ap (λ b. after (opens_view made) (cond b (argument_types p (arguments_view (drop (i + 1) xs))) (option_and_then (λ v. option_map (types.more_types v) (argument_types p (arguments_view (drop (i + 1) xs)))) (type_of p (written_view t))))) constant

  pub lifetime_turn : (whole : Option Opens) (made : List OpenType) (xs : List GenericArgument) (i : ℕ) (a : GenericArgument) (x : Ident) → i < length xs → a ≡ get_or xs i a → a ≡ arguments.Lifetime x
      → whole ≡ after (opens_view made) (argument_types p (arguments_view (drop i xs))) → whole ≡ after (opens_view made) (argument_types p (arguments_view (drop (i + 1) xs)))
  lifetime_turn whole made xs i a x h e f w = argument_turn whole made xs i a h e w (lifetime_argument x) (ap argument_view f ∙ view-lifetime x)

  pub constant_turn : (whole : Option Opens) (made : List OpenType) (xs : List GenericArgument) (i : ℕ) (a : GenericArgument) (ts : Tokens TokenTree) → i < length xs → a ≡ get_or xs i a → a ≡ arguments.Constant ts
      → whole ≡ after (opens_view made) (argument_types p (arguments_view (drop i xs))) → whole ≡ after (opens_view made) (argument_types p (arguments_view (drop (i + 1) xs)))
  constant_turn whole made xs i a ts h e f w = argument_turn whole made xs i a h e w (constant_argument (trees_view ts)) (ap argument_view f ∙ view-constant ts)

  pub arguments_end : (whole : Option Opens) (made : List OpenType) (xs : List GenericArgument) (i : ℕ) → length xs ≤ i → whole ≡ after (opens_view made) (argument_types p (arguments_view (drop i xs))) → whole ≡ Some (opens_view made)
  arguments_end whole made xs i h w = w ∙ ap (λ vs. after (opens_view made) (argument_types p (arguments_view vs))) (drop_all i xs h) ∙ drop-end made

-- names of an item are among those of its list
pub in_types : (p : Known) (P : Segment → Type 0) (ts : List WrittenType) (i : ℕ) (t : WrittenType) → i < length ts → t ≡ get_or ts i t → Somewhere P (names_in p (written_view t)) → Somewhere P (names_in_types p (writtens_view ts))
in_types p P ts i t l is q = by ts i l (subst (λ x. Somewhere P (names_in p (written_view x))) is q)
  where
    by : (xs : List WrittenType) (j : ℕ) → j < length xs → Somewhere P (names_in p (written_view (get_or xs j t))) → Somewhere P (names_in_types p (writtens_view xs))
    by [] j h r = absurd (omega arith)
    by (x ∷ xs) zero h r = somewhere-left P (names_in p (written_view x)) (names_in_types p (writtens_view xs)) r
    by (x ∷ xs) (suc j) h r = somewhere-right P (names_in p (written_view x)) (names_in_types p (writtens_view xs)) (by xs j (omega arith) r)

pub in_arguments : (p : Known) (P : Segment → Type 0) (ys : List GenericArgument) (i : ℕ) (a : GenericArgument) (t : WrittenType) → i < length ys → a ≡ get_or ys i a → a ≡ arguments.Ty t
    → is_constant_type p (written_view t) ≡ false → Somewhere P (names_in p (written_view t)) → Somewhere P (names_in_arguments p (arguments_view ys))
in_arguments p P ys i a t l is f other q = by ys i l (subst (λ x. Somewhere P (names_in_argument p (argument_view x))) is (subst (λ y. Somewhere P (names_in_argument p y)) (sym (ap argument_view f ∙ view-type t)) (subst (λ b. Somewhere P (cond b [] (names_in p (written_view t)))) (sym other) q)))
  where
    by : (xs : List GenericArgument) (j : ℕ) → j < length xs → Somewhere P (names_in_argument p (argument_view (get_or xs j a))) → Somewhere P (names_in_arguments p (arguments_view xs))
    by [] j h r = absurd (omega arith)
    by (x ∷ xs) zero h r = somewhere-left P (names_in_argument p (argument_view x)) (names_in_arguments p (arguments_view xs)) r
    by (x ∷ xs) (suc j) h r = somewhere-right P (names_in_argument p (argument_view x)) (names_in_arguments p (arguments_view xs)) (by xs j (omega arith) r)

-- ---- the last segment of a path

last_of : {A : Type 0} (f : Segments → A) (g : Segment → A) → ((s : Segment) (rest : Segments) → f (more_segments s rest) ≡ where_none rest (g s) (f rest)) → (ss : List PathSegment) (d : PathSegment) (n : ℕ) → length ss ≡ suc n
    → f (segments_view ss) ≡ g (segment_view (slice_index_or ss n d))
last_of f g step [] d n l = absurd (omega arith)
last_of f g step (s ∷ []) d zero l = step (segment_view s) no_segments
last_of f g step (s ∷ []) d (suc n) l = absurd (omega arith)
last_of f g step (s ∷ t ∷ ss) d zero l = absurd (omega arith)
last_of f g step (s ∷ t ∷ ss) d (suc n) l = step (segment_view s) (segments_view (t ∷ ss)) ∙ last_of f g step (t ∷ ss) d n (omega arith)

not_none : {A : Type 0} (ss : List PathSegment) (x y : A) → 1 ≤ length ss → where_none (segments_view ss) x y ≡ y
not_none [] x y l = absurd (omega arith)
not_none (s ∷ ss) x y l = refl

module _ (q : Path) (ss : List PathSegment) (s : PathSegment) (e : ss ≡ (out-Path q).segments) (l : 1 ≤ length ss) (is : s ≡ slice_index_or ss (length ss - 1) s) where
  at_last : {A : Type 0} (f : Segments → A) (g : Segment → A) → ((x : Segment) (rest : Segments) → f (more_segments x rest) ≡ where_none rest (g x) (f rest)) → f (segments_view (out-Path q).segments) ≡ g (segment_view s)
  at_last f g step = subst (λ xs. f (segments_view xs) ≡ g (segment_view s)) e (last_of f g step ss s (length ss - 1) (omega arith) ∙ ap (λ x. g (segment_view x)) (sym is))

  pub path_size-at : (p : Known) → path_size p (path_view q) ≡ suc (segment_size p (segment_view s))
  path_size-at p = ap (path_size p) (path_view_is q) ∙ ap suc (at_last (last_size p) (segment_size p) (λ x rest. refl))

  pub path_alias-at : (p : Known) → path_alias_of p (path_view q) ≡ with_span (segment_view s) (segment_alias_of p (segment_view s))
  path_alias-at p = ap (path_alias_of p) (path_view_is q) ∙ at_last (last_alias_of p) (λ x. with_span x (segment_alias_of p x)) (λ x rest. refl)

  pub path_bad-at : path_holds_bad (path_view q) ≡ segment_holds_bad (segment_view s)
  path_bad-at = ap path_holds_bad (path_view_is q) ∙ at_last last_holds_bad segment_holds_bad (λ x rest. refl)

  pub path_type-at : (p : Known) → path_type p (path_view q) ≡ segment_type p (segment_view s)
  path_type-at p =
      ap (path_type p) (path_view_is q)
      ∙ subst (λ xs. where_none (segments_view xs) (meant p (meaning p (nameless (out-Path q).span)) types.no_types) (last_type p (segments_view xs)) ≡ last_type p (segments_view xs)) e
      (not_none ss (meant p (meaning p (nameless (out-Path q).span)) types.no_types) (last_type p (segments_view ss)) l)
      ∙ at_last (last_type p) (segment_type p) (λ x rest. refl)

  pub path_names-at : (p : Known) → names_in_path p (path_view q) ≡ segment_view s ∷ names_in_segment p (segment_view s)
  path_names-at p =
      ap (names_in_path p) (path_view_is q)
      ∙ subst (λ xs. where_none (segments_view xs) (nameless (out-Path q).span ∷ []) (names_in_last p (segments_view xs)) ≡ names_in_last p (segments_view xs)) e
      (not_none ss (nameless (out-Path q).span ∷ []) (names_in_last p (segments_view ss)) l)
      ∙ at_last (names_in_last p) (λ x. x ∷ names_in_segment p x) (λ x rest. refl)
