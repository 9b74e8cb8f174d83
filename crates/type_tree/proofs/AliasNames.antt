-- Names in a type that are aliases.
use Rattle.std.proofs.Common.{◌≡◌, ◌+◌, ◌-◌, ◌<◌, ◌≤◌, ℕ, zero, suc, List, [], ◌∷◌, ◌++◌, true, false, cond, Option, Some, None, length, get_or, slice_index_or, drop, refl, ap, sym, ◌∙◌, arith, rules}
use Rattle.std.proofs.lemmas.List.{drop_more}
use Rattle.std.specs.Option.{option_or}
use Rattle.texts.specs.declared.list.List.{List as Tokens}
use Rattle.texts.specs.declared.span.Span.{Span}
use Rattle.tokens.specs.Trees.{trees_view}
use Rattle.tokens.specs.declared.token.TokenTree.{TokenTree}
use Rattle.written_types.specs.declared.written.WrittenType.{WrittenType}
use Rattle.written_types.specs.declared.written.GenericArgument.{GenericArgument, the_lemmas as argument_lemmas}
use Rattle.written_types.specs.declared.written.GenericArgument.TheVariants as arguments
use Rattle.written_types.specs.declared.written.PathSegment.{PathSegment}
use Rattle.written_types.specs.declared.written.Ident.{Ident}
use Rattle.written_types.specs.declared.written.Path.{Path, out-Path}
use Rattle.written_types.specs.Written.{Written, path, reference, tuple, slice, array, trait_object, path_of, Segment, plain, applied, no_segments, more_segments, lifetime_argument, constant_argument, type_argument, written_view, path_view, segment_view, segments_view, argument_view, arguments_view, writtens_view}
use Rattle.written_types.proofs.Laws.{path_view_is}
use Rattle.configuration.specs.Configuration.{Alias}
use Rattle.resolving.specs.Names.{ident_of, nameless, where_none, is_constant_type, names_in, names_in_path, names_in_last, names_in_segment, names_in_arguments, names_in_argument, names_in_types}
use Rattle.type_tree.specs.Aliases.{alias_at, known_aliases, first_alias, alias_left}

view_type : (t : WrittenType) → argument_view (arguments.Ty t) ≡ type_argument (written_view t)
view_type t = search (rules, argument_lemmas)

view_lifetime : (x : Ident) → argument_view (arguments.Lifetime x) ≡ lifetime_argument x
view_lifetime x = search (rules, argument_lemmas)

view_constant : (ts : Tokens TokenTree) → argument_view (arguments.Constant ts) ≡ constant_argument (trees_view ts)
view_constant ts = search (rules, argument_lemmas)

not_none : {A : Type 0} (ss : List PathSegment) (x y : A) → 1 ≤ length ss → where_none (segments_view ss) x y ≡ y
not_none [] x y l = absurd (omega arith)
not_none (s ∷ ss) x y l = refl

module _ (aliases : List Alias) where
  -- ---- names of two lists, one after the other

  first_append : (xs ys : List Segment) → first_alias aliases (xs ++ ys) ≡ option_or (first_alias aliases xs) (first_alias aliases ys)
  first_append [] ys = refl
  first_append (s ∷ xs) ys =
      ap (option_or (alias_at aliases (ident_of s).text (ident_of s).span)) (first_append xs ys)
      ∙ by (alias_at aliases (ident_of s).text (ident_of s).span) (first_alias aliases xs) (first_alias aliases ys)
    where
      by : {A : Type 0} (o p q : Option A) → option_or o (option_or p q) ≡ option_or (option_or o p) q
      by None p q = refl
      by (Some x) p q = refl

  no_constant : (t : Written) → is_constant_type (known_aliases aliases) t ≡ false
  no_constant (path (path_of true ss s)) = refl
  no_constant (path (path_of false no_segments s)) = refl
  no_constant (path (path_of false (more_segments (plain x) no_segments) s)) = refl
  no_constant (path (path_of false (more_segments (applied x args) no_segments) s)) = refl
  no_constant (path (path_of false (more_segments u (more_segments v rest)) s)) = refl
  no_constant (reference t) = refl
  no_constant (tuple ts s) = refl
  no_constant (slice t s) = refl
  no_constant (array t s) = refl
  no_constant (trait_object p s) = refl

  -- ---- the names of a path

  last_names : (ss : List PathSegment) (d : PathSegment) (n : ℕ) → length ss ≡ suc n →
      let p = known_aliases aliases in let s = segment_view (slice_index_or ss n d) in names_in_last p (segments_view ss) ≡ s ∷ names_in_segment p s
  last_names [] d n l = absurd (omega arith)
  last_names (s ∷ []) d zero l = refl
  last_names (s ∷ []) d (suc n) l = absurd (omega arith)
  last_names (s ∷ t ∷ ss) d zero l = absurd (omega arith)
  last_names (s ∷ t ∷ ss) d (suc n) l = last_names (t ∷ ss) d n (omega arith)

  pub path_names : (q : Path) (ss : List PathSegment) (s : PathSegment) → ss ≡ (out-Path q).segments → 1 ≤ length ss → s ≡ slice_index_or ss (length ss - 1) s →
      let p = known_aliases aliases in names_in_path p (path_view q) ≡ segment_view s ∷ names_in_segment p (segment_view s)
  path_names q ss s e l is =
      let p = known_aliases aliases in
      let none = nameless (out-Path q).span ∷ [] in
      ap (names_in_path p) (path_view_is q)
      ∙ ap (λ xs. where_none (segments_view xs) none (names_in_last p (segments_view xs))) (sym e)
      ∙ not_none ss none (names_in_last p (segments_view ss)) l
      ∙ last_names ss s (length ss - 1) (omega arith)
      ∙ ap (λ x. segment_view x ∷ names_in_segment p (segment_view x)) (sym is)

  -- ---- turns of the loops

  module _ (ts : List WrittenType) (i : ℕ) (t : WrittenType) (l : i < length ts) (is : t ≡ get_or ts i t) where
    types_turn : let p = known_aliases aliases in first_alias aliases (names_in_types p (writtens_view (drop i ts))) ≡ option_or (alias_left aliases (written_view t)) (first_alias aliases (names_in_types p (writtens_view (drop (i + 1) ts))))
    types_turn =
        let p = known_aliases aliases in
        let rest = names_in_types p (writtens_view (drop (i + 1) ts)) in
        ap (λ xs. first_alias aliases (names_in_types p (writtens_view xs))) (drop_more ts i t l)
        ∙ first_append (names_in p (written_view (get_or ts i t))) rest
        ∙ ap (λ x. option_or (alias_left aliases (written_view x)) (first_alias aliases rest)) (sym is)

    pub type_found : (f : List ℕ × Span) → Some f ≡ alias_left aliases (written_view t) → Some f ≡ first_alias aliases (names_in_types (known_aliases aliases) (writtens_view (drop i ts)))
    type_found f e = sym (types_turn ∙ ap (λ o. option_or o (first_alias aliases (names_in_types (known_aliases aliases) (writtens_view (drop (i + 1) ts))))) (sym e))

    pub type_passed : None ≡ alias_left aliases (written_view t) → let p = known_aliases aliases in first_alias aliases (names_in_types p (writtens_view (drop (i + 1) ts))) ≡ first_alias aliases (names_in_types p (writtens_view (drop i ts)))
    type_passed e = sym (types_turn ∙ ap (λ o. option_or o (first_alias aliases (names_in_types (known_aliases aliases) (writtens_view (drop (i + 1) ts))))) (sym e))

  module _ (xs : List GenericArgument) (i : ℕ) (a : GenericArgument) (l : i < length xs) (is : a ≡ get_or xs i a) where
    argument_turn : let p = known_aliases aliases in first_alias aliases (names_in_arguments p (arguments_view (drop i xs))) ≡ option_or (first_alias aliases (names_in_argument p (argument_view a))) (first_alias aliases (names_in_arguments p (arguments_view (drop (i + 1) xs))))
    argument_turn =
        let p = known_aliases aliases in
        let rest = names_in_arguments p (arguments_view (drop (i + 1) xs)) in
        ap (λ ys. first_alias aliases (names_in_arguments p (arguments_view ys))) (drop_more xs i a l)
        ∙ first_append (names_in_argument p (argument_view (get_or xs i a))) rest
        ∙ ap (λ y. option_or (first_alias aliases (names_in_argument p (argument_view y))) (first_alias aliases rest)) (sym is)

    -- the names of an argument that is a type
    type_names : (t : WrittenType) → a ≡ arguments.Ty t → first_alias aliases (names_in_argument (known_aliases aliases) (argument_view a)) ≡ alias_left aliases (written_view t)
    type_names t e =
        let p = known_aliases aliases in
        ap (λ y. first_alias aliases (names_in_argument p y)) (ap argument_view e ∙ view_type t)
        ∙ ap (λ b. first_alias aliases (cond b [] (names_in p (written_view t)))) (no_constant (written_view t))

    pub argument_found : (t : WrittenType) (f : List ℕ × Span) → a ≡ arguments.Ty t → Some f ≡ alias_left aliases (written_view t) → Some f ≡ first_alias aliases (names_in_arguments (known_aliases aliases) (arguments_view (drop i xs)))
    argument_found t f e g = sym (argument_turn ∙ ap (λ o. option_or o (first_alias aliases (names_in_arguments (known_aliases aliases) (arguments_view (drop (i + 1) xs))))) (type_names t e ∙ sym g))

    argument_passed : first_alias aliases (names_in_argument (known_aliases aliases) (argument_view a)) ≡ None →
        let p = known_aliases aliases in first_alias aliases (names_in_arguments p (arguments_view (drop (i + 1) xs))) ≡ first_alias aliases (names_in_arguments p (arguments_view (drop i xs)))
    argument_passed e = sym (argument_turn ∙ ap (λ o. option_or o (first_alias aliases (names_in_arguments (known_aliases aliases) (arguments_view (drop (i + 1) xs))))) e)

    pub type_is_passed : (t : WrittenType) → a ≡ arguments.Ty t → None ≡ alias_left aliases (written_view t) →
        let p = known_aliases aliases in first_alias aliases (names_in_arguments p (arguments_view (drop (i + 1) xs))) ≡ first_alias aliases (names_in_arguments p (arguments_view (drop i xs)))
    type_is_passed t e g = argument_passed (type_names t e ∙ sym g)

    pub lifetime_is_passed : (x : Ident) → a ≡ arguments.Lifetime x →
        let p = known_aliases aliases in first_alias aliases (names_in_arguments p (arguments_view (drop (i + 1) xs))) ≡ first_alias aliases (names_in_arguments p (arguments_view (drop i xs)))
    lifetime_is_passed x e = argument_passed (ap (λ y. first_alias aliases (names_in_argument (known_aliases aliases) y)) (ap argument_view e ∙ view_lifetime x))

    pub constant_is_passed : (ks : Tokens TokenTree) → a ≡ arguments.Constant ks →
        let p = known_aliases aliases in first_alias aliases (names_in_arguments p (arguments_view (drop (i + 1) xs))) ≡ first_alias aliases (names_in_arguments p (arguments_view (drop i xs)))
    constant_is_passed ks e = argument_passed (ap (λ y. first_alias aliases (names_in_argument (known_aliases aliases) y)) (ap argument_view e ∙ view_constant ks))
