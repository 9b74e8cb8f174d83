-- What is made of types whose aliases are replaced.
use Rattle.std.proofs.Common.{◌≡◌, ◌<◌, ◌≤◌, ◌+◌, ℕ, zero, suc, List, [], ◌∷◌, ◌++◌, take, Bool, true, false, cond, Option, Some, None, option_map, unwrap_or, map, length, get_or, slice_index_or, ◌-◌, drop, refl, ap, sym, subst, ◌∙◌, arith, add-one, drop-cons, rules}
use Rattle.std.proofs.lemmas.Option.{none-some, same_Some}
use Rattle.std.proofs.lemmas.List.{map-append, take_more, take_all}
use Rattle.texts.specs.declared.list.List.{List as Items}
use Rattle.written_types.specs.declared.written.WrittenType.TheVariants as types
use Rattle.written_types.specs.declared.written.GenericArgument.TheVariants as arguments
use Rattle.resolving.proofs.Counted.{view-type, view-segment}
use Rattle.written_types.proofs.Laws.{path_view_is}
use Rattle.written_types.specs.declared.written.PathSegment.{PathSegment}
use Rattle.written_types.specs.declared.written.Path.{Path, out-Path}
use Rattle.std.proofs.lemmas.Bool.{false≢true}
use Rattle.texts.specs.declared.span.Span.{Span}
use Rattle.texts.proofs.Laws.{mapped}
use Rattle.written_types.specs.declared.written.Ident.{Ident}
use Rattle.written_types.specs.declared.written.WrittenType.{WrittenType, the_lemmas as type_lemmas}
use Rattle.written_types.specs.declared.written.GenericArgument.{GenericArgument}
use Rattle.written_types.specs.Written.{Written, Writtens, WrittenPath, Segments, Segment, Arguments, Argument, path, reference, tuple, slice, array, trait_object, no_types, more_types, path_of, no_segments, more_segments, plain, applied, no_arguments, more_arguments, lifetime_argument, constant_argument, type_argument, written_view, argument_view, arguments_view, writtens_view, writtens_of, path_view, segment_view, segments_view, segment_of, arguments_of as arguments_from}
use Rattle.resolving.specs.declared.aliases.Place.{Place}
use Rattle.resolving.specs.Known.{Known}
use Rattle.resolving.specs.Names.{types_of, ident_of, arguments_of, where_none, is_constant_type, size, sizes, path_size, last_size, segment_size, argument_size, arguments_size, span_of}
use Rattle.resolving.specs.Aliases.{Standing, span_at, ident_at, are_none, segment_alias, path_alias, expanded, expanded_path, expanded_arguments, expanded_last, expanded_segment, expanded_list, expanded_argument, expanded_types, standing, most_aliases, expanded_type}
use Rattle.resolving.specs.Expanding.{segment_alias_of, with_span, last_alias_of, path_alias_of, type_alias_of, expanded_here, inside_here, path_here, segment_here, argument_here, list_here, types_here}

-- ---- where no name is an alias

module _ (p : Known) (f : Standing) (none : (s : Span) (n : List ℕ) → f s n ≡ None) where
  no_alias : (at : Option Span) (ss : Segments) → path_alias p f at ss ≡ None
  no_alias at no_segments = refl
  no_alias at (more_segments s (more_segments t ts)) = no_alias at (more_segments t ts)
  no_alias at (more_segments s no_segments) = by (are_none (types_of p (arguments_of s)))
    where
      by : (b : Bool) → cond b (f (span_at at (ident_of s).span) (ident_of s).text) None ≡ None
      by true = none (span_at at (ident_of s).span) (ident_of s).text
      by false = refl

  constant_stays : (b : Bool) (t u : Written) → u ≡ t → cond b t u ≡ t
  constant_stays true t u e = refl
  constant_stays false t u e = e

  mutual
    same_type : (t : Written) → expanded p f None t ≡ t
    same_type (path (path_of leading ss s)) = ap (λ o. unwrap_or o (path (expanded_arguments p f None (path_of leading ss s)))) (no_alias None ss) ∙ ap path (same_path (path_of leading ss s))
    same_type (reference t) = ap reference (same_type t)
    same_type (tuple ts s) = ap (λ xs. tuple xs s) (same_types ts)
    same_type (slice t s) = ap (λ x. slice x s) (same_type t)
    same_type (array t s) = ap (λ x. array x s) (same_type t)
    same_type (trait_object (path_of leading ss s) r) =
        ap (λ o. unwrap_or o (trait_object (expanded_arguments p f None (path_of leading ss s)) r)) (no_alias None ss) ∙ ap (λ q. trait_object q r) (same_path (path_of leading ss s))

    same_path : (q : WrittenPath) → expanded_arguments p f None q ≡ q
    same_path (path_of leading ss s) = ap (λ xs. path_of leading xs s) (same_last ss)

    same_last : (ss : Segments) → expanded_last p f None ss ≡ ss
    same_last no_segments = refl
    same_last (more_segments s no_segments) = ap (λ x. more_segments x no_segments) (same_segment s)
    same_last (more_segments s (more_segments t ts)) = ap (more_segments s) (same_last (more_segments t ts))

    same_segment : (s : Segment) → expanded_segment p f None s ≡ s
    same_segment (plain x) = refl
    same_segment (applied x args) = ap (applied x) (same_list args)

    same_list : (args : Arguments) → expanded_list p f None args ≡ args
    same_list no_arguments = refl
    same_list (more_arguments a rest) = ap (λ x. more_arguments x (expanded_list p f None rest)) (same_argument a) ∙ ap (more_arguments a) (same_list rest)

    same_argument : (a : Argument) → expanded_argument p f None a ≡ a
    same_argument (lifetime_argument x) = refl
    same_argument (constant_argument ts) = refl
    same_argument (type_argument t) = ap type_argument (constant_stays (is_constant_type p t) t (expanded p f None t) (same_type t))

    same_types : (ts : Writtens) → expanded_types p f None ts ≡ ts
    same_types no_types = refl
    same_types (more_types t ts) = ap (λ x. more_types x (expanded_types p f None ts)) (same_type t) ∙ ap (more_types t) (same_types ts)

-- a type stays as it is written
pub unaliased : (p : Known) → ((name : List ℕ) → p.alias_of name ≡ None) → (t : Written) → expanded_type p t ≡ t
unaliased p none t = same_type p (standing p most_aliases) (λ s name. ap (option_map (expanded p (standing p 31) (Some s))) (none name)) t

-- ---- spans

module _ (p : Known) where
  abbrev Spanned : Standing → Type 0
  Spanned f = (s : Span) (name : List ℕ) (u : Written) → f s name ≡ Some u → span_of u ≡ s

  alias_spanned : (f : Standing) → Spanned f → (at : Option Span) (ss : Segments) (own : Segment → Span) (r : Span) → ((x : Ident) → span_at at x.span ≡ r) → (u : Written) → path_alias p f at ss ≡ Some u → span_of u ≡ r
  alias_spanned f spanned at no_segments own r same u e = absurd (none-some u e)
  alias_spanned f spanned at (more_segments s (more_segments t ts)) own r same u e = alias_spanned f spanned at (more_segments t ts) own r same u e
  alias_spanned f spanned at (more_segments s no_segments) own r same u e = by (are_none (types_of p (arguments_of s))) e
    where
      by : (b : Bool) → cond b (f (span_at at (ident_of s).span) (ident_of s).text) None ≡ Some u → span_of u ≡ r
      by true h = spanned (span_at at (ident_of s).span) (ident_of s).text u h ∙ same (ident_of s)
      by false h = absurd (none-some u h)

  path_spanned : (o : Option Written) (other : Written) (r : Span) → ((u : Written) → o ≡ Some u → span_of u ≡ r) → span_of other ≡ r → span_of (unwrap_or o other) ≡ r
  path_spanned None other r found e = e
  path_spanned (Some u) other r found e = found u refl

  spanned_type : (f : Standing) → Spanned f → (r : Span) (t : Written) → span_of (expanded p f (Some r) t) ≡ r
  spanned_type f spanned r (path (path_of leading ss s)) = path_spanned (path_alias p f (Some r) ss) _ r (alias_spanned f spanned (Some r) ss (λ x. r) r (λ x. refl)) refl
  spanned_type f spanned r (reference t) = spanned_type f spanned r t
  spanned_type f spanned r (tuple ts s) = refl
  spanned_type f spanned r (slice t s) = refl
  spanned_type f spanned r (array t s) = refl
  spanned_type f spanned r (trait_object (path_of leading ss s) q) = path_spanned (path_alias p f (Some r) ss) _ r (alias_spanned f spanned (Some r) ss (λ x. r) r (λ x. refl)) refl

  standing_spanned : (n : ℕ) → Spanned (standing p n)
  standing_spanned zero s name u e = absurd (none-some u e)
  standing_spanned (suc n) s name u e =
      let m = mapped (expanded p (standing p n) (Some s)) (p.alias_of name) u e in
      sym (ap span_of m.2) ∙ spanned_type (standing p n) (standing_spanned n) s m.0

  -- ---- an alias and what it stands for

  abbrev Stood : ℕ → Option Span → Written × Span → Written
  Stood n at u = expanded p (standing p n) (Some (span_at at u.1)) u.0

  last_stands : (n : ℕ) (at : Option Span) (ss : Segments) → path_alias p (standing p (suc n)) at ss ≡ option_map (Stood n at) (last_alias_of p ss)
  last_stands n at no_segments = refl
  last_stands n at (more_segments s (more_segments t ts)) = last_stands n at (more_segments t ts)
  last_stands n at (more_segments s no_segments) = by (are_none (types_of p (arguments_of s))) (p.alias_of (ident_of s).text)
    where
      by : (b : Bool) (o : Option Written) → cond b (option_map (expanded p (standing p n) (Some (span_at at (ident_of s).span))) o) None ≡ option_map (Stood n at) (with_span s (cond b o None))
      by true None = refl
      by true (Some t) = refl
      by false o = refl

  stands : (n : ℕ) (at : Option Span) (t : Written) (u : Written) (s : Span) → type_alias_of p t ≡ Some (u, s) → expanded p (standing p (suc n)) at t ≡ expanded p (standing p n) (Some (span_at at s)) u
  stands n at (path (path_of leading ss r)) u s e = ap (λ o. unwrap_or o (path (expanded_arguments p (standing p (suc n)) at (path_of leading ss r)))) (last_stands n at ss ∙ ap (option_map (Stood n at)) e)
  stands n at (reference t) u s e = absurd (none-some (u, s) e)
  stands n at (tuple ts r) u s e = absurd (none-some (u, s) e)
  stands n at (slice t r) u s e = absurd (none-some (u, s) e)
  stands n at (array t r) u s e = absurd (none-some (u, s) e)
  stands n at (trait_object (path_of leading ss r) q) u s e = ap (λ o. unwrap_or o (trait_object (expanded_arguments p (standing p (suc n)) at (path_of leading ss r)) (span_at at q))) (last_stands n at ss ∙ ap (option_map (Stood n at)) e)

  -- where none stands
  none_at : (n : ℕ) (at : Option Span) (ss : Segments) → last_alias_of p ss ≡ None → path_alias p (standing p n) at ss ≡ None
  none_at zero at ss e = no_alias p (standing p zero) (λ s name. refl) at ss
  none_at (suc n) at ss e = last_stands n at ss ∙ ap (option_map (Stood n at)) e

  inside_type : (place : Place) (t : Written) → ((leading : Bool) (ss : Segments) (s : Span) → type_alias_of p t ≡ last_alias_of p ss → path_alias p (standing p place.below) place.at ss ≡ None) → expanded_here p place t ≡ inside_here p place t
  inside_type place (path (path_of leading ss s)) none = ap (λ o. unwrap_or o (path (expanded_arguments p (standing p place.below) place.at (path_of leading ss s)))) (none leading ss s refl)
  inside_type place (reference t) none = refl
  inside_type place (tuple ts s) none = refl
  inside_type place (slice t s) none = refl
  inside_type place (array t s) none = refl
  inside_type place (trait_object (path_of leading ss s) r) none = ap (λ o. unwrap_or o (trait_object (expanded_arguments p (standing p place.below) place.at (path_of leading ss s)) (span_at place.at r))) (none leading ss s refl)

  pub inside_alone : (place : Place) (t : Written) → type_alias_of p t ≡ None → expanded_here p place t ≡ inside_here p place t
  inside_alone place t e = inside_type place t (λ leading ss s same. none_at place.below place.at ss (sym same ∙ e))

  pub inside_below : (place : Place) (t : Written) → place.below ≡ 0 → expanded_here p place t ≡ inside_here p place t
  inside_below place t e = inside_type place t (λ leading ss s same. ap (λ n. path_alias p (standing p n) place.at ss) e ∙ no_alias p (standing p zero) (λ r name. refl) place.at ss)

  pub alias_here : (place there : Place) (t u : Written) (s : Span) → type_alias_of p t ≡ Some (u, s) → place.below ≡ suc there.below → there.at ≡ Some (span_at place.at s) → expanded_here p there u ≡ expanded_here p place t
  alias_here place there t u s e below at =
      ap (λ a. expanded p (standing p there.below) a u) at ∙ sym (stands there.below place.at t u s e) ∙ ap (λ n. expanded p (standing p n) place.at t) (sym below)

  -- the span of a type whose aliases are replaced
  pub alias_span : (t u : Written) (s : Span) → type_alias_of p t ≡ Some (u, s) → span_of (expanded_type p t) ≡ s
  alias_span t u s e = ap span_of (stands 31 None t u s e) ∙ spanned_type (standing p 31) (standing_spanned 31) s u

  -- of one that is no alias itself, that of what is made of it
  pub inside_span : (place : Place) (t : Written) → place.below ≡ 32 → place.at ≡ None → type_alias_of p t ≡ None → span_of (expanded_type p t) ≡ span_of (inside_here p place t)
  inside_span place t below at e = ap (λ n. span_of (expanded p (standing p n) None t)) (sym below) ∙ ap (λ a. span_of (expanded p (standing p place.below) a t)) (sym at) ∙ ap span_of (inside_alone place t e)

-- ---- names that are left

-- a constant is one name
pub constant_size : (p : Known) (t : Written) → is_constant_type p t ≡ true → size p t ≡ 1
constant_size p (path (path_of true ss s)) e = absurd (false≢true e)
constant_size p (path (path_of false no_segments s)) e = absurd (false≢true e)
constant_size p (path (path_of false (more_segments (plain x) no_segments) s)) e = refl
constant_size p (path (path_of false (more_segments (applied x args) no_segments) s)) e = absurd (false≢true e)
constant_size p (path (path_of false (more_segments x (more_segments y ss)) s)) e = absurd (false≢true e)
constant_size p (reference t) e = absurd (false≢true e)
constant_size p (tuple ts s) e = absurd (false≢true e)
constant_size p (slice t s) e = absurd (false≢true e)
constant_size p (array t s) e = absurd (false≢true e)
constant_size p (trait_object q s) e = absurd (false≢true e)

pub view-tuple : (items : Items WrittenType) (span : Span) → written_view (types.Tuple items span) ≡ tuple (writtens_view items) span
view-tuple items span = search (rules, type_lemmas)

pub view-path : (q : Path) → written_view (types.Path q) ≡ path (path_of (out-Path q).leading (segments_view (out-Path q).segments) (out-Path q).span)
view-path q = let seen : written_view (types.Path q) ≡ path (path_view q) = search (rules, type_lemmas) in seen ∙ ap path (path_view_is q)

module _ (p : Known) (place : Place) where
  pub types_here_are : (ts : List WrittenType) → types_here p place (writtens_view ts) ≡ writtens_of (map (λ t. expanded_here p place (written_view t)) ts)
  types_here_are [] = refl
  types_here_are (t ∷ ts) = ap (more_types (expanded_here p place (written_view t))) (types_here_are ts)

  pub list_here_is : (xs : List GenericArgument) → list_here p place (arguments_view xs) ≡ arguments_from (map (λ a. argument_here p place (argument_view a)) xs)
  list_here_is [] = refl
  list_here_is (x ∷ xs) = ap (more_arguments (argument_here p place (argument_view x))) (list_here_is xs)

  -- the names of those that are left, and of the first of them
  pub types_left : (ts : List WrittenType) (i : ℕ) (t : WrittenType) → i < length ts → t ≡ get_or ts i t
      → sizes p (types_here p place (writtens_view (drop i ts))) ≡ size p (expanded_here p place (written_view t)) + sizes p (types_here p place (writtens_view (drop (i + 1) ts)))
  types_left ts i t h e = rw (add-one, drop-cons ts i t, ← e)

  pub list_left : (xs : List GenericArgument) (i : ℕ) (a : GenericArgument) → i < length xs → a ≡ get_or xs i a
      → arguments_size p (list_here p place (arguments_view (drop i xs))) ≡ argument_size p (argument_here p place (argument_view a)) + arguments_size p (list_here p place (arguments_view (drop (i + 1) xs)))
  list_left xs i a h e = rw (add-one, drop-cons xs i a, ← e)

  -- ---- one more that is expanded

  pub tuple_left : (ty : WrittenType) (items : Items WrittenType) (span : Span) (ts : List WrittenType) → ty ≡ types.Tuple items span → ts ≡ items → inside_here p place (written_view ty) ≡ tuple (types_here p place (writtens_view ts)) (span_at place.at span)
  tuple_left ty items span ts e f = ap (λ t. inside_here p place (written_view t)) e ∙ ap (inside_here p place) (view-tuple items span) ∙ ap (λ xs. tuple (types_here p place (writtens_view xs)) (span_at place.at span)) (sym f)

  -- the names of a type argument that is no constant as it is written
  pub argument_left : (a : GenericArgument) (t : WrittenType) → a ≡ arguments.Ty t → is_constant_type p (written_view t) ≡ false → argument_here p place (argument_view a) ≡ type_argument (expanded_here p place (written_view t))
  argument_left a t e constant = ap (argument_here p place) (ap argument_view e ∙ view-type t) ∙ ap (λ b. type_argument (cond b (written_view t) (expanded_here p place (written_view t)))) constant

-- a type of several names is no constant
pub large_argument : (p : Known) (most : ℕ) (t : Written) → 1 ≤ most → most < size p t → argument_size p (type_argument t) ≡ size p t
large_argument p most t l m = by (is_constant_type p t) refl
  where
    by : (b : Bool) → is_constant_type p t ≡ b → cond b 0 (size p t) ≡ size p t
    by true e = let one = constant_size p t e in absurd (omega (arith, one))
    by false e = refl

pub view_turn : {A B C : Type 0} (f : A → C) (g : B → C) (made : List A) (xs : List B) (i : ℕ) (x : A) (y : B) → i < length xs → y ≡ get_or xs i y → f x ≡ g y → map f made ≡ map g (take i xs) → map f (made ++ x ∷ []) ≡ map g (take (i + 1) xs)
view_turn f g made xs i x y l is e before =
    map-append f made (x ∷ []) ∙ ap (λ zs. zs ++ f x ∷ []) before ∙ ap (λ z. map g (take i xs) ++ z ∷ []) (e ∙ ap g is)
    ∙ sym (map-append g (take i xs) (get_or xs i y ∷ [])) ∙ ap (map g) (sym (take_more xs i y l))

pub view_end : {A B C : Type 0} (f : A → C) (g : B → C) (made : List A) (xs : List B) (i : ℕ) → length xs ≤ i → map f made ≡ map g (take i xs) → map f made ≡ map g xs
view_end f g made xs i l before = before ∙ ap (map g) (take_all i xs l)

-- ---- the last segment of a path

-- a segment behind others
abbrev pub behind : Segments → Segment → Segments
behind no_segments z = more_segments z no_segments
behind (more_segments x rest) z = more_segments x (behind rest z)

pub push_segments : (xs : List PathSegment) (z : PathSegment) → segments_view (xs ++ z ∷ []) ≡ behind (segments_view xs) (segment_view z)
push_segments [] z = refl
push_segments (x ∷ xs) z = ap (more_segments (segment_view x)) (push_segments xs z)

-- the last of these segments is the one behind the others
front : (xs : List PathSegment) (n : ℕ) (z : PathSegment) → length xs ≡ suc n → z ≡ slice_index_or xs n z → segments_view xs ≡ behind (segments_view (take n xs)) (segment_view z)
front [] n z l is = absurd (omega arith)
front (x ∷ []) zero z l is = ap (λ y. more_segments y no_segments) (ap segment_view (sym is))
front (x ∷ y ∷ ys) zero z l is = absurd (omega arith)
front (x ∷ xs) (suc n) z l is = ap (more_segments (segment_view x)) (front xs n z (omega arith) is)

pub front_segments : (xs : List PathSegment) (z : PathSegment) → 1 ≤ length xs → z ≡ slice_index_or xs (length xs - 1) z → segments_view xs ≡ behind (segments_view (take (length xs - 1) xs)) (segment_view z)
front_segments xs z l is = front xs (length xs - 1) z (omega arith) is

module _ (p : Known) (f : Standing) (at : Option Span) where
  pub behind_expanded : (xs : Segments) (z : Segment) → expanded_last p f at (behind xs z) ≡ behind xs (expanded_segment p f at z)
  behind_expanded no_segments z = refl
  behind_expanded (more_segments x no_segments) z = refl
  behind_expanded (more_segments x (more_segments y ys)) z = ap (more_segments x) (behind_expanded (more_segments y ys) z)

pub behind_size : (p : Known) (xs : Segments) (z : Segment) → last_size p (behind xs z) ≡ segment_size p z
behind_size p no_segments z = refl
behind_size p (more_segments x no_segments) z = refl
behind_size p (more_segments x (more_segments y ys)) z = behind_size p (more_segments y ys) z

module _ (p : Known) (place : Place) (q : Path) (ss : List PathSegment) (z : PathSegment) (e : ss ≡ (out-Path q).segments) (l : 1 ≤ length ss) (is : z ≡ slice_index_or ss (length ss - 1) z) where
  pub path_last : path_here p place (path_view q) ≡ path_of (out-Path q).leading (behind (segments_view (take (length ss - 1) ss)) (segment_here p place (segment_view z))) (span_at place.at (out-Path q).span)
  path_last =
      ap (path_here p place) (path_view_is q)
      ∙ ap (λ xs. path_of (out-Path q).leading (expanded_last p (standing p place.below) place.at xs) (span_at place.at (out-Path q).span)) (ap segments_view (sym e) ∙ front_segments ss z l is)
      ∙ ap (λ xs. path_of (out-Path q).leading xs (span_at place.at (out-Path q).span)) (behind_expanded p (standing p place.below) place.at (segments_view (take (length ss - 1) ss)) (segment_view z))

  pub path_last_size : path_size p (path_here p place (path_view q)) ≡ suc (segment_size p (segment_here p place (segment_view z)))
  path_last_size = ap (path_size p) path_last ∙ ap suc (behind_size p (segments_view (take (length ss - 1) ss)) (segment_here p place (segment_view z)))

-- of a path without segments
pub path_none : (p : Known) (place : Place) (q : Path) (ss : List PathSegment) → ss ≡ (out-Path q).segments → length ss < 1 → path_here p place (path_view q) ≡ path_of (out-Path q).leading no_segments (span_at place.at (out-Path q).span)
path_none p place q [] e l = ap (path_here p place) (path_view_is q) ∙ ap (λ xs. path_of (out-Path q).leading (expanded_last p (standing p place.below) place.at (segments_view xs)) (span_at place.at (out-Path q).span)) (sym e)
path_none p place q (x ∷ xs) e l = absurd (omega arith)

-- ---- the arguments of a segment

pub segment_list : (p : Known) (place : Place) (s : PathSegment) (args : Items GenericArgument) (xs : List GenericArgument) → s.arguments ≡ Some args → xs ≡ args
    → segment_here p place (segment_view s) ≡ applied (ident_at place.at s.ident) (list_here p place (arguments_view xs))
segment_list p place s args xs e f =
    ap (segment_here p place) (view-segment s ∙ ap (λ o. segment_of s.ident (option_map (map (λ (a : GenericArgument). argument_view a)) o)) e)
    ∙ ap (λ ys. applied (ident_at place.at s.ident) (list_here p place (arguments_view ys))) (sym f)
