-- What loops over the parts of types come to.
use Rattle.std.proofs.Common.{◌≡◌, ◌<◌, ◌≤◌, ◌+◌, ◌-◌, ℕ, zero, suc, List, [], ◌∷◌, ◌++◌, Bool, ◌||◌, Option, Some, None, option_map, map, length, get_or, slice_index_or, nat_lt, drop, lt-ltb, refl, sym, ap, ◌∙◌, arith, rules, add-one, drop-cons, append_assoc, append-nil}
use Rattle.std.specs.List.{filter_map, cons_option}
use Rattle.std.proofs.lemmas.List.{drop_all, map_push}
use Rattle.tokens.specs.declared.token.TokenTree.{TokenTree}
use Rattle.tokens.specs.Trees.{trees_view}
use Rattle.texts.specs.declared.list.List.{List as Tokens}
use Rattle.texts.specs.declared.span.Span.{Span}
use Rattle.written_types.specs.declared.written.Ident.{Ident}
use Rattle.written_types.specs.declared.written.WrittenType.{WrittenType}
use Rattle.written_types.specs.declared.written.GenericArgument.{GenericArgument, the_lemmas as argument_lemmas}
use Rattle.written_types.specs.declared.written.GenericArgument.TheVariants as arguments
use Rattle.written_types.specs.declared.written.PathSegment.{PathSegment, the_lemmas as segment_lemmas}
use Rattle.written_types.specs.declared.written.Path.{Path, out-Path, roll-Path, the_lemmas as path_lemmas}
use Rattle.written_types.specs.Written.{path_of, Segments, no_segments, more_segments, Segment, segment_of, Arguments, Argument, lifetime_argument, constant_argument, type_argument, more_types, no_arguments, more_arguments, writtens_of, arguments_of, written_view, writtens_view, path_view, segment_view, segments_view, argument_view, arguments_view}
use Rattle.written_types.proofs.Laws.{path_view_is}
use Rattle.configuration.specs.Aliases.{segment_name, last_name, last_names, types_last_names, path_last_names, segments_last_names, segment_last_names, arguments_last_names, argument_last_names, are_several, bare, all_bare, bare_path, bare_segment, last_bare, types_among, type_before}

-- ---- parts of a view

view-type : (t : WrittenType) → argument_view (arguments.Ty t) ≡ type_argument (written_view t)
view-type t = search (rules, argument_lemmas)

view-lifetime : (x : Ident) → argument_view (arguments.Lifetime x) ≡ lifetime_argument x
view-lifetime x = search (rules, argument_lemmas)

view-constant : (ts : Tokens TokenTree) → argument_view (arguments.Constant ts) ≡ constant_argument (trees_view ts)
view-constant ts = search (rules, argument_lemmas)

view-segment : (s : PathSegment) → segment_view s ≡ segment_of s.ident (option_map (map (λ (a : GenericArgument). argument_view a)) s.arguments)
view-segment s = search (rules, segment_lemmas)

view-path : (leading : Bool) (ss : List PathSegment) (s : Span) → path_view (roll-Path record { leading = leading; segments = ss; span = s }) ≡ path_of leading (segments_view ss) s
view-path leading ss s = search (rules, path_lemmas)

types_drop : (ts : List WrittenType) (i : ℕ) (t : WrittenType) → i < length ts → t ≡ get_or ts i t → writtens_view (drop i ts) ≡ more_types (written_view t) (writtens_view (drop (i + 1) ts))
types_drop ts i t h e = rw (add-one, drop-cons ts i t, ← e)

arguments_drop : (xs : List GenericArgument) (i : ℕ) (a : GenericArgument) → i < length xs → a ≡ get_or xs i a → arguments_view (drop i xs) ≡ more_arguments (argument_view a) (arguments_view (drop (i + 1) xs))
arguments_drop xs i a h e = rw (add-one, drop-cons xs i a, ← e)

segments_drop : (ss : List PathSegment) (i : ℕ) (s : PathSegment) → i < length ss → s ≡ get_or ss i s → segments_view (drop i ss) ≡ more_segments (segment_view s) (segments_view (drop (i + 1) ss))
segments_drop ss i s h e = rw (add-one, drop-cons ss i s, ← e)

-- ---- the last segment

last_of : {A : Type 0} (f : Segments → A) (g : Segment → A) → ((s : Segment) → f (more_segments s no_segments) ≡ g s) → ((s u : Segment) (rest : Segments) → f (more_segments s (more_segments u rest)) ≡ f (more_segments u rest)) →
    (ss : List PathSegment) (d : PathSegment) (n : ℕ) → length ss ≡ suc n → f (segments_view ss) ≡ g (segment_view (slice_index_or ss n d))
last_of f g one more [] d n l = absurd (omega arith)
last_of f g one more (s ∷ []) d zero l = one (segment_view s)
last_of f g one more (s ∷ []) d (suc n) l = absurd (omega arith)
last_of f g one more (s ∷ t ∷ ss) d zero l = absurd (omega arith)
last_of f g one more (s ∷ t ∷ ss) d (suc n) l = more (segment_view s) (segment_view t) (segments_view ss) ∙ last_of f g one more (t ∷ ss) d n (omega arith)

name-of : (x : Ident) (o : Option (List Argument)) → segment_name (segment_of x o) ≡ x.text
name-of x None = refl
name-of x (Some args) = refl

module _ (ss : List PathSegment) (s : PathSegment) (l : 1 ≤ length ss) (is : s ≡ slice_index_or ss (length ss - 1) s) where
  last_name-is : last_name (segments_view ss) ≡ s.ident.text ∷ []
  last_name-is =
      last_of last_name (λ x. segment_name x ∷ []) (λ x. refl) (λ x u rest. refl) ss s (length ss - 1) (omega arith)
      ∙ ap (λ x. segment_name (segment_view x) ∷ []) (sym is)
      ∙ ap (λ n. n ∷ []) (ap segment_name (view-segment s) ∙ name-of s.ident (option_map (map (λ (a : GenericArgument). argument_view a)) s.arguments))

  pub last_bare-is : last_bare (segments_view ss) ≡ more_segments (bare_segment (segment_view s)) no_segments
  last_bare-is =
      last_of last_bare (λ x. more_segments (bare_segment x) no_segments) (λ x. refl) (λ x u rest. refl) ss s (length ss - 1) (omega arith)
      ∙ ap (λ x. more_segments (bare_segment (segment_view x)) no_segments) (sym is)

-- ---- names that are added

-- the name of the last segment is added
pub last_added : (old new : List (List ℕ)) (ss : List PathSegment) (s : PathSegment) (text : List ℕ) → 1 ≤ length ss → s ≡ slice_index_or ss (length ss - 1) s → text ≡ s.ident.text → new ≡ old ++ text ∷ [] → new ≡ old ++ last_name (segments_view ss)
last_added old new ss s text l is same e = e ∙ ap (λ n. old ++ n ∷ []) same ∙ ap (λ ns. old ++ ns) (sym (last_name-is ss s l is))

-- what is added for the first names, and then for the rest, is added for all
added : (now after whole front rest : List (List ℕ)) → now ++ (front ++ rest) ≡ whole → after ≡ now ++ front → after ++ rest ≡ whole
added now after whole front rest w e = ap (λ xs. xs ++ rest) e ∙ append_assoc now front rest ∙ w

pub types_turn : (now after whole : List (List ℕ)) (ts : List WrittenType) (i : ℕ) (t : WrittenType) → i < length ts → t ≡ get_or ts i t → now ++ types_last_names (writtens_view (drop i ts)) ≡ whole →
    after ≡ now ++ last_names (written_view t) → after ++ types_last_names (writtens_view (drop (i + 1) ts)) ≡ whole
types_turn now after whole ts i t h is w e =
    added now after whole (last_names (written_view t)) (types_last_names (writtens_view (drop (i + 1) ts)))
    (ap (λ v. now ++ types_last_names v) (sym (types_drop ts i t h is)) ∙ w) e

argument_turn : (now after whole : List (List ℕ)) (xs : List GenericArgument) (i : ℕ) (a : GenericArgument) (v : Argument) → i < length xs → a ≡ get_or xs i a → argument_view a ≡ v → now ++ arguments_last_names (arguments_view (drop i xs)) ≡ whole →
    after ≡ now ++ argument_last_names v → after ++ arguments_last_names (arguments_view (drop (i + 1) xs)) ≡ whole
argument_turn now after whole xs i a v h is view w e =
    added now after whole (argument_last_names v) (arguments_last_names (arguments_view (drop (i + 1) xs)))
    (ap (λ x. now ++ (argument_last_names x ++ arguments_last_names (arguments_view (drop (i + 1) xs)))) (sym view)
    ∙ ap (λ x. now ++ arguments_last_names x) (sym (arguments_drop xs i a h is)) ∙ w) e

pub type_turn : (now after whole : List (List ℕ)) (xs : List GenericArgument) (i : ℕ) (a : GenericArgument) (t : WrittenType) → i < length xs → a ≡ get_or xs i a → a ≡ arguments.Ty t → now ++ arguments_last_names (arguments_view (drop i xs)) ≡ whole →
    after ≡ now ++ last_names (written_view t) → after ++ arguments_last_names (arguments_view (drop (i + 1) xs)) ≡ whole
type_turn now after whole xs i a t h is of w e = argument_turn now after whole xs i a (type_argument (written_view t)) h is (ap argument_view of ∙ view-type t) w e

pub lifetime_turn : (now whole : List (List ℕ)) (xs : List GenericArgument) (i : ℕ) (a : GenericArgument) (x : Ident) → i < length xs → a ≡ get_or xs i a → a ≡ arguments.Lifetime x → now ++ arguments_last_names (arguments_view (drop i xs)) ≡ whole →
    now ++ arguments_last_names (arguments_view (drop (i + 1) xs)) ≡ whole
lifetime_turn now whole xs i a x h is of w = argument_turn now now whole xs i a (lifetime_argument x) h is (ap argument_view of ∙ view-lifetime x) w (sym (append-nil now))

pub constant_turn : (now whole : List (List ℕ)) (xs : List GenericArgument) (i : ℕ) (a : GenericArgument) (ts : Tokens TokenTree) → i < length xs → a ≡ get_or xs i a → a ≡ arguments.Constant ts → now ++ arguments_last_names (arguments_view (drop i xs)) ≡ whole →
    now ++ arguments_last_names (arguments_view (drop (i + 1) xs)) ≡ whole
constant_turn now whole xs i a ts h is of w = argument_turn now now whole xs i a (constant_argument (trees_view ts)) h is (ap argument_view of ∙ view-constant ts) w (sym (append-nil now))

segment_turn : (now after whole : List (List ℕ)) (ss : List PathSegment) (i : ℕ) (s : PathSegment) (o : Option (List GenericArgument)) → i < length ss → s ≡ get_or ss i s → s.arguments ≡ o → now ++ segments_last_names (segments_view (drop i ss)) ≡ whole →
    after ≡ now ++ segment_last_names (segment_of s.ident (option_map (map (λ (a : GenericArgument). argument_view a)) o)) → after ++ segments_last_names (segments_view (drop (i + 1) ss)) ≡ whole
segment_turn now after whole ss i s o h is has w e =
    let view : segment_view s ≡ segment_of s.ident (option_map (map (λ (a : GenericArgument). argument_view a)) o) = view-segment s ∙ ap (λ q. segment_of s.ident (option_map (map (λ (a : GenericArgument). argument_view a)) q)) has in
    added now after whole (segment_last_names (segment_of s.ident (option_map (map (λ (a : GenericArgument). argument_view a)) o))) (segments_last_names (segments_view (drop (i + 1) ss)))
    (ap (λ x. now ++ (segment_last_names x ++ segments_last_names (segments_view (drop (i + 1) ss)))) (sym view)
    ∙ ap (λ x. now ++ segments_last_names x) (sym (segments_drop ss i s h is)) ∙ w) e

pub applied_turn : (now after whole : List (List ℕ)) (ss : List PathSegment) (i : ℕ) (s : PathSegment) (xs : List GenericArgument) → i < length ss → s ≡ get_or ss i s → s.arguments ≡ Some xs → now ++ segments_last_names (segments_view (drop i ss)) ≡ whole →
    after ≡ now ++ arguments_last_names (arguments_view xs) → after ++ segments_last_names (segments_view (drop (i + 1) ss)) ≡ whole
applied_turn now after whole ss i s xs h is has w e = segment_turn now after whole ss i s (Some xs) h is has w e

pub plain_turn : (now whole : List (List ℕ)) (ss : List PathSegment) (i : ℕ) (s : PathSegment) → i < length ss → s ≡ get_or ss i s → s.arguments ≡ None → now ++ segments_last_names (segments_view (drop i ss)) ≡ whole →
    now ++ segments_last_names (segments_view (drop (i + 1) ss)) ≡ whole
plain_turn now whole ss i s h is has w = segment_turn now now whole ss i s None h is has w (sym (append-nil now))

-- the name of the last segment, and then what stands in the arguments of all
pub path_added : (q : Path) (ss : List PathSegment) (old now after : List (List ℕ)) → ss ≡ (out-Path q).segments → now ≡ old ++ last_name (segments_view ss) → after ≡ now ++ segments_last_names (segments_view ss) →
    after ≡ old ++ path_last_names (path_view q)
path_added q ss old now after all e w =
    let v = segments_view ss in
    w ∙ ap (λ xs. xs ++ segments_last_names v) e ∙ append_assoc old (last_name v) (segments_last_names v)
    ∙ ap (λ xs. old ++ (last_name (segments_view xs) ++ segments_last_names (segments_view xs))) all
    ∙ ap (λ p. old ++ path_last_names p) (sym (path_view_is q))

-- ---- places of names that have one

names_drop : (names : List (List ℕ)) (i : ℕ) (n : List ℕ) → i < length names → n ≡ get_or names i n → drop i names ≡ n ∷ drop (i + 1) names
names_drop names i n h e = rw (add-one, drop-cons names i n, ← e)

place_first : (o : Option ℕ) (rest : List ℕ) → cons_option o [] ++ rest ≡ cons_option o rest
place_first None rest = refl
place_first (Some p) rest = refl

pub place_turn : (f : List ℕ → Option ℕ) (now after whole : List ℕ) (names : List (List ℕ)) (i : ℕ) (n : List ℕ) → i < length names → n ≡ get_or names i n → now ++ filter_map f (drop i names) ≡ whole → after ≡ now ++ cons_option (f n) [] →
    after ++ filter_map f (drop (i + 1) names) ≡ whole
place_turn f now after whole names i n h is w e =
    let rest = filter_map f (drop (i + 1) names) in
    ap (λ xs. xs ++ rest) e ∙ append_assoc now (cons_option (f n) []) rest
    ∙ ap (λ ys. now ++ ys) (place_first (f n) rest)
    ∙ ap (λ ns. now ++ filter_map f ns) (sym (names_drop names i n h is))
    ∙ w

-- ---- types without what nothing is resolved from

-- whether there are several segments, by their number
pub several-is : (ss : List PathSegment) → are_several (segments_view ss) ≡ nat_lt 1 (length ss)
several-is [] = refl
several-is (s ∷ []) = refl
several-is (s ∷ t ∷ ss) = sym (lt-ltb 1 (length (s ∷ t ∷ ss)) (omega arith))

-- the last segment alone, in a path
pub path_bare : (q : Path) (ss found : List PathSegment) (leading : Bool) → ss ≡ (out-Path q).segments → leading ≡ (out-Path q).leading || are_several (segments_view (out-Path q).segments) → segments_view found ≡ last_bare (segments_view ss) →
    path_view (roll-Path record { leading = leading; segments = found; span = (out-Path q).span }) ≡ bare_path (path_view q)
path_bare q ss found leading all rooted last =
    view-path leading found (out-Path q).span
    ∙ (λ i. path_of (rooted i) (last i) (out-Path q).span)
    ∙ ap (λ xs. path_of ((out-Path q).leading || are_several (segments_view (out-Path q).segments)) (last_bare (segments_view xs)) (out-Path q).span) all
    ∙ ap bare_path (sym (path_view_is q))

pub all_bare-is : (ts : List WrittenType) → writtens_of (map (λ t. bare (written_view t)) ts) ≡ all_bare (writtens_view ts)
all_bare-is [] = refl
all_bare-is (t ∷ ts) = ap (more_types (bare (written_view t))) (all_bare-is ts)

-- arguments, and then the rest
abbrev pub before : List Argument → Arguments → Arguments
before [] rest = rest
before (a ∷ xs) rest = more_arguments a (before xs rest)

before-push : (xs : List Argument) (a : Argument) (rest : Arguments) → before (xs ++ a ∷ []) rest ≡ before xs (more_arguments a rest)
before-push [] a rest = refl
before-push (b ∷ xs) a rest = ap (more_arguments b) (before-push xs a rest)

before-none : (xs : List Argument) → before xs no_arguments ≡ arguments_of xs
before-none [] = refl
before-none (a ∷ xs) = ap (more_arguments a) (before-none xs)

-- what was kept, and then what is kept of the rest
abbrev pub kept : List GenericArgument → List GenericArgument → Arguments
kept found rest = before (map argument_view found) (types_among (arguments_view rest))

argument_kept : (found : List GenericArgument) (xs : List GenericArgument) (i : ℕ) (a : GenericArgument) (v : Argument) → i < length xs → a ≡ get_or xs i a → argument_view a ≡ v →
    kept found (drop i xs) ≡ before (map argument_view found) (type_before v (types_among (arguments_view (drop (i + 1) xs))))
argument_kept found xs i a v h is view =
    ap (λ ys. before (map argument_view found) (types_among ys)) (arguments_drop xs i a h is)
    ∙ ap (λ x. before (map argument_view found) (type_before x (types_among (arguments_view (drop (i + 1) xs))))) view

pub type_kept : (whole : Arguments) (found : List GenericArgument) (xs : List GenericArgument) (i : ℕ) (a : GenericArgument) (t u : WrittenType) → i < length xs → a ≡ get_or xs i a → a ≡ arguments.Ty t → written_view u ≡ bare (written_view t) →
    kept found (drop i xs) ≡ whole → kept (found ++ arguments.Ty u ∷ []) (drop (i + 1) xs) ≡ whole
type_kept whole found xs i a t u h is of made w =
    let rest = types_among (arguments_view (drop (i + 1) xs)) in
    ap (λ xs. before xs rest) (map_push argument_view found (arguments.Ty u))
    ∙ before-push (map argument_view found) (argument_view (arguments.Ty u)) rest
    ∙ ap (λ v. before (map argument_view found) (more_arguments v rest)) (view-type u ∙ ap type_argument made)
    ∙ sym (argument_kept found xs i a (type_argument (written_view t)) h is (ap argument_view of ∙ view-type t))
    ∙ w

pub lifetime_kept : (whole : Arguments) (found : List GenericArgument) (xs : List GenericArgument) (i : ℕ) (a : GenericArgument) (x : Ident) → i < length xs → a ≡ get_or xs i a → a ≡ arguments.Lifetime x → kept found (drop i xs) ≡ whole → kept found (drop (i + 1) xs) ≡ whole
lifetime_kept whole found xs i a x h is of w = sym (argument_kept found xs i a (lifetime_argument x) h is (ap argument_view of ∙ view-lifetime x)) ∙ w

pub constant_kept : (whole : Arguments) (found : List GenericArgument) (xs : List GenericArgument) (i : ℕ) (a : GenericArgument) (ts : Tokens TokenTree) → i < length xs → a ≡ get_or xs i a → a ≡ arguments.Constant ts → kept found (drop i xs) ≡ whole → kept found (drop (i + 1) xs) ≡ whole
constant_kept whole found xs i a ts h is of w = sym (argument_kept found xs i a (constant_argument (trees_view ts)) h is (ap argument_view of ∙ view-constant ts)) ∙ w

pub kept_all : (whole : Arguments) (found : List GenericArgument) (xs : List GenericArgument) (i : ℕ) → length xs ≤ i → kept found (drop i xs) ≡ whole → arguments_view found ≡ whole
kept_all whole found xs i h w = sym (before-none (map argument_view found)) ∙ ap (λ ys. before (map argument_view found) (types_among (arguments_view ys))) (sym (drop_all i xs h)) ∙ w
