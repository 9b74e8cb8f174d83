-- Written types are equal exactly where they are the same without their spans.
use Rattle.std.proofs.Common.{◌≡◌, Bool, refl, true, false, ap, sym, ◌∙◌, List, [], ◌∷◌, map, ◌&&◌, subst, Option, Some, None, ℕ}
use Rattle.std.specs.Bool.{Decides, beq}
use Rattle.std.specs.Cmp.{booleans_Decides}
use Rattle.std.specs.Cmp.Lexicographic.{pointwise}
use Rattle.std.specs.List.{AllByRecursion}
use Rattle.std.specs.Option.{option_eq, option_map}
use Rattle.std.proofs.lemmas.Bool.Decides.{Decides-and, Decides-at, Decides-like}
use Rattle.std.proofs.lemmas.Slice.Eq.{bytes_eq-Decides}
use Rattle.texts.specs.Span.{no_span}
use Rattle.tokens.specs.Trees.{trees_view}
use Rattle.tokens.proofs.Laws.{same_trees, lists_equal, each_beside, each_of}
use Rattle.written_types.specs.declared.written.Ident.{Ident}
use Rattle.written_types.specs.declared.written.Path.{Path}
use Rattle.written_types.specs.declared.written.PathSegment.{PathSegment}
use Rattle.written_types.specs.declared.written.GenericArgument as variants
use Rattle.written_types.specs.declared.written.GenericArgument.{GenericArgument}
use Rattle.written_types.specs.declared.written.WrittenType.{WrittenType}
use Rattle.written_types.specs.declared.written.GenericArgument.TheFolds as folds
use Rattle.written_types.specs.declared.written.GenericArgument.TheOpen.{GenericArgument-F, WrittenType-F, Path-F, PathSegment-F}
use Rattle.written_types.specs.declared.written.GenericArgument.TheViews as views
use Rattle.written_types.specs.contracts.written.IdentPartialEq.TheImpl as ident_eq
use Rattle.written_types.specs.contracts.written.PathPartialEq.TheImpl as path_eq
use Rattle.written_types.specs.contracts.written.PathPartialEq.TheImpl.Laws as path_laws
use Rattle.written_types.specs.contracts.written.PathSegmentPartialEq.TheImpl as segment_eq
use Rattle.written_types.specs.contracts.written.PathSegmentPartialEq.TheImpl.Laws as segment_laws
use Rattle.written_types.specs.contracts.written.GenericArgumentPartialEq.TheImpl as argument_eq
use Rattle.written_types.specs.contracts.written.GenericArgumentPartialEq.TheImpl.Laws as argument_laws
use Rattle.written_types.specs.contracts.written.WrittenTypePartialEq.TheImpl as type_eq
use Rattle.written_types.specs.contracts.written.WrittenTypePartialEq.TheImpl.Laws as type_laws
use Rattle.written_types.specs.Written.{Written, path, reference, tuple, slice, array, trait_object, WrittenPath, path_of, Segment, plain, Argument, lifetime_argument, constant_argument, type_argument, segment_of, argument_step, written_step, path_step, segment_step, written_view, path_view, segment_view, argument_view, writtens_view, segments_view, arguments_view}
use Rattle.written_types.specs.Spanless.{ident_without_span, type_without_spans, types_without_spans, path_without_spans, segments_without_spans, segment_without_spans, arguments_without_spans, argument_without_spans}

abbrev pub same_idents : Ident → Ident → Bool
same_idents = (ident_eq.ghosts).eq

abbrev pub same_paths : Path → Path → Bool
same_paths = (path_eq.ghosts).eq

abbrev pub same_segments : PathSegment → PathSegment → Bool
same_segments = (segment_eq.ghosts).eq

abbrev pub same_arguments : GenericArgument → GenericArgument → Bool
same_arguments = (argument_eq.ghosts).eq

abbrev pub same_types : WrittenType → WrittenType → Bool
same_types = (type_eq.ghosts).eq

abbrev named : List ℕ → Ident
named text = record { text = text; raw = false; span = no_span }

pub idents_equal : (x y : Ident) → Decides (same_idents x y) (ident_without_span x ≡ ident_without_span y)
idents_equal x y = Decides-like _ (λ e. ap named e) (λ e. ap (λ v. v.text) e) (bytes_eq-Decides x.text y.text)

-- ---- what is claimed of each
abbrev EqualArgument : GenericArgument → Type 0
EqualArgument x = (y : GenericArgument) → Decides (same_arguments x y) (argument_without_spans (argument_view x) ≡ argument_without_spans (argument_view y))

abbrev EqualType : WrittenType → Type 0
EqualType t = (u : WrittenType) → Decides (same_types t u) (type_without_spans (written_view t) ≡ type_without_spans (written_view u))

abbrev EqualPath : Path → Type 0
EqualPath p = (q : Path) → Decides (same_paths p q) (path_without_spans (path_view p) ≡ path_without_spans (path_view q))

abbrev EqualSegment : PathSegment → Type 0
EqualSegment s = (t : PathSegment) → Decides (same_segments s t) (segment_without_spans (segment_view s) ≡ segment_without_spans (segment_view t))

types : (ts us : List WrittenType) → AllByRecursion EqualType ts → Decides (pointwise same_types ts us) (types_without_spans (writtens_view ts) ≡ types_without_spans (writtens_view us))
types [] [] each = (λ e. refl, λ e. refl)
types [] (u ∷ us) each = (λ e. cc, λ e. cc)
types (t ∷ ts) [] each = (λ e. cc, λ e. cc)
types (t ∷ ts) (u ∷ us) each = Decides-like _ (λ p. cc) (λ e. (cc, cc)) (Decides-and _ _ (each.0 u) (types ts us each.1))

segments : (ss ts : List PathSegment) → AllByRecursion EqualSegment ss → Decides (pointwise same_segments ss ts) (segments_without_spans (segments_view ss) ≡ segments_without_spans (segments_view ts))
segments [] [] each = (λ e. refl, λ e. refl)
segments [] (t ∷ ts) each = (λ e. cc, λ e. cc)
segments (s ∷ ss) [] each = (λ e. cc, λ e. cc)
segments (s ∷ ss) (t ∷ ts) each = Decides-like _ (λ p. cc) (λ e. (cc, cc)) (Decides-and _ _ (each.0 t) (segments ss ts each.1))

arguments : (xs ys : List GenericArgument) → AllByRecursion EqualArgument xs → Decides (pointwise same_arguments xs ys) (arguments_without_spans (arguments_view xs) ≡ arguments_without_spans (arguments_view ys))
arguments [] [] each = (λ e. refl, λ e. refl)
arguments [] (y ∷ ys) each = (λ e. cc, λ e. cc)
arguments (x ∷ xs) [] each = (λ e. cc, λ e. cc)
arguments (x ∷ xs) (y ∷ ys) each = Decides-like _ (λ p. cc) (λ e. (cc, cc)) (Decides-and _ _ (each.0 y) (arguments xs ys each.1))

-- ---- types, by one level
abbrev TypeLevel : Type 0
TypeLevel = WrittenType-F GenericArgument WrittenType Path PathSegment

abbrev type_level : TypeLevel → TypeLevel → Bool
type_level (WrittenType-F.Path p) (WrittenType-F.Path q) = same_paths p q
type_level (WrittenType-F.Reference t) (WrittenType-F.Reference u) = same_types t.value u.value
type_level (WrittenType-F.Tuple ts s) (WrittenType-F.Tuple us r) = pointwise same_types ts us
type_level (WrittenType-F.Slice t s) (WrittenType-F.Slice u r) = same_types t.value u.value
type_level (WrittenType-F.Array t s) (WrittenType-F.Array u r) = same_types t.value u.value
type_level (WrittenType-F.TraitObject p s) (WrittenType-F.TraitObject q r) = same_paths p q
type_level _ _ = false

type_level_is : (t u : WrittenType) (x y : TypeLevel) → views.out-WrittenType t ≡ x → views.out-WrittenType u ≡ y → same_types t u ≡ type_level x y
type_level_is t u (WrittenType-F.Path p) (WrittenType-F.Path q) e f = type_laws.is t u ∙ rw (e, f) refl
type_level_is t u (WrittenType-F.Reference a) (WrittenType-F.Reference b) e f = type_laws.is t u ∙ rw (e, f) refl
type_level_is t u (WrittenType-F.Tuple ts s) (WrittenType-F.Tuple us r) e f = type_laws.is t u ∙ rw (e, f) refl
type_level_is t u (WrittenType-F.Slice a s) (WrittenType-F.Slice b r) e f = type_laws.is t u ∙ rw (e, f) refl
type_level_is t u (WrittenType-F.Array a s) (WrittenType-F.Array b r) e f = type_laws.is t u ∙ rw (e, f) refl
type_level_is t u (WrittenType-F.TraitObject p s) (WrittenType-F.TraitObject q r) e f = type_laws.is t u ∙ rw (e, f) refl
type_level_is t u _ _ e f = type_laws.is t u ∙ rw (e, f) refl

abbrev type_shown : TypeLevel → Written
type_shown (WrittenType-F.Path p) = path (path_view p)
type_shown (WrittenType-F.Reference t) = reference (written_view t.value)
type_shown (WrittenType-F.Tuple ts s) = tuple (writtens_view ts) s
type_shown (WrittenType-F.Slice t s) = slice (written_view t.value) s
type_shown (WrittenType-F.Array t s) = array (written_view t.value) s
type_shown (WrittenType-F.TraitObject p s) = trait_object (path_view p) s

type_view_is : (t : WrittenType) (x : TypeLevel) → views.out-WrittenType t ≡ x → written_view t ≡ type_shown x
type_view_is t (WrittenType-F.Path p) e = folds.fold_out-WrittenType Argument Written WrittenPath Segment argument_step written_step path_step segment_step t ∙ rw e refl
type_view_is t (WrittenType-F.Reference a) e = folds.fold_out-WrittenType Argument Written WrittenPath Segment argument_step written_step path_step segment_step t ∙ rw e refl
type_view_is t (WrittenType-F.Tuple ts s) e = folds.fold_out-WrittenType Argument Written WrittenPath Segment argument_step written_step path_step segment_step t ∙ rw e refl
type_view_is t (WrittenType-F.Slice a s) e = folds.fold_out-WrittenType Argument Written WrittenPath Segment argument_step written_step path_step segment_step t ∙ rw e refl
type_view_is t (WrittenType-F.Array a s) e = folds.fold_out-WrittenType Argument Written WrittenPath Segment argument_step written_step path_step segment_step t ∙ rw e refl
type_view_is t (WrittenType-F.TraitObject p s) e = folds.fold_out-WrittenType Argument Written WrittenPath Segment argument_step written_step path_step segment_step t ∙ rw e refl

-- ---- with a proof beside each part
abbrev TypeBeside : Type 0
TypeBeside = WrittenType-F ((x : GenericArgument) × EqualArgument x) ((t : WrittenType) × EqualType t) ((p : Path) × EqualPath p) ((s : PathSegment) × EqualSegment s)

abbrev type_alone : TypeBeside → TypeLevel
type_alone = folds.map-WrittenType _ _ _ _ GenericArgument WrittenType Path PathSegment (λ e. e.0) (λ e. e.0) (λ e. e.0) (λ e. e.0)

type_levels : (x : TypeBeside) (y : TypeLevel) → Decides (type_level (type_alone x) y) (type_without_spans (type_shown (type_alone x)) ≡ type_without_spans (type_shown y))
type_levels (WrittenType-F.Path p) (WrittenType-F.Path q) = Decides-like _ (λ e. ap path e) (λ e. cc) (p.1 q)
type_levels (WrittenType-F.Reference t) (WrittenType-F.Reference u) = Decides-like _ (λ e. ap reference e) (λ e. cc) (t.value.1 u.value)
type_levels (WrittenType-F.Tuple ts s) (WrittenType-F.Tuple us r) = Decides-like _ (λ e. cc) (λ e. cc) (types (map (λ e. e.0) ts) us (each_beside EqualType ts))
type_levels (WrittenType-F.Slice t s) (WrittenType-F.Slice u r) = Decides-like _ (λ e. cc) (λ e. cc) (t.value.1 u.value)
type_levels (WrittenType-F.Array t s) (WrittenType-F.Array u r) = Decides-like _ (λ e. cc) (λ e. cc) (t.value.1 u.value)
type_levels (WrittenType-F.TraitObject p s) (WrittenType-F.TraitObject q r) = Decides-like _ (λ e. cc) (λ e. cc) (p.1 q)
type_levels _ _ = (λ e. cc, λ e. cc)

at_type : (x : TypeLevel) (y : TypeBeside) → type_alone y ≡ x → EqualType (views.roll-WrittenType x)
at_type x y is u =
    let t = views.roll-WrittenType x in
    let e = views.out-roll-WrittenType x in
    let z = views.out-WrittenType u in
    subst (λ (p : Written × Written). Decides (same_types t u) (type_without_spans p.0 ≡ type_without_spans p.1)) (λ i. (sym (type_view_is t x e) i, sym (type_view_is u z refl) i))
    (Decides-at _ _ (type_level_is t u x z e refl) (subst (λ v. Decides (type_level v z) (type_without_spans (type_shown v) ≡ type_without_spans (type_shown z))) is (type_levels y z)))

-- ---- arguments
abbrev ArgumentLevel : Type 0
ArgumentLevel = GenericArgument-F GenericArgument WrittenType Path PathSegment

abbrev argument_level : ArgumentLevel → ArgumentLevel → Bool
argument_level (GenericArgument-F.Lifetime x) (GenericArgument-F.Lifetime y) = same_idents x y
argument_level (GenericArgument-F.Constant ts) (GenericArgument-F.Constant us) = pointwise same_trees ts us
argument_level (GenericArgument-F.Ty t) (GenericArgument-F.Ty u) = same_types t u
argument_level _ _ = false

argument_level_is : (t u : GenericArgument) → same_arguments t u ≡ argument_level (views.out-GenericArgument t) (views.out-GenericArgument u)
unfolding views.out-GenericArgument denote.Hole.Carrier.out
argument_level_is (variants.Lifetime x) (variants.Lifetime y) = argument_laws.is _ _
argument_level_is (variants.Constant ts) (variants.Constant us) = argument_laws.is _ _
argument_level_is (variants.Ty a) (variants.Ty b) = argument_laws.is _ _
argument_level_is t u = argument_laws.is t u

abbrev argument_shown : ArgumentLevel → Argument
argument_shown (GenericArgument-F.Lifetime x) = lifetime_argument x
argument_shown (GenericArgument-F.Constant ts) = constant_argument (trees_view ts)
argument_shown (GenericArgument-F.Ty t) = type_argument (written_view t)

argument_view_is : (t : GenericArgument) (x : ArgumentLevel) → views.out-GenericArgument t ≡ x → argument_view t ≡ argument_shown x
argument_view_is t (GenericArgument-F.Lifetime x) e = folds.fold_out-GenericArgument Argument Written WrittenPath Segment argument_step written_step path_step segment_step t ∙ rw e refl
argument_view_is t (GenericArgument-F.Constant ts) e = folds.fold_out-GenericArgument Argument Written WrittenPath Segment argument_step written_step path_step segment_step t ∙ rw e refl
argument_view_is t (GenericArgument-F.Ty a) e = folds.fold_out-GenericArgument Argument Written WrittenPath Segment argument_step written_step path_step segment_step t ∙ rw e refl

abbrev ArgumentBeside : Type 0
ArgumentBeside = GenericArgument-F ((x : GenericArgument) × EqualArgument x) ((t : WrittenType) × EqualType t) ((p : Path) × EqualPath p) ((s : PathSegment) × EqualSegment s)

abbrev argument_alone : ArgumentBeside → ArgumentLevel
argument_alone = folds.map-GenericArgument _ _ _ _ GenericArgument WrittenType Path PathSegment (λ e. e.0) (λ e. e.0) (λ e. e.0) (λ e. e.0)

argument_levels : (x : ArgumentBeside) (y : ArgumentLevel) → Decides (argument_level (argument_alone x) y) (argument_without_spans (argument_shown (argument_alone x)) ≡ argument_without_spans (argument_shown y))
argument_levels (GenericArgument-F.Lifetime x) (GenericArgument-F.Lifetime y) = Decides-like _ (λ e. ap lifetime_argument e) (λ e. cc) (idents_equal x y)
argument_levels (GenericArgument-F.Constant ts) (GenericArgument-F.Constant us) = Decides-like _ (λ e. ap constant_argument e) (λ e. cc) (lists_equal ts us)
argument_levels (GenericArgument-F.Ty t) (GenericArgument-F.Ty u) = Decides-like _ (λ e. ap type_argument e) (λ e. cc) (t.1 u)
argument_levels _ _ = (λ e. cc, λ e. cc)

at_argument : (x : ArgumentLevel) (y : ArgumentBeside) → argument_alone y ≡ x → EqualArgument (views.roll-GenericArgument x)
at_argument x y is u =
    let t = views.roll-GenericArgument x in
    let e = views.out-roll-GenericArgument x in
    let z = views.out-GenericArgument u in
    subst (λ (p : Argument × Argument). Decides (same_arguments t u) (argument_without_spans p.0 ≡ argument_without_spans p.1)) (λ i. (sym (argument_view_is t x e) i, sym (argument_view_is u z refl) i))
    (Decides-at _ _ (argument_level_is t u) (subst (λ v. Decides (argument_level v z) (argument_without_spans (argument_shown x) ≡ argument_without_spans (argument_shown z))) (sym e)
    (subst (λ v. Decides (argument_level v z) (argument_without_spans (argument_shown v) ≡ argument_without_spans (argument_shown z))) is (argument_levels y z))))

-- ---- paths
pub path_view_is : (p : Path) → path_view p ≡ path_of (views.out-Path p).leading (segments_view (views.out-Path p).segments) (views.out-Path p).span
path_view_is p = folds.fold_out-Path Argument Written WrittenPath Segment argument_step written_step path_step segment_step p

path_is : (p q : Path) → same_paths p q ≡ (beq (views.out-Path p).leading (views.out-Path q).leading && pointwise same_segments (views.out-Path p).segments (views.out-Path q).segments)
path_is p q = path_laws.is p q

path_by_each : (p q : Path) → AllByRecursion EqualSegment (views.out-Path p).segments → Decides (same_paths p q) (path_without_spans (path_view p) ≡ path_without_spans (path_view q))
path_by_each p q each =
    let e = ap path_without_spans (path_view_is p) in
    let f = ap path_without_spans (path_view_is q) in
    Decides-at _ _ (path_is p q) (Decides-like _ (λ p. cc) (λ k. (cc, cc))
    (Decides-and _ _ (booleans_Decides (views.out-Path p).leading (views.out-Path q).leading) (segments (views.out-Path p).segments (views.out-Path q).segments each)))

-- ---- segments
abbrev segment_map : PathSegment-F GenericArgument WrittenType Path PathSegment → PathSegment-F Argument Written WrittenPath Segment
segment_map = folds.map-PathSegment _ _ _ _ Argument Written WrittenPath Segment argument_view written_view path_view segment_view

segment_stepped : (x : Ident) (o : Option (List GenericArgument)) → segment_step (segment_map record { ident = x; arguments = o }) ≡ segment_of x (option_map (map argument_view) o)
segment_stepped x None = refl
segment_stepped x (Some xs) = refl

segment_view_is : (s : PathSegment) → segment_view s ≡ segment_of s.ident (option_map (map argument_view) s.arguments)
segment_view_is s = folds.fold_out-PathSegment Argument Written WrittenPath Segment argument_step written_step path_step segment_step s ∙ ap (λ x. segment_step (segment_map x)) (views.outs-struct-PathSegment s) ∙ segment_stepped s.ident s.arguments

pub segment_is : (s t : PathSegment) → same_segments s t ≡ (same_idents s.ident t.ident && option_eq (pointwise same_arguments) s.arguments t.arguments)
segment_is s t = segment_laws.is s t

abbrev EachIn : Option (List GenericArgument) → Type 0
EachIn None = Unit {0}
EachIn (Some xs) = AllByRecursion EqualArgument xs

lists_of : (x y : Ident) (o p : Option (List GenericArgument)) → EachIn o
    → Decides (same_idents x y && option_eq (pointwise same_arguments) o p) (segment_without_spans (segment_of x (option_map (map argument_view) o)) ≡ segment_without_spans (segment_of y (option_map (map argument_view) p)))
lists_of x y None None each = Decides-like _ (λ (p : (ident_without_span x ≡ ident_without_span y) × Unit {0}). ap plain p.0) (λ e. (cc, tt)) (Decides-and _ true (idents_equal x y) (λ e. tt, λ h. refl))
lists_of x y None (Some ys) each = Decides-like _ (λ (p : (ident_without_span x ≡ ident_without_span y) × ⊥). absurd p.1) (λ e. cc) (Decides-and _ false (idents_equal x y) (λ e. cc, λ h. absurd h))
lists_of x y (Some xs) None each = Decides-like _ (λ (p : (ident_without_span x ≡ ident_without_span y) × ⊥). absurd p.1) (λ e. cc) (Decides-and _ false (idents_equal x y) (λ e. cc, λ h. absurd h))
lists_of x y (Some xs) (Some ys) each = Decides-like _ (λ p. cc) (λ e. (cc, cc)) (Decides-and _ _ (idents_equal x y) (arguments xs ys each))

segment_by_each : (s t : PathSegment) → EachIn s.arguments → Decides (same_segments s t) (segment_without_spans (segment_view s) ≡ segment_without_spans (segment_view t))
segment_by_each s t each =
    subst (λ (p : Segment × Segment). Decides (same_segments s t) (segment_without_spans p.0 ≡ segment_without_spans p.1)) (λ i. (sym (segment_view_is s) i, sym (segment_view_is t) i))
    (Decides-at _ _ (segment_is s t) (lists_of s.ident t.ident s.arguments t.arguments each))

-- ---- by induction
in_path : (x : Path-F GenericArgument WrittenType Path PathSegment) (y : Path-F ((x : GenericArgument) × EqualArgument x) ((t : WrittenType) × EqualType t) ((p : Path) × EqualPath p) ((s : PathSegment) × EqualSegment s))
    → folds.map-Path _ _ _ _ GenericArgument WrittenType Path PathSegment (λ e. e.0) (λ e. e.0) (λ e. e.0) (λ e. e.0) y ≡ x → EqualPath (views.roll-Path x)
in_path x y is q = path_by_each (views.roll-Path x) q (subst (AllByRecursion EqualSegment) (ap (λ v. v.segments) (is ∙ sym (views.out-roll-Path x))) (each_beside EqualSegment y.segments))

abbrev SegmentBeside : Type 0
SegmentBeside = PathSegment-F ((x : GenericArgument) × EqualArgument x) ((t : WrittenType) × EqualType t) ((p : Path) × EqualPath p) ((s : PathSegment) × EqualSegment s)

abbrev segment_alone : SegmentBeside → PathSegment-F GenericArgument WrittenType Path PathSegment
segment_alone = folds.map-PathSegment _ _ _ _ GenericArgument WrittenType Path PathSegment (λ e. e.0) (λ e. e.0) (λ e. e.0) (λ e. e.0)

each_in : (x : PathSegment-F GenericArgument WrittenType Path PathSegment) (i : Ident) (o : Option (List ((x : GenericArgument) × EqualArgument x))) → segment_alone record { ident = i; arguments = o } ≡ x → EachIn x.arguments
each_in x i None is = subst EachIn (ap (λ v. v.arguments) is) tt
each_in x i (Some xs) is = subst EachIn (ap (λ v. v.arguments) is) (each_beside EqualArgument xs)

in_segment : (x : PathSegment-F GenericArgument WrittenType Path PathSegment) (y : SegmentBeside) → segment_alone y ≡ x → EqualSegment (views.roll-PathSegment x)
in_segment x y is t = segment_by_each (views.roll-PathSegment x) t (each_in x y.ident y.arguments is)

pub arguments_equal : (x : GenericArgument) → EqualArgument x
arguments_equal = folds.ind-GenericArgument EqualArgument EqualType EqualPath EqualSegment at_argument at_type in_path in_segment

pub types_equal : (t : WrittenType) → EqualType t
types_equal = folds.ind-WrittenType EqualArgument EqualType EqualPath EqualSegment at_argument at_type in_path in_segment

pub paths_equal : (p : Path) → EqualPath p
paths_equal = folds.ind-Path EqualArgument EqualType EqualPath EqualSegment at_argument at_type in_path in_segment

each_argument : (o : Option (List GenericArgument)) → EachIn o
each_argument None = tt
each_argument (Some xs) = each_of EqualArgument arguments_equal xs

pub segments_equal : (s : PathSegment) → EqualSegment s
segments_equal s t = segment_by_each s t (each_argument s.arguments)
