-- How far the expansion of a type has to go: levels of types, and of what stands in them.
use Rattle.std.proofs.Common.{◌≡◌, ◌<◌, ◌≤◌, ◌+◌, ◌*◌, ℕ, zero, suc, List, [], ◌∷◌, Some, option_map, map, length, get_or, slice_index_or, ◌-◌, refl, ap, sym, subst, ◌∙◌, arith}
use Rattle.std.specs.List.{slice_get}
use Rattle.std.proofs.lemmas.Option.{same_Some, none-some}
use Rattle.std.proofs.Math.Nat.{mul-le-mul_right}
use Rattle.written_types.specs.declared.written.WrittenType.{WrittenType}
use Rattle.written_types.specs.declared.written.GenericArgument.{GenericArgument}
use Rattle.written_types.specs.declared.written.PathSegment.{PathSegment}
use Rattle.written_types.specs.declared.written.Path.{Path, out-Path}
use Rattle.texts.specs.declared.list.List.{List as Items}
use Rattle.written_types.specs.Written.{Written, Writtens, WrittenPath, Segments, Segment, Arguments, Argument, path, reference, tuple, slice, array, trait_object, no_types, more_types, path_of, no_segments, more_segments, plain, applied, no_arguments, more_arguments, lifetime_argument, constant_argument, type_argument, segment_of, written_view, path_view, segment_view, segments_view, argument_view, arguments_view, writtens_view, arguments_of}
use Rattle.written_types.proofs.Laws.{path_view_is}
use Rattle.resolving.specs.Known.{type_at}
use Rattle.resolving.specs.declared.known.KnownNames.{KnownNames}
use Rattle.resolving.specs.declared.aliases.Place.{Place}
use Rattle.resolving.proofs.Counted.{view-segment}

abbrev mutual
  pub levels : Written → ℕ
  levels (path p) = suc (path_levels p)
  levels (reference t) = suc (levels t)
  levels (tuple ts s) = suc (suc (types_levels ts))
  levels (slice t s) = suc (levels t)
  levels (array t s) = suc (levels t)
  levels (trait_object p s) = suc (path_levels p)

  pub path_levels : WrittenPath → ℕ
  path_levels (path_of leading ss s) = segments_levels ss

  pub segments_levels : Segments → ℕ
  segments_levels no_segments = 0
  segments_levels (more_segments s rest) = segment_levels s + segments_levels rest

  pub segment_levels : Segment → ℕ
  segment_levels (plain x) = 0
  segment_levels (applied x args) = suc (arguments_levels args)

  pub arguments_levels : Arguments → ℕ
  arguments_levels no_arguments = 0
  arguments_levels (more_arguments a rest) = argument_levels a + arguments_levels rest

  pub argument_levels : Argument → ℕ
  argument_levels (lifetime_argument x) = 0
  argument_levels (constant_argument ts) = 0
  argument_levels (type_argument t) = suc (levels t)

  pub types_levels : Writtens → ℕ
  types_levels no_types = 0
  types_levels (more_types t ts) = levels t + types_levels ts

-- ---- parts have no more levels than the whole

pub item_levels : (ts : List WrittenType) (i : ℕ) (t : WrittenType) → i < length ts → t ≡ get_or ts i t → levels (written_view t) ≤ types_levels (writtens_view ts)
item_levels ts i t l is = subst (λ x. levels (written_view x) ≤ types_levels (writtens_view ts)) (sym is) (by ts i l)
  where
    by : (xs : List WrittenType) (j : ℕ) → j < length xs → levels (written_view (get_or xs j t)) ≤ types_levels (writtens_view xs)
    by [] j h = absurd (omega arith)
    by (x ∷ xs) zero h = omega arith
    by (x ∷ xs) (suc j) h = let rest = by xs j (omega arith) in omega (arith, rest)

pub argument_item_levels : (ts : List GenericArgument) (i : ℕ) (t : GenericArgument) → i < length ts → t ≡ get_or ts i t → argument_levels (argument_view t) ≤ arguments_levels (arguments_view ts)
argument_item_levels ts i t l is = subst (λ x. argument_levels (argument_view x) ≤ arguments_levels (arguments_view ts)) (sym is) (by ts i l)
  where
    by : (xs : List GenericArgument) (j : ℕ) → j < length xs → argument_levels (argument_view (get_or xs j t)) ≤ arguments_levels (arguments_view xs)
    by [] j h = absurd (omega arith)
    by (x ∷ xs) zero h = omega arith
    by (x ∷ xs) (suc j) h = let rest = by xs j (omega arith) in omega (arith, rest)

last_levels : (ss : List PathSegment) (n : ℕ) (d : PathSegment) → length ss ≡ suc n → segment_levels (segment_view (slice_index_or ss n d)) ≤ segments_levels (segments_view ss)
last_levels [] n d l = absurd (omega arith)
last_levels (s ∷ ss) zero d l = omega arith
last_levels (s ∷ ss) (suc n) d l = let rest = last_levels ss n d (omega arith) in omega (arith, rest)

pub path_last_levels : (q : Path) (ss : List PathSegment) (s : PathSegment) → ss ≡ (out-Path q).segments → 1 ≤ length ss → s ≡ slice_index_or ss (length ss - 1) s → segment_levels (segment_view s) ≤ path_levels (path_view q)
path_last_levels q ss s e l is =
    subst (λ n. segment_levels (segment_view s) ≤ n) (sym (ap path_levels (path_view_is q) ∙ ap (λ xs. segments_levels (segments_view xs)) (sym e)))
    (subst (λ x. segment_levels (segment_view x) ≤ segments_levels (segments_view ss)) (sym is) (last_levels ss (length ss - 1) s (omega arith)))

pub list_levels : (s : PathSegment) (args : Items GenericArgument) → s.arguments ≡ Some args → segment_levels (segment_view s) ≡ suc (arguments_levels (arguments_view args))
list_levels s args e = ap segment_levels (view-segment s) ∙ ap (λ o. segment_levels (segment_of s.ident (option_map (map (λ (a : GenericArgument). argument_view a)) o))) e

-- ---- the types of aliases

abbrev pub most_levels : List WrittenType → ℕ
most_levels [] = 0
most_levels (t ∷ ts) = levels (written_view t) + most_levels ts

pub alias_levels : (ts : List WrittenType) (place : ℕ) (t : Written) → type_at ts place ≡ Some t → levels t ≤ most_levels ts
alias_levels [] place t e = absurd (none-some t e)
alias_levels (x ∷ ts) zero t e = let same : levels (written_view x) ≡ levels t = ap levels (same_Some (written_view x) t e) in omega (arith, same)
alias_levels (x ∷ ts) (suc place) t e = let rest = alias_levels ts place t e in omega (arith, rest)

pub alias_place : (ts : List WrittenType) (place : ℕ) (t : Written) → type_at ts place ≡ Some t → place < length ts
alias_place [] place t e = absurd (none-some t e)
alias_place (x ∷ ts) zero t e = omega arith
alias_place (x ∷ ts) (suc place) t e = let rest = alias_place ts place t e in omega (arith, rest)

pub alias_is : (ts : List WrittenType) (place : ℕ) (t : Written) (d : WrittenType) → type_at ts place ≡ Some t → written_view (get_or ts place d) ≡ t
alias_is [] place t d e = absurd (none-some t e)
alias_is (x ∷ ts) zero t d e = same_Some (written_view x) t e
alias_is (x ∷ ts) (suc place) t d e = alias_is ts place t d e

-- ---- the measure

-- room for what an alias's type has to go
abbrev pub room : KnownNames → ℕ
room names = 2 * most_levels names.alias_types.now + 2

abbrev pub to_go : KnownNames → Place → ℕ → ℕ
to_go names place here = place.below * room names + here

pub alias_falls : (b c k n m : ℕ) → b < c → n < k → b * k + n < c * k + m
alias_falls b c k n m l s = let more : suc b * k ≤ c * k = mul-le-mul_right k l in omega (arith, more)
