-- A measure of words, and that each part of a type takes words.
use Rattle.std.proofs.Common.{◌≡◌, ℕ, suc, ◌+◌, ◌<◌, ◌≤◌, List, [], ◌∷◌, length, refl, arith, Bool}
use Rattle.texts.specs.declared.span.Span.{Span}
use Rattle.tokens.specs.Trees.{Trees}
use Rattle.written_types.specs.Written.{Written, WrittenPath, Segment, Argument}
use Rattle.words.specs.Words.{Word}
use Rattle.type_grammar.specs.declared.starts.Bounds.{Bounds}
use Rattle.type_grammar.specs.Grammar.{MayBeLifetime, no_lifetime, a_lifetime, MayBeMut, no_mut, a_mut, MayBeQuestion, no_question, a_question, LifetimesFirst, no_more_lifetimes, a_lifetime_first, MayBeBinding, no_binding, a_binding, IsConstant, a_literal, a_negative, a_true, a_false, a_block, IsTypeOf, pathed, referred, wrapped, unit, several, sliced, arrayed, object, MoreBounds, no_more_bounds, one_more_bound, IsBound, a_lifetime_bound, a_path_bound, IsPath, from_here, from_root, IsSegments, last_segment, more_segments, IsSegment, without_arguments, with_arguments, with_colons, IsArgument, of_lifetime, of_constant, of_type, IsArguments, no_argument, last_argument, another_argument, IsTypes, no_type, last_type, another_type, IsBounds, no_bounds, some_bounds}

-- one for each word, and more by what it measures
abbrev pub total : (Word → ℕ) → List Word → ℕ
total m [] = 0
total m (w ∷ ws) = suc (m w + total m ws)

pub total_length : (ws : List Word) → total (λ w. 0) ws ≡ length ws
total_length [] = refl
total_length (w ∷ ws) = let h = total_length ws in omega arith

module _ (m : Word → ℕ) where
  pub lifetime_lighter : {ws us : List Word} → MayBeLifetime ws us → total m us ≤ total m ws
  lifetime_lighter no_lifetime = omega arith
  lifetime_lighter a_lifetime = omega arith

  pub mut_lighter : {ws us : List Word} → MayBeMut ws us → total m us ≤ total m ws
  mut_lighter no_mut = omega arith
  mut_lighter a_mut = omega arith

  pub question_lighter : {ws us : List Word} → MayBeQuestion ws us → total m us ≤ total m ws
  question_lighter no_question = omega arith
  question_lighter a_question = omega arith

  pub lifetimes_lighter : {b : Bounds} {ws us : List Word} → LifetimesFirst b ws us → total m us ≤ total m ws
  lifetimes_lighter no_more_lifetimes = omega arith
  lifetimes_lighter (a_lifetime_first r) = let h = lifetimes_lighter r in omega arith

  pub binding_lighter : {b : Bool} {ws us : List Word} → MayBeBinding b ws us → total m us ≤ total m ws
  binding_lighter no_binding = omega arith
  binding_lighter a_binding = omega arith

  pub constant_lighter : {ws rest : List Word} {ts : Trees} → IsConstant ws ts rest → total m rest < total m ws
  constant_lighter a_literal = omega arith
  constant_lighter a_negative = omega arith
  constant_lighter a_true = omega arith
  constant_lighter a_false = omega arith
  constant_lighter a_block = omega arith

  mutual
    pub type_lighter : {b : Bounds} {ws rest : List Word} {t : Written} → IsTypeOf b ws t rest → total m rest < total m ws
    type_lighter (pathed r) = path_lighter r
    type_lighter (referred l k r) = let a = lifetime_lighter l in let b = mut_lighter k in let h = type_lighter r in omega arith
    type_lighter (wrapped r) = omega arith
    type_lighter unit = omega arith
    type_lighter (several r s) = omega arith
    type_lighter (sliced r) = omega arith
    type_lighter (arrayed r) = omega arith
    type_lighter (object l q p r) = let a = lifetimes_lighter l in let b = question_lighter q in let h = path_lighter p in let k = more_lighter r in omega arith

    pub more_lighter : {b : Bounds} {first last : Span} {ws rest : List Word} → MoreBounds b first ws last rest → total m rest ≤ total m ws
    more_lighter no_more_bounds = omega arith
    more_lighter (one_more_bound r s) = let h = bound_lighter r in let k = more_lighter s in omega arith

    pub bound_lighter : {ws rest : List Word} {at : Span} → IsBound ws at rest → total m rest < total m ws
    bound_lighter a_lifetime_bound = omega arith
    bound_lighter (a_path_bound q r) = let a = question_lighter q in let h = path_lighter r in omega arith

    pub path_lighter : {b : Bool} {ws rest : List Word} {p : WrittenPath} → IsPath b ws p rest → total m rest < total m ws
    path_lighter (from_here r) = segments_lighter r
    path_lighter (from_root r) = let h = segments_lighter r in omega arith

    pub segments_lighter : {b : Bool} {ws rest : List Word} {ss : List Segment} {last : Span} → IsSegments b ws ss last rest → total m rest < total m ws
    segments_lighter (last_segment r) = segment_lighter r
    segments_lighter (more_segments r s) = let h = segment_lighter r in let k = segments_lighter s in omega arith

    pub segment_lighter : {b : Bool} {ws rest : List Word} {s : Segment} {last : Span} → IsSegment b ws s last rest → total m rest < total m ws
    segment_lighter (without_arguments e) = omega arith
    segment_lighter (with_arguments e r) = let h = arguments_lighter r in omega arith
    segment_lighter (with_colons e r) = let h = arguments_lighter r in omega arith

    pub argument_lighter : {b : Bool} {ws rest : List Word} {x : Argument} → IsArgument b ws x rest → total m rest < total m ws
    argument_lighter of_lifetime = omega arith
    argument_lighter (of_constant r) = constant_lighter r
    argument_lighter (of_type k r) = let a = binding_lighter k in let h = type_lighter r in omega arith

    pub arguments_lighter : {b : Bool} {ws rest : List Word} {xs : List Argument} → IsArguments b ws xs rest → total m rest ≤ total m ws
    arguments_lighter no_argument = omega arith
    arguments_lighter (last_argument r) = let h = argument_lighter r in omega arith
    arguments_lighter (another_argument r s) = let h = argument_lighter r in let k = arguments_lighter s in omega arith

    pub types_lighter : {ws rest : List Word} {us : List Written} → IsTypes ws us rest → total m rest ≤ total m ws
    types_lighter no_type = omega arith
    types_lighter (last_type r) = let h = type_lighter r in omega arith
    types_lighter (another_type r s) = let h = type_lighter r in let k = types_lighter s in omega arith

  pub bounds_lighter : {ws rest : List Word} → IsBounds ws rest → total m rest ≤ total m ws
  bounds_lighter no_bounds = omega arith
  bounds_lighter (some_bounds r s) = let h = bound_lighter r in let k = more_lighter s in omega arith

-- in numbers of words
pub fewer_words : (ws rest : List Word) → total (λ w. 0) rest < total (λ w. 0) ws → length rest < length ws
fewer_words ws rest h = let a = total_length ws in let b = total_length rest in omega arith
