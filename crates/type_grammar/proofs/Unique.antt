-- Nothing nests deeper than the count of all trees, so words have one reading.
use Rattle.std.proofs.Common.{◌≡◌, ℕ, zero, suc, ◌+◌, ◌<◌, inl, inr, List, ◌∷◌, refl, ap, sym, ◌∙◌, arith, cond, Bool, true, false, Option, Some, None, Ok}
use Rattle.texts.specs.declared.span.Span.{Span}
use Rattle.tokens.specs.declared.token.Token.{Token}
use Rattle.tokens.specs.declared.token.TokenKind.{TokenKind}
use Rattle.tokens.specs.declared.token.TokenKind.TheVariants as kinds
use Rattle.tokens.specs.Trees.{Tree, token, Trees, end, ◌▸◌}
use Rattle.tokens.specs.Trees as trees
use Rattle.written_types.specs.declared.written.Ident.{Ident}
use Rattle.written_types.specs.Written.{Written}
use Rattle.words.specs.declared.vocabulary.Keyword.{Keyword}
use Rattle.words.specs.declared.vocabulary.Sign.TheVariants.{Comma}
use Rattle.words.specs.Words.{Word, name, underscore, sign, group, words_of, word_of, token_word, keyword_or_name}
use Rattle.words.specs.Reading.{Read}
use Rattle.type_grammar.specs.declared.starts.Bounds.{Bounds}
use Rattle.type_grammar.specs.declared.starts.Bounds.TheVariants.{One, Any}
use Rattle.type_grammar.specs.Starts.{Stops, StopsPath}
use Rattle.type_grammar.specs.Grammar.{IsTypeOf, IsBound}
use Rattle.type_grammar.specs.Opening.{OpensList, in_first, behind, OpensArgument, OpensSegment, in_arguments, in_colon_arguments, OpensSegments, in_segment, behind_segment, OpensPath, in_segments, in_rooted, OpensBound, in_bound_path, OpensBounds, in_bound, behind_bound, OpensInBounds, in_the_first, in_the_others, OpensWithin, in_path, in_reference, in_round, in_several, in_square, in_first_bound, in_later_bound, BeginsAt, here, OpensTypeOf}
use Rattle.type_grammar.specs.Reading.{after_binding, type_in, bound_at}
use Rattle.type_grammar.proofs.Optional.{is_binding}
use Rattle.type_grammar.proofs.Measures.{total, lifetime_lighter, mut_lighter, question_lighter, lifetimes_lighter, binding_lighter, type_lighter, path_lighter, bound_lighter, segment_lighter, argument_lighter}
use Rattle.type_grammar.proofs.Complete.{type_complete, bound_complete, path_stops}
use Rattle.type_grammar.proofs.Deep.{type_agrees, bound_agrees}

-- how many trees, those inside groups too
abbrev mutual
  pub tree_weight : Tree → ℕ
  tree_weight (token t) = 0
  tree_weight (trees.group b ts s) = trees_weight ts

  pub trees_weight : Trees → ℕ
  trees_weight end = 0
  trees_weight (t ▸ ts) = suc (tree_weight t + trees_weight ts)

abbrev pub inside : Word → ℕ
inside (group b ts s) = trees_weight ts
inside _ = 0

identifier_light : (b c : Bool) (o : Option Keyword) (x : Ident) → inside (cond b (underscore x) (cond c (name x) (keyword_or_name o x))) ≡ 0
identifier_light true c o x = refl
identifier_light false true o x = refl
identifier_light false false None x = refl
identifier_light false false (Some k) x = refl

token_light : (k : TokenKind) (t : Token) → inside (token_word k t) ≡ 0
token_light kinds.Ident t = identifier_light _ _ _ _
token_light kinds.Lifetime t = refl
token_light kinds.Literal t = refl
token_light kinds.Punct t = refl
token_light kinds.Doc t = refl

tree_light : (t : Tree) → inside (word_of t) ≡ tree_weight t
tree_light (token t) = token_light t.kind t
tree_light (trees.group b ts s) = refl

pub words_weight : (ts : Trees) → total inside (words_of ts) ≡ trees_weight ts
words_weight end = refl
words_weight (t ▸ ts) = let h = tree_light t in let k = words_weight ts in omega arith

list_light : {A : Type 0} {IsItem : List Word → A → List Word → Type 0} {Opens : List Word → Span → Type 0} (n : ℕ) → ((ws rest : List Word) (x : A) → IsItem ws x rest → total inside rest < total inside ws)
    → ((ws : List Word) (at : Span) → Opens ws at → n < total inside ws) → {ws : List Word} {at : Span} → OpensList IsItem Opens ws at → n < total inside ws
list_light n lighter light (in_first {at = at} {ws = ws} o) = light ws at o
list_light n lighter light (behind {s = s} {ws = ws} {mid = mid} {x = x} r passes o) = let h = lighter ws (sign Comma s ∷ mid) x r in let k = list_light n lighter light o in omega arith

module _ {Inner : Bounds → List Word → Span → Type 0} (n : ℕ) (light : (b : Bounds) (ws : List Word) (at : Span) → Inner b ws at → n < total inside ws) where
  argument_light : (b : Bool) (ws : List Word) (at : Span) → OpensArgument Inner b ws at → n < total inside ws
  argument_light b ws at o = let a = binding_lighter inside (is_binding b ws) in let h = light Any (after_binding b ws) at o in omega arith

  segment_light : {b : Bool} {ws : List Word} {at : Span} → OpensSegment Inner b ws at → suc n < total inside ws
  segment_light {b = b} (in_arguments e r) = let h = list_light n (λ ws rest x r. argument_lighter inside r) (argument_light b) r in omega arith
  segment_light {b = b} (in_colon_arguments e r) = let h = list_light n (λ ws rest x r. argument_lighter inside r) (argument_light b) r in omega arith

  segments_light : {b : Bool} {ws : List Word} {at : Span} → OpensSegments Inner b ws at → suc n < total inside ws
  segments_light (in_segment r) = segment_light r
  segments_light (behind_segment r passes s) = let h = segment_lighter inside r in let k = segments_light s in omega arith

  path_light : {b : Bool} {ws : List Word} {at : Span} → OpensPath Inner b ws at → suc n < total inside ws
  path_light (in_segments r) = segments_light r
  path_light (in_rooted r) = let h = segments_light r in omega arith

  bound_light : {ws : List Word} {at : Span} → OpensBound Inner ws at → suc n < total inside ws
  bound_light (in_bound_path q r) = let b = question_lighter inside q in let h = path_light r in omega arith

  bounds_light : {ws : List Word} {at : Span} → OpensBounds Inner ws at → suc n < total inside ws
  bounds_light (in_bound r) = let h = bound_light r in omega arith
  bounds_light (behind_bound r passes s) = let h = bound_lighter inside r in let k = bounds_light s in omega arith

  pub in_bounds_light : {ws : List Word} {at : Span} → OpensInBounds Inner ws at → suc n < total inside ws
  in_bounds_light (in_the_first r) = bound_light r
  in_bounds_light (in_the_others r passes s) = let h = bound_lighter inside r in let k = bounds_light s in omega arith

  within_light : {b : Bounds} {ws : List Word} {at : Span} → OpensWithin Inner b ws at → suc n < total inside ws
  within_light (in_path r) = path_light r
  within_light (in_reference {at = at} {vs = vs} l m r) = let a = lifetime_lighter inside l in let b = mut_lighter inside m in let h = light One vs at r in omega arith
  within_light (in_round {g = g} {at = at} r) = let h = light Any (words_of g) at r in let w = words_weight g in omega arith
  within_light (in_several {g = g} r passes s) = let h = type_lighter inside r in let k = list_light n (λ ws rest t r. type_lighter inside r) (light Any) s in let w = words_weight g in omega arith
  within_light (in_square {g = g} {at = at} r) = let h = light Any (words_of g) at r in let w = words_weight g in omega arith
  within_light (in_first_bound l q r) = let a = lifetimes_lighter inside l in let b = question_lighter inside q in let h = path_light r in omega arith
  within_light (in_later_bound l q p passes r) = let a = lifetimes_lighter inside l in let b = question_lighter inside q in let h = path_lighter inside p in let k = bounds_light r in omega arith

here_light : {ws : List Word} {at : Span} → BeginsAt ws at → 0 < total inside ws
here_light (here e) = omega arith

pub opens_light : (n : ℕ) (b : Bounds) (ws : List Word) (at : Span) → OpensTypeOf n b ws at → n < total inside ws
unfolding OpensTypeOf
opens_light zero b ws at o = here_light o
opens_light (suc n) b ws at o = within_light n (opens_light n) o

deep_enough : {b : Bounds} {ws rest : List Word} {t : Written} → IsTypeOf b ws t rest → Stops rest → type_in (total inside ws) b ws ≡ Ok (t, rest)
deep_enough {b = b} {ws = ws} r stops =
    elim (type_complete r stops (total inside ws)) [
      | inl h ↦ h
      | inr h ↦ let less : total inside ws < total inside ws = opens_light (total inside ws) b ws h.0 ((type_agrees (total inside ws) b ws h.0).0 h.1) in absurd (omega arith)
    ]

pub type_one : {b : Bounds} {ws rest other : List Word} {t u : Written} → IsTypeOf b ws t rest → Stops rest → IsTypeOf b ws u other → Stops other → (t ≡ u) × (rest ≡ other)
type_one {rest = rest} {other = other} {t = t} {u = u} r stops s ends =
    let both : ◌≡◌ {A = Read Written} (Ok (t, rest)) (Ok (u, other)) = sym (deep_enough r stops) ∙ deep_enough s ends in
    let pairs : ◌≡◌ {A = Written × List Word} (t, rest) (u, other) = cc in
    (ap (λ p. p.0) pairs, ap (λ p. p.1) pairs)

bound_deep_enough : {ws rest : List Word} {at : Span} → IsBound ws at rest → StopsPath rest → bound_at (type_in (total inside ws)) ws ≡ Ok (at, rest)
bound_deep_enough {ws = ws} {rest = rest} r stops =
    let n = total inside ws in
    elim (bound_complete r (path_stops rest stops) n) [
      | inl h ↦ h
      | inr h ↦ let less = bound_light n (opens_light n) ((bound_agrees n (type_agrees n) ws h.0).0 h.1) in absurd (omega arith)
    ]

pub bound_one : {ws rest other : List Word} {at to : Span} → IsBound ws at rest → StopsPath rest → IsBound ws to other → StopsPath other → (at ≡ to) × (rest ≡ other)
bound_one {rest = rest} {other = other} {at = at} {to = to} r stops s ends =
    let both : ◌≡◌ {A = Read Span} (Ok (at, rest)) (Ok (to, other)) = sym (bound_deep_enough r stops) ∙ bound_deep_enough s ends in
    let pairs : ◌≡◌ {A = Span × List Word} (at, rest) (to, other) = cc in
    (ap (λ p. p.0) pairs, ap (λ p. p.1) pairs)
