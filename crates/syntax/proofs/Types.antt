-- What items need of types.
use Rattle.std.proofs.Common.{◌≡◌, ◌<◌, ◌≤◌, ◌⊎◌, ℕ, suc, List, [], ◌∷◌, length, ap, sym, ◌∙◌, arith, true, Ok, Err}
use Rattle.texts.specs.declared.span.Span.{Span}
use Rattle.tokens.specs.declared.token.Bracket.TheVariants.{Round}
use Rattle.tokens.specs.Trees.{Trees}
use Rattle.written_types.specs.Written.{Written}
use Rattle.words.specs.declared.vocabulary.Keyword.TheVariants as keywords
use Rattle.words.specs.Words.{Word, name, underscore, keyword, sign, lifetime, literal, doc, group, words_of}
use Rattle.words.specs.Reading.{deep, Read, ◌>>=◌}
use Rattle.type_grammar.specs.declared.starts.Bounds.TheVariants.{Any}
use Rattle.type_grammar.specs.Starts.{Stops, begins_type}
use Rattle.type_grammar.specs.Grammar.{IsType, IsBounds, pathed, referred, wrapped, unit, several, sliced, arrayed, object}
use Rattle.type_grammar.specs.Opening.{OpensType, OpensTypeOf, OpensInBounds, most_levels}
use Rattle.type_grammar.specs.Reading.{after_bounds, type_at, type_in, type_step, path_at, segments_in, segments_at, segment_at, round_at}
use Rattle.type_grammar.proofs.Laws as laws
use Rattle.words.specs.Visibility.{is_restriction}

pub type_sound : (n : ℕ) (ws : List Word) (t : Written) (rest : List Word) → type_at n ws ≡ Ok (t, rest) → IsType ws t rest
type_sound n ws t rest e = laws.type_sound n Any ws t rest e

pub type_shorter : {ws rest : List Word} {t : Written} → IsType ws t rest → length rest < length ws
type_shorter {ws = ws} {rest = rest} r = laws.fewer_words ws rest (laws.type_lighter (λ w. 0) r)

pub type_complete : {ws rest : List Word} {t : Written} → IsType ws t rest → Stops rest → (n : ℕ) → (type_at n ws ≡ Ok (t, rest)) ⊎ ((at : Span) × (type_at n ws ≡ Err (deep at)))
type_complete r stops n = laws.type_complete r stops n

-- a type begins with a word that may begin one
abbrev pub Begins : List Word → Type 0
Begins ws = (w : Word) × (us : List Word) × (ws ≡ w ∷ us) × (begins_type w ≡ true)

pub type_begins : {ws rest : List Word} {t : Written} → IsType ws t rest → Begins ws
type_begins r = laws.type_begins r

-- a type that begins with a group in round brackets is the group
pub group_alone : {ws rest more : List Word} {t : Written} {g : Trees} {s : Span} → IsType ws t rest → ws ≡ group Round g s ∷ more → rest ≡ more
group_alone (pathed p) e = let h = laws.path_starts p in cc
group_alone (referred l m r) e = cc
group_alone (wrapped r) e = cc
group_alone unit e = cc
group_alone (several r us) e = cc
group_alone (sliced r) e = cc
group_alone (arrayed r) e = cc
group_alone (object l q p b) e = cc

pub type_agrees : (n : ℕ) → laws.Agrees (type_at n) (OpensType n)
type_agrees n = laws.type_agrees n Any

pub opens_begins : (ws : List Word) (at : Span) → OpensType most_levels ws at → Begins ws
opens_begins ws at o = laws.opens_begins most_levels Any ws at o

-- ---- bounds
pub bounds_sound : (n : ℕ) (ws rest : List Word) → after_bounds (type_in n) ws ≡ Ok rest → IsBounds ws rest
bounds_sound n ws rest e = laws.bounds_sound (type_in n) (laws.type_sound n) ws rest e

pub bounds_no_longer : {ws rest : List Word} → IsBounds ws rest → length rest ≤ length ws
bounds_no_longer {ws = ws} {rest = rest} r = omega (arith, laws.bounds_lighter (λ w. 0) r, laws.total_length ws, laws.total_length rest)

pub bounds_agree : (n : ℕ) → laws.Agrees (after_bounds (type_in n)) (OpensInBounds (OpensTypeOf n))
bounds_agree n = laws.in_bounds_agree n (laws.type_agrees n)

-- the group that restricts `pub` is no deep type
abbrev with_rest : List Word → Written → Read Written
with_rest more t = Ok (t, more)

scope_read : (us : List Word) (s : Span) (more : List Word) (at : Span) → is_restriction us ≡ true → (round_at (type_in 63) s us >>= with_rest more) ≡ Err (deep at) → ⊥
unfolding round_at type_in type_step path_at segments_in segments_at segment_at
scope_read [] s more at r e = cc
scope_read (name x ∷ us) s more at r e = cc
scope_read (underscore x ∷ us) s more at r e = cc
scope_read (keyword keywords.Crate x ∷ []) s more at r e = cc
scope_read (keyword keywords.Crate x ∷ w ∷ us) s more at r e = cc
scope_read (keyword keywords.SelfValue x ∷ []) s more at r e = cc
scope_read (keyword keywords.SelfValue x ∷ w ∷ us) s more at r e = cc
scope_read (keyword keywords.Super x ∷ []) s more at r e = cc
scope_read (keyword keywords.Super x ∷ w ∷ us) s more at r e = cc
scope_read (keyword keywords.In x ∷ us) s more at r e = cc
scope_read (keyword _ x ∷ us) s more at r e = cc
scope_read (sign k a ∷ us) s more at r e = cc
scope_read (lifetime x ∷ us) s more at r e = cc
scope_read (literal t ∷ us) s more at r e = cc
scope_read (doc t ∷ us) s more at r e = cc
scope_read (group b g a ∷ us) s more at r e = cc

pub scope_shallow : (ws more : List Word) (at s : Span) (g : Trees) → OpensType most_levels ws at → ws ≡ group Round g s ∷ more → is_restriction (words_of g) ≡ true → ⊥
unfolding type_in type_step
scope_shallow ws more at s g o e h = scope_read (words_of g) s more at h (ap (type_at 64) (sym e) ∙ (type_agrees most_levels ws at).1 o)

-- with enough levels, nothing is too deep
pub deep_enough : (ws : List Word) → (n : ℕ) × ((at : Span) → type_at n ws ≡ Err (deep at) → ⊥)
deep_enough ws =
    let n = laws.total laws.inside ws in
    (n, λ at e. let less : n < n = laws.opens_light n Any ws at ((type_agrees n ws at).0 e) in absurd (omega arith))

pub bounds_deep_enough : (ws : List Word) → (n : ℕ) × ((at : Span) → after_bounds (type_in n) ws ≡ Err (deep at) → ⊥)
bounds_deep_enough ws =
    let n = laws.total laws.inside ws in
    (n, λ at e. let less : suc n < n = laws.in_bounds_light n (laws.opens_light n) ((bounds_agree n ws at).0 e) in absurd (omega arith))
