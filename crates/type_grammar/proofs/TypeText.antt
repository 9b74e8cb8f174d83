-- What the reader of a type's text ensures.
use Rattle.std.proofs.Common.{◌≡◌, ℕ, ◌<◌, ◌≤◌, arith, ◌⊎◌, inl, inr, List, [], length, refl, subst}
use Rattle.texts.specs.declared.span.Span.{Span}
use Rattle.diag.specs.Refusal.{IsSyntaxRefusal}
use Rattle.diag.specs.declared.error.DeriveError.{DeriveError}
use Rattle.diag.specs.declared.error.DeriveError.TheVariants as errors
use Rattle.tokens.specs.Trees.{Trees, depth}
use Rattle.lexing.specs.Cut.{IsCut, OpensTooDeep, IsDepthError, IsSyntaxError, most_open}
use Rattle.written_types.specs.Written.{Written}
use Rattle.words.specs.declared.stopping.Stop.{Stop}
use Rattle.words.specs.declared.stopping.Stop.TheVariants as stop
use Rattle.words.specs.Words.{Word, words_of}
use Rattle.words.specs.Reading.{IsWrong}
use Rattle.type_grammar.specs.Grammar.{IsType}
use Rattle.type_grammar.specs.Opening.{OpensType, most_levels}
use Rattle.type_grammar.specs.Source.{ReadsType, TypeNestsTooDeep, IsNoType, IsDeepType, IsPlaced, IsRefusalOf}
use Rattle.type_grammar.proofs.Unique.{type_one}

-- a text has at most one list of trees
abbrev pub OneCut : Type 0
OneCut = (source : List ℕ) (ts us : Trees) → IsCut source ts → IsCut source us → ts ≡ us

-- where a bracket opens too deep, trees nest deeper
abbrev pub DeepNest : Type 0
DeepNest = (source : List ℕ) (ts : Trees) (at : Span) → IsCut source ts → OpensTooDeep source at → 64 < depth ts

pub one_type : OneCut → (text : List ℕ) (t u : Written) → ReadsType text t → ReadsType text u → t ≡ u
one_type unique text t u r s = (type_one (subst (λ v. IsType (words_of v) t []) (unique text r.0 s.0 r.1 s.1) r.2) refl s.2 refl).0

pub type_shallow : OneCut → DeepNest → (text : List ℕ) (ts : Trees) (at : Span) → IsCut text ts → depth ts ≤ 64 → ((at : Span) → OpensType 64 (words_of ts) at → ⊥) → TypeNestsTooDeep text at → ⊥
type_shallow unique deeper text ts at cut low none (inl o) = let h = deeper text ts at cut o in absurd (omega arith)
type_shallow unique deeper text ts at cut low none (inr h) = none at (subst (λ v. OpensType most_levels (words_of v) at) (unique text h.0 ts h.1 cut) h.3)

-- where the text has no trees, it is no type
pub type_passed_on : (text : List ℕ) (e : DeriveError) → (e ≡ errors.Memory) ⊎ IsDepthError text e ⊎ IsSyntaxError text e → (e ≡ errors.Memory) ⊎ IsDeepType text e ⊎ IsNoType text e
type_passed_on text e (inl h) = inl h
type_passed_on text e (inr (inl h)) = inr (inl (h.0, h.1, inl h.2))
type_passed_on text e (inr (inr h)) = inr (inr (h.0, h.1, h.2.0, λ t r. h.2.1 r.0 r.1))

module _ (unique : OneCut) (text : List ℕ) (ts : Trees) (cut : IsCut text ts) (low : depth ts ≤ most_open) where
  no_type : ((t : Written) → IsType (words_of ts) t [] → ⊥) → (t : Written) → ReadsType text t → ⊥
  no_type none t r = none t (subst (λ v. IsType (words_of v) t []) (unique text r.0 ts r.1 cut) r.2)

  pub type_unread : (s : Stop) (e : DeriveError) → ((at : Span) → s ≡ stop.Deep at → OpensType 64 (words_of ts) at) → (IsWrong s → (t : Written) → IsType (words_of ts) t [] → ⊥) → IsRefusalOf s (length text) e
      → (e ≡ errors.Memory) ⊎ IsDeepType text e ⊎ IsNoType text e
  type_unread stop.Memory e deep wrong h = inl h
  type_unread stop.Ended e deep wrong (inl h) = inl h
  type_unread stop.Ended e deep wrong (inr h) = inr (inr (h.0, h.1, h.2, no_type (wrong tt)))
  type_unread (stop.Unexpected at) e deep wrong (inl h) = inl h
  type_unread (stop.Unexpected at) e deep wrong (inr h) = inr (inr (h.0, h.1, h.2, no_type (wrong tt)))
  type_unread (stop.Deep at) e deep wrong (inl h) = inl h
  type_unread (stop.Deep at) e deep wrong (inr h) = inr (inl (at, h, inr (ts, cut, low, deep at refl)))

-- an error at a span within the text
pub placed : (bytes : ℕ) (e : DeriveError) (span : Span) → (e ≡ errors.Memory) ⊎ IsSyntaxRefusal span e → span.end ≤ bytes → (e ≡ errors.Memory) ⊎ IsPlaced bytes e
placed bytes e span (inl h) within = inl h
placed bytes e span (inr h) within = inr (span, h, within)

-- ---- where texts nest too deep

-- brackets too deep, or else what opens in the words of trees that nest no deeper
abbrev pub Nests : (List Word → Span → Type 0) → List ℕ → Span → Type 0
Nests Opens text at = OpensTooDeep text at ⊎ ((trees : Trees) × IsCut text trees × (depth trees ≤ most_open) × Opens (words_of trees) at)

-- what opens at one place nests too deep at one
pub nests_once : OneCut → ((text : List ℕ) (a b : Span) → OpensTooDeep text a → OpensTooDeep text b → a ≡ b) → DeepNest → (Opens : List Word → Span → Type 0) → ((ws : List Word) (a b : Span) → Opens ws a → Opens ws b → a ≡ b)
    → (text : List ℕ) (a b : Span) → Nests Opens text a → Nests Opens text b → a ≡ b
nests_once unique one_bracket deeper Opens one text a b (inl h) (inl k) = one_bracket text a b h k
nests_once unique one_bracket deeper Opens one text a b (inl h) (inr k) = absurd (omega (arith, deeper text k.0 a k.1 h, k.2))
nests_once unique one_bracket deeper Opens one text a b (inr h) (inl k) = absurd (omega (arith, deeper text h.0 b h.1 k, h.2))
nests_once unique one_bracket deeper Opens one text a b (inr h) (inr k) = one (words_of k.0) a b (subst (λ v. Opens (words_of v) a) (unique text h.0 k.0 h.1 k.1) h.3) k.3
