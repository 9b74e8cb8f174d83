-- How deep types nest: which part of a type, read from the left, is the first to begin so many levels further in, and where it begins.
-- A reference, a parenthesis, a tuple, an array, a slice and an argument list each are a level.
use Rattle.std.specs.Prelude.{◌≡◌, ℕ, zero, suc, List, ◌∷◌, Bool, true, false, Some}
use Rattle.texts.specs.declared.span.Span.{Span}
use Rattle.tokens.specs.declared.token.Bracket.TheVariants.{Round, Square}
use Rattle.tokens.specs.Trees.{Trees}
use Rattle.written_types.specs.declared.written.Ident.{Ident}
use Rattle.written_types.specs.Written.{Written, WrittenPath, Segment}
use Rattle.words.specs.declared.vocabulary.Keyword.TheVariants.{Dyn}
use Rattle.words.specs.declared.vocabulary.Sign.TheVariants.{Less, Comma, Colons, Ampersand, Plus}
use Rattle.words.specs.Words.{Word, keyword, sign, group, words_of, start_of}
use Rattle.words.specs.Reading.{as_path_word}
use Rattle.type_grammar.specs.declared.starts.Bounds.{Bounds}
use Rattle.type_grammar.specs.declared.starts.Bounds.TheVariants.{One, Any}
use Rattle.type_grammar.specs.Starts.{begins_type}
use Rattle.type_grammar.specs.Grammar.{MayBeLifetime, MayBeMut, MayBeQuestion, LifetimesFirst, IsTypeOf, IsPath, IsBound, IsSegment, IsArgument}
use Rattle.type_grammar.specs.Reading.{after_binding}

-- nothing opens in the words
abbrev pub Passes : (List Word → Span → Type 0) → List Word → Type 0
Passes Opens ws = (at : Span) → ¬ (Opens ws at)

-- in a list: in its first item, or where nothing opens there, in those behind it
pub data OpensList {A : Type 0} (IsItem : List Word → A → List Word → Type 0) (Opens : List Word → Span → Type 0) : List Word → Span → Type 0 where
  in_first : {at : Span} {ws : List Word} → Opens ws at → OpensList IsItem Opens ws at
  behind : {s at : Span} {ws mid : List Word} {x : A} → IsItem ws x (sign Comma s ∷ mid) → Passes Opens ws → OpensList IsItem Opens mid at → OpensList IsItem Opens ws at

-- ---- in the parts of a type, in which parts one level further in open by Inner
abbrev pub OpensTypes : (Bounds → List Word → Span → Type 0) → List Word → Span → Type 0
OpensTypes Inner = OpensList (IsTypeOf Any) (Inner Any)

-- an argument's type stands behind the name and `=` of a binding
abbrev pub OpensArgument : (Bounds → List Word → Span → Type 0) → Bool → List Word → Span → Type 0
OpensArgument Inner bindings ws = Inner Any (after_binding bindings ws)

abbrev pub OpensArguments : (Bounds → List Word → Span → Type 0) → Bool → List Word → Span → Type 0
OpensArguments Inner bindings = OpensList (IsArgument bindings) (OpensArgument Inner bindings)

pub data OpensSegment (Inner : Bounds → List Word → Span → Type 0) (bindings : Bool) : List Word → Span → Type 0 where
  in_arguments : {w : Word} {x : Ident} {open_at at : Span} {ws : List Word} → as_path_word w ≡ Some x → OpensArguments Inner bindings ws at → OpensSegment Inner bindings (w ∷ sign Less open_at ∷ ws) at
  in_colon_arguments : {w : Word} {x : Ident} {colons_at open_at at : Span} {ws : List Word} → as_path_word w ≡ Some x → OpensArguments Inner bindings ws at
      → OpensSegment Inner bindings (w ∷ sign Colons colons_at ∷ sign Less open_at ∷ ws) at

pub data OpensSegments (Inner : Bounds → List Word → Span → Type 0) (bindings : Bool) : List Word → Span → Type 0 where
  in_segment : {ws : List Word} {at : Span} → OpensSegment Inner bindings ws at → OpensSegments Inner bindings ws at
  behind_segment : {ws mid : List Word} {s : Segment} {last colons_at at : Span} → IsSegment bindings ws s last (sign Colons colons_at ∷ mid) → Passes (OpensSegment Inner bindings) ws → OpensSegments Inner bindings mid at
      → OpensSegments Inner bindings ws at

pub data OpensPath (Inner : Bounds → List Word → Span → Type 0) (bindings : Bool) : List Word → Span → Type 0 where
  in_segments : {ws : List Word} {at : Span} → OpensSegments Inner bindings ws at → OpensPath Inner bindings ws at
  in_rooted : {colons_at at : Span} {ws : List Word} → OpensSegments Inner bindings ws at → OpensPath Inner bindings (sign Colons colons_at ∷ ws) at

pub data OpensBound (Inner : Bounds → List Word → Span → Type 0) : List Word → Span → Type 0 where
  in_bound_path : {ws us : List Word} {at : Span} → MayBeQuestion ws us → OpensPath Inner true us at → OpensBound Inner ws at

-- in the bounds that follow, each behind `+`
pub data OpensBounds (Inner : Bounds → List Word → Span → Type 0) : List Word → Span → Type 0 where
  in_bound : {plus_at at : Span} {ws : List Word} → OpensBound Inner ws at → OpensBounds Inner (sign Plus plus_at ∷ ws) at
  behind_bound : {plus_at b at : Span} {ws mid : List Word} → IsBound ws b mid → Passes (OpensBound Inner) ws → OpensBounds Inner mid at → OpensBounds Inner (sign Plus plus_at ∷ ws) at

-- in bounds, of which the first stands alone
pub data OpensInBounds (Inner : Bounds → List Word → Span → Type 0) : List Word → Span → Type 0 where
  in_the_first : {ws : List Word} {at : Span} → OpensBound Inner ws at → OpensInBounds Inner ws at
  in_the_others : {b at : Span} {ws mid : List Word} → IsBound ws b mid → Passes (OpensBound Inner) ws → OpensBounds Inner mid at → OpensInBounds Inner ws at

pub data OpensWithin (Inner : Bounds → List Word → Span → Type 0) : Bounds → List Word → Span → Type 0 where
  in_path : {bounds : Bounds} {ws : List Word} {at : Span} → OpensPath Inner false ws at → OpensWithin Inner bounds ws at
  in_reference : {bounds : Bounds} {sign_at at : Span} {ws us vs : List Word} → MayBeLifetime ws us → MayBeMut us vs → Inner One vs at → OpensWithin Inner bounds (sign Ampersand sign_at ∷ ws) at
  in_round : {bounds : Bounds} {g : Trees} {s at : Span} {rest : List Word} → Inner Any (words_of g) at → OpensWithin Inner bounds (group Round g s ∷ rest) at
  in_several : {bounds : Bounds} {g : Trees} {s comma_at at : Span} {mid rest : List Word} {t : Written} → IsTypeOf Any (words_of g) t (sign Comma comma_at ∷ mid) → Passes (Inner Any) (words_of g) → OpensTypes Inner mid at
      → OpensWithin Inner bounds (group Round g s ∷ rest) at
  in_square : {bounds : Bounds} {g : Trees} {s at : Span} {rest : List Word} → Inner Any (words_of g) at → OpensWithin Inner bounds (group Square g s ∷ rest) at
  in_first_bound : {bounds : Bounds} {x : Ident} {at : Span} {ws us vs : List Word} → LifetimesFirst bounds ws us → MayBeQuestion us vs → OpensPath Inner false vs at → OpensWithin Inner bounds (keyword Dyn x ∷ ws) at
  in_later_bound : {x : Ident} {at : Span} {ws us vs mid : List Word} {p : WrittenPath} → LifetimesFirst Any ws us → MayBeQuestion us vs → IsPath false vs p mid → Passes (OpensPath Inner false) vs → OpensBounds Inner mid at
      → OpensWithin Inner Any (keyword Dyn x ∷ ws) at

-- ---- by levels

-- a type begins with the first of the words, at the span
pub data BeginsAt : List Word → Span → Type 0 where
  here : {w : Word} {ws : List Word} → begins_type w ≡ true → BeginsAt (w ∷ ws) (start_of w)

unfoldable pub OpensTypeOf : ℕ → Bounds → List Word → Span → Type 0
OpensTypeOf zero bounds ws at = BeginsAt ws at
OpensTypeOf (suc n) bounds ws at = OpensWithin (OpensTypeOf n) bounds ws at

-- in a type
abbrev pub OpensType : ℕ → List Word → Span → Type 0
OpensType n = OpensTypeOf n Any

-- how many levels a type may nest
abbrev pub most_levels : ℕ
most_levels = 64
