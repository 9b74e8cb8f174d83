-- Paths of several words, and values of several.
use Rattle.std.proofs.Common.{◌≡◌, ◌≤◌, ◌<◌, ℕ, List, [], ◌∷◌, length, refl, ap, sym, ◌∙◌, arith, false, Ok}
use Rattle.texts.specs.declared.span.Span.{Span}
use Rattle.written_types.specs.declared.written.PathSegment.{PathSegment}
use Rattle.written_types.specs.Written.{WrittenPath, Segment, plain, applied, Segments, more_segments, segment_view, segments_view}
use Rattle.words.specs.declared.vocabulary.Sign.TheVariants.{Equals}
use Rattle.words.specs.Reading.{sign_at}
use Rattle.words.proofs.Laws.{sign-is}
use Rattle.attributes.specs.AttributeReading.{meta_of}
use Rattle.words.specs.Words.{Word, name, underscore, keyword, sign, lifetime, literal, doc, group}
use Rattle.attributes.specs.Attributes.{value, is_only}
use Rattle.attributes.specs.Comments.{said_by}

several_segments : (text : List ℕ) (a b : Segment) (rest : Segments) → is_only text (more_segments a (more_segments b rest)) ≡ false
several_segments text (plain x) b rest = refl
several_segments text (applied x xs) b rest = refl

-- several segments are no word alone
pub several_are_no_word : (text : List ℕ) (segments : List PathSegment) → 2 ≤ length segments → false ≡ is_only text (segments_view segments)
several_are_no_word text [] more = absurd (omega arith)
several_are_no_word text (a ∷ []) more = absurd (omega arith)
several_are_no_word text (a ∷ b ∷ rest) more = sym (several_segments text (segment_view a) (segment_view b) (segments_view rest))

several_said : (path : WrittenPath) (w v : Word) (ws : List Word) → ◌≡◌ {A = List (List ℕ)} [] (said_by path (value (w ∷ v ∷ ws)))
several_said path (name x) v ws = refl
several_said path (underscore x) v ws = refl
several_said path (keyword k x) v ws = refl
several_said path (sign k s) v ws = refl
several_said path (lifetime x) v ws = refl
several_said path (literal t) v ws = refl
several_said path (doc t) v ws = refl
several_said path (group b ts s) v ws = refl

-- a value that is not one word says nothing
pub several_say_nothing : (path : WrittenPath) (ws : List Word) → 2 ≤ length ws → ◌≡◌ {A = List (List ℕ)} [] (said_by path (value ws))
several_say_nothing path [] more = absurd (omega arith)
several_say_nothing path (w ∷ []) more = absurd (omega arith)
several_say_nothing path (w ∷ v ∷ ws) more = several_said path w v ws

value_from : (s : Span) (ws : List Word) → 0 < length ws → meta_of (sign Equals s ∷ ws) ≡ Ok (value ws)
unfolding meta_of
value_from s [] more = absurd (omega arith)
value_from s (w ∷ ws) more = refl

-- a sign `=` and words are a value
pub value_after : (ws : List Word) (p : Span × List Word) → sign_at Equals ws ≡ Ok p → 0 < length p.1 → meta_of ws ≡ Ok (value p.1)
unfolding meta_of
value_after ws p e more = ap meta_of (sign-is Equals ws p e) ∙ value_from p.0 p.1 more
