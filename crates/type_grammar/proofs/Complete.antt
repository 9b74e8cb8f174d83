-- What is in the grammar is read, unless it nests too deep.
use Rattle.std.proofs.Common.{◌≡◌, ℕ, zero, suc, ◌⊎◌, inl, inr, List, [], ◌∷◌, refl, ap, sym, ◌∙◌, cond, Bool, true, false, Option, Some, None, Ok, Err, Result}
use Rattle.texts.specs.declared.span.Span.{Span}
use Rattle.tokens.specs.declared.token.Bracket.TheVariants.{Round, Square, Curly}
use Rattle.tokens.specs.Trees.{end}
use Rattle.written_types.specs.declared.written.Ident.{Ident}
use Rattle.written_types.specs.Written.{Written, path, reference, tuple, slice, array, trait_object, no_types, more_types, writtens_of, WrittenPath, path_of, segments_of, Segment, applied, arguments_of, Argument, type_argument}
use Rattle.words.specs.declared.vocabulary.Keyword.TheVariants.{Mut, Dyn, True, False, Crate, SelfValue, Super, SelfType}
use Rattle.words.specs.declared.vocabulary.Sign.TheVariants.{Less, Greater, Comma, Colons, Semicolon, Ampersand, Plus, Minus, Equals, Question}
use Rattle.words.specs.Words.{Word, name, underscore, keyword, sign, lifetime, literal, group, words_of, cover, start_of}
use Rattle.words.specs.Reading.{Read, Fault, deep, wrong, ◌>>=◌, taken, as_path_word, as_sign, as_keyword, as_lifetime, sign_at}
use Rattle.type_grammar.specs.declared.starts.Bounds.{Bounds}
use Rattle.type_grammar.specs.declared.starts.Bounds.TheVariants.{One, Any}
use Rattle.type_grammar.specs.Starts.{starts_path, type_start, begins_type, is_type_start, begins_path, begins_bound, Stops, StopsPath, span_of}
use Rattle.type_grammar.specs.Grammar.{MayBeLifetime, no_lifetime, a_lifetime, MayBeMut, no_mut, a_mut, MayBeQuestion, no_question, a_question, LifetimesFirst, no_more_lifetimes, a_lifetime_first, MayBeBinding, no_binding, a_binding, a_literal, a_negative, a_true, a_false, a_block, IsTypeOf, pathed, referred, wrapped, unit, several, sliced, arrayed, object, MoreBounds, no_more_bounds, one_more_bound, IsBound, a_lifetime_bound, a_path_bound, IsPath, from_here, from_root, IsSegments, last_segment, more_segments, IsSegment, without_arguments, with_arguments, with_colons, IsArgument, of_lifetime, of_constant, of_type, IsArguments, no_argument, last_argument, another_argument, IsTypes, no_type, last_type, another_type, IsBounds, no_bounds, some_bounds}
use Rattle.type_grammar.specs.Reading.{TypeReader, after_sign, unless, without, is_end, all, ends_list, list_after, list_until, list_of, after_binding, after_lifetimes, first_bound, plain_argument, argument_or, argument_at, first_of_two, then_less, arguments_after, segment_after, segment_at, segments_after, segments_in, path_from, path_at, bound_from, bound_at, bounds_in, after_bounds, more_bounds, object_at, reference_at, tuple_after, round_at, array_after, square_at, type_from, type_step, too_deep, type_in}
use Rattle.words.proofs.Laws.{Shortens}
use Rattle.type_grammar.proofs.Lists.{list_until_step, list_ends}
use Rattle.type_grammar.proofs.Chains.{segments_in_step, bounds_done, bounds_turn}
use Rattle.type_grammar.proofs.Sound.{type_shortens, argument_shortens, segment_shortens, bound_shortens}

abbrev pub Reaches : {A : Type 0} → Result A Fault → A → Type 0
Reaches r x = (r ≡ Ok x) ⊎ ((at : Span) × (r ≡ Err (deep at)))

pub reach : {A B : Type 0} (r : Result A Fault) (x : A) (f : A → Result B Fault) (y : B) → Reaches r x → Reaches (f x) y → Reaches (r >>= f) y
reach r x f y (inl e) (inl g) = inl (ap (λ v. v >>= f) e ∙ g)
reach r x f y (inl e) (inr g) = inr (g.0, ap (λ v. v >>= f) e ∙ g.1)
reach r x f y (inr e) g = inr (e.0, ap (λ v. v >>= f) e.1)

pub reach_as : {A : Type 0} (r q : Result A Fault) (x : A) → r ≡ q → Reaches q x → Reaches r x
reach_as r q x e (inl h) = inl (e ∙ h)
reach_as r q x e (inr h) = inr (h.0, e ∙ h.1)

-- ---- what follows a path and a type
abbrev pub PathStops : List Word → Type 0
PathStops ws = (after_sign Less ws ≡ None) × (after_sign Colons ws ≡ None)

pub stops_path : (ws : List Word) → Stops ws → PathStops ws
stops_path [] e = (refl, refl)
stops_path (sign Less s ∷ ws) e = cc
stops_path (sign Colons s ∷ ws) e = cc
stops_path (sign _ s ∷ ws) e = (refl, refl)
stops_path (_ ∷ ws) e = (refl, refl)

pub path_stops : (ws : List Word) → StopsPath ws → PathStops ws
path_stops [] e = (refl, refl)
path_stops (sign Less s ∷ ws) e = cc
path_stops (sign Colons s ∷ ws) e = cc
path_stops (sign _ s ∷ ws) e = (refl, refl)
path_stops (_ ∷ ws) e = (refl, refl)

pub stops_plus : (ws : List Word) → Stops ws → after_sign Plus ws ≡ None
stops_plus [] e = refl
stops_plus (sign Plus s ∷ ws) e = cc
stops_plus (sign _ s ∷ ws) e = refl
stops_plus (_ ∷ ws) e = refl

-- what follows an argument and an item of a list
abbrev pub closes : List Word → Bool
closes [] = true
closes (sign Comma s ∷ ws) = true
closes (sign Greater s ∷ ws) = true
closes _ = false

pub closes_stops : (ws : List Word) → closes ws ≡ true → Stops ws
closes_stops [] e = refl
closes_stops (sign Comma s ∷ ws) e = refl
closes_stops (sign Greater s ∷ ws) e = refl
closes_stops (sign _ s ∷ ws) e = cc
closes_stops (_ ∷ ws) e = cc

pub ends_closes : (ws : List Word) → ends_list ws ≡ true → closes ws ≡ true
ends_closes [] e = refl
ends_closes (sign Greater s ∷ ws) e = refl
ends_closes (sign _ s ∷ ws) e = cc
ends_closes (_ ∷ ws) e = cc

pub ends_no_comma : (ws : List Word) → ends_list ws ≡ true → after_sign Comma ws ≡ None
ends_no_comma [] e = refl
ends_no_comma (sign Greater s ∷ ws) e = refl
ends_no_comma (sign _ s ∷ ws) e = cc
ends_no_comma (_ ∷ ws) e = cc

no_equals : (s : Span) (ws : List Word) → closes (sign Equals s ∷ ws) ≡ true → ⊥
no_equals s ws e = cc

-- ---- how parts begin
pub word_starts : (w : Word) (x : Ident) → as_path_word w ≡ Some x → type_start w ≡ starts_path
word_starts (name y) x e = refl
word_starts (underscore y) x e = refl
word_starts (keyword Crate y) x e = refl
word_starts (keyword SelfValue y) x e = refl
word_starts (keyword Super y) x e = refl
word_starts (keyword SelfType y) x e = refl
word_starts (keyword _ y) x e = cc
word_starts _ x e = cc

pub word_no_sign : (w : Word) (x : Ident) → as_path_word w ≡ Some x → (ws : List Word) → (as_sign Colons w ≡ None) × (after_sign Less (w ∷ ws) ≡ None)
word_no_sign (sign k s) x e ws = cc
word_no_sign _ x e ws = (refl, refl)

abbrev pub Starts : List Word → Type 0
Starts ws = (w : Word) × (us : List Word) × (ws ≡ w ∷ us) × (type_start w ≡ starts_path)

abbrev pub WordFirst : List Word → Type 0
WordFirst ws = (w : Word) × (us : List Word) × (x : Ident) × (ws ≡ w ∷ us) × (as_path_word w ≡ Some x)

pub segment_first : {b : Bool} {ws rest : List Word} {s : Segment} {last : Span} → IsSegment b ws s last rest → WordFirst ws
segment_first (without_arguments {w = w} {x = x} {rest = rest} e) = (w, rest, x, refl, e)
segment_first (with_arguments {w = w} {x = x} {open_at = o} {ws = ws} e r) = (w, sign Less o ∷ ws, x, refl, e)
segment_first (with_colons {w = w} {x = x} {colons_at = c} {open_at = o} {ws = ws} e r) = (w, sign Colons c ∷ sign Less o ∷ ws, x, refl, e)

pub segments_first : {b : Bool} {ws rest : List Word} {ss : List Segment} {last : Span} → IsSegments b ws ss last rest → WordFirst ws
segments_first (last_segment r) = segment_first r
segments_first (more_segments r s) = segment_first r

pub path_starts : {b : Bool} {ws rest : List Word} {p : WrittenPath} → IsPath b ws p rest → Starts ws
path_starts (from_here {w = w} {ws = ws} r) =
    let h = segments_first r in
    let begins = h.3 in
    let same : w ≡ h.0 = cc in
    (w, ws, refl, ap type_start same ∙ word_starts h.0 h.2 h.4)
path_starts (from_root {at = at} {ws = ws} r) = (sign Colons at, ws, refl, refl)

abbrev pub Begins : List Word → Type 0
Begins ws = (w : Word) × (us : List Word) × (ws ≡ w ∷ us) × (begins_type w ≡ true)

pub starts_begins : {ws : List Word} → Starts ws → Begins ws
starts_begins h = (h.0, h.1, h.2, ap is_type_start h.3)

pub type_begins : {b : Bounds} {ws rest : List Word} {t : Written} → IsTypeOf b ws t rest → Begins ws
type_begins (pathed r) = starts_begins (path_starts r)
type_begins (referred {at = at} {ws = ws} l m r) = (sign Ampersand at, ws, refl, refl)
type_begins (wrapped {g = g} {s = s} {rest = rest} r) = (group Round g s, rest, refl, refl)
type_begins (unit {s = s} {rest = rest}) = (group Round end s, rest, refl, refl)
type_begins (several {g = g} {s = s} {rest = rest} r q) = (group Round g s, rest, refl, refl)
type_begins (sliced {g = g} {s = s} {rest = rest} r) = (group Square g s, rest, refl, refl)
type_begins (arrayed {g = g} {s = s} {rest = rest} r) = (group Square g s, rest, refl, refl)
type_begins (object {x = x} {ws = ws} l q p r) = (keyword Dyn x, ws, refl, refl)

goes_on_list : (w : Word) (ws : List Word) → begins_type w ≡ true → ends_list (w ∷ ws) ≡ false
goes_on_list (sign Greater s) ws e = cc
goes_on_list (sign _ s) ws e = refl
goes_on_list _ ws e = refl

pub begins_list : {ws : List Word} → Begins ws → ends_list ws ≡ false
begins_list h = ap ends_list h.2 ∙ goes_on_list h.0 h.1 h.3

pub begins_no_end : {ws : List Word} → Begins ws → is_end ws ≡ false
begins_no_end h = ap is_end h.2

pub begins_no_kind : (w : Word) → begins_type w ≡ true → (as_keyword Mut w ≡ None) × (as_lifetime w ≡ None)
begins_no_kind (keyword Mut x) e = cc
begins_no_kind (keyword _ x) e = (refl, refl)
begins_no_kind (lifetime x) e = cc
begins_no_kind _ e = (refl, refl)

begins_no_plain : (w : Word) (ws : List Word) → begins_type w ≡ true → plain_argument (w ∷ ws) ≡ None
begins_no_plain (keyword True x) ws e = cc
begins_no_plain (keyword False x) ws e = cc
begins_no_plain (keyword _ x) ws e = refl
begins_no_plain (sign Minus s) ws e = cc
begins_no_plain (sign _ s) ws e = refl
begins_no_plain (lifetime x) ws e = cc
begins_no_plain (literal t) ws e = cc
begins_no_plain (group Curly ts s) ws e = cc
begins_no_plain (group Round ts s) ws e = refl
begins_no_plain (group Square ts s) ws e = refl
begins_no_plain _ ws e = refl

pub kept_first : {A : Type 0} (kind : Word → Option A) {ws : List Word} (w : Word) (us : List Word) → ws ≡ w ∷ us → kind w ≡ None → without kind ws ≡ ws
kept_first kind w us e h = ap (without kind) e ∙ ap (λ o. unless o w us) h ∙ sym e

-- ---- optional words before a part
lifetime_is : {ws us : List Word} → MayBeLifetime ws us → without as_lifetime us ≡ us → without as_lifetime ws ≡ us
lifetime_is no_lifetime e = e
lifetime_is a_lifetime e = refl

mut_is : {ws us : List Word} → MayBeMut ws us → without (as_keyword Mut) us ≡ us → without (as_keyword Mut) ws ≡ us
mut_is no_mut e = e
mut_is a_mut e = refl

mut_no_lifetime : {ws us : List Word} → MayBeMut ws us → without as_lifetime us ≡ us → without as_lifetime ws ≡ ws
mut_no_lifetime no_mut e = e
mut_no_lifetime a_mut e = refl

pub both_are : {ws us vs : List Word} → MayBeLifetime ws us → MayBeMut us vs → Begins vs → without (as_keyword Mut) (without as_lifetime ws) ≡ vs
both_are l m h =
    let k = begins_no_kind h.0 h.3 in
    let first = lifetime_is l (mut_no_lifetime m (kept_first as_lifetime h.0 h.1 h.2 k.1)) in
    ap (without (as_keyword Mut)) first ∙ mut_is m (kept_first (as_keyword Mut) h.0 h.1 h.2 k.0)

starts_no_kind : (w : Word) → type_start w ≡ starts_path → (as_sign Question w ≡ None) × (as_lifetime w ≡ None)
starts_no_kind (sign Question s) e = cc
starts_no_kind (sign _ s) e = (refl, refl)
starts_no_kind (lifetime x) e = cc
starts_no_kind _ e = (refl, refl)

question_is : {ws us : List Word} → MayBeQuestion ws us → without (as_sign Question) us ≡ us → without (as_sign Question) ws ≡ us
question_is no_question e = e
question_is a_question e = refl

pub path_behind_question : {ws us : List Word} → MayBeQuestion ws us → Starts us → without (as_sign Question) ws ≡ us
path_behind_question q h = question_is q (kept_first (as_sign Question) h.0 h.1 h.2 (starts_no_kind h.0 h.3).0)

-- neither `?` nor a path begins with a lifetime
pub question_first : {ws us : List Word} → MayBeQuestion ws us → Starts us → (w : Word) × (vs : List Word) × (ws ≡ w ∷ vs) × (as_lifetime w ≡ None)
question_first no_question h = (h.0, h.1, h.2, (starts_no_kind h.0 h.3).1)
question_first (a_question {at = at} {rest = rest}) h = (sign Question at, rest, refl, refl)

-- a bound begins with a lifetime, `?` or a path
starts_bound : (w : Word) → type_start w ≡ starts_path → begins_bound w ≡ true
starts_bound (lifetime x) e = refl
starts_bound (sign Question s) e = refl
starts_bound (sign _ s) e = ap begins_path e
starts_bound _ e = ap begins_path e

abbrev pub BeginsBound : List Word → Type 0
BeginsBound ws = (w : Word) × (us : List Word) × (ws ≡ w ∷ us) × (begins_bound w ≡ true)

pub question_begins : {ws us : List Word} → MayBeQuestion ws us → Starts us → BeginsBound ws
question_begins no_question h = (h.0, h.1, h.2, starts_bound h.0 h.3)
question_begins (a_question {at = at} {rest = rest}) h = (sign Question at, rest, refl, refl)

pub bound_begins : {ws rest : List Word} {at : Span} → IsBound ws at rest → BeginsBound ws
bound_begins (a_lifetime_bound {x = x} {rest = rest}) = (lifetime x, rest, refl, refl)
bound_begins (a_path_bound q r) = question_begins q (path_starts r)

skips_none : (w : Word) (ws : List Word) → as_lifetime w ≡ None → after_lifetimes (w ∷ ws) ≡ w ∷ ws
skips_none (lifetime x) ws e = cc
skips_none _ ws e = refl

lifetimes_are : {b : Bounds} {ws us : List Word} → LifetimesFirst b ws us → after_lifetimes us ≡ us → after_lifetimes ws ≡ us
lifetimes_are no_more_lifetimes e = e
lifetimes_are (a_lifetime_first r) e = lifetimes_are r e

pub first_are : {b : Bounds} {ws us vs : List Word} → LifetimesFirst b ws us → MayBeQuestion us vs → Starts vs → first_bound b ws ≡ vs
first_are {b = One} no_more_lifetimes q h = path_behind_question q h
first_are {b = Any} l q h =
    let first = question_first q h in
    ap (without (as_sign Question)) (lifetimes_are l (ap after_lifetimes first.2 ∙ skips_none first.0 first.1 first.3 ∙ sym first.2)) ∙ path_behind_question q h

-- a type before `=` is a name alone
segment_equals : {b : Bool} {ws rest : List Word} {s : Segment} {last : Span} → IsSegment b ws s last rest → (x : Ident) (at : Span) (vs : List Word) → ws ≡ name x ∷ sign Equals at ∷ vs → rest ≡ sign Equals at ∷ vs
segment_equals (without_arguments e) x at vs f = cc
segment_equals (with_arguments e r) x at vs f = cc
segment_equals (with_colons e r) x at vs f = cc

segments_equals : {b : Bool} {ws rest : List Word} {ss : List Segment} {last : Span} → IsSegments b ws ss last rest → (x : Ident) (at : Span) (vs : List Word) → ws ≡ name x ∷ sign Equals at ∷ vs → rest ≡ sign Equals at ∷ vs
segments_equals (last_segment r) x at vs f = segment_equals r x at vs f
segments_equals (more_segments r s) x at vs f = let h = segment_equals r x at vs f in cc

path_equals : {b : Bool} {ws rest : List Word} {p : WrittenPath} → IsPath b ws p rest → (x : Ident) (at : Span) (vs : List Word) → ws ≡ name x ∷ sign Equals at ∷ vs → rest ≡ sign Equals at ∷ vs
path_equals (from_here r) x at vs f = segments_equals r x at vs f
path_equals (from_root r) x at vs f = cc

type_equals : {b : Bounds} {ws rest : List Word} {t : Written} → IsTypeOf b ws t rest → (x : Ident) (at : Span) (vs : List Word) → ws ≡ name x ∷ sign Equals at ∷ vs → rest ≡ sign Equals at ∷ vs
type_equals (pathed r) x at vs f = path_equals r x at vs f
type_equals (referred l m r) x at vs f = cc
type_equals (wrapped r) x at vs f = cc
type_equals unit x at vs f = cc
type_equals (several r s) x at vs f = cc
type_equals (sliced r) x at vs f = cc
type_equals (arrayed r) x at vs f = cc
type_equals (object l q p r) x at vs f = cc

no_binding_there : (b : Bool) (ws : List Word) {rest : List Word} {t : Written} → IsTypeOf Any ws t rest → closes rest ≡ true → after_binding b ws ≡ ws
no_binding_there false ws r e = refl
no_binding_there true [] r e = refl
no_binding_there true (name x ∷ sign Equals s ∷ ws) r e = let h = type_equals r x s ws refl in absurd (no_equals s ws (ap closes (sym h) ∙ e))
no_binding_there true (name x ∷ []) r e = refl
no_binding_there true (name x ∷ sign _ s ∷ ws) r e = refl
no_binding_there true (name x ∷ _ ∷ ws) r e = refl
no_binding_there true (_ ∷ ws) r e = refl

binding_is : {b : Bool} {ws us rest : List Word} {t : Written} → MayBeBinding b ws us → IsTypeOf Any us t rest → closes rest ≡ true → after_binding b ws ≡ us
binding_is {b = b} {us = us} no_binding r e = no_binding_there b us r e
binding_is a_binding r e = refl

pub binding_plain : {b : Bool} {ws us : List Word} → MayBeBinding b ws us → Begins us → plain_argument ws ≡ None
binding_plain no_binding h = ap plain_argument h.2 ∙ begins_no_plain h.0 h.1 h.3
binding_plain a_binding h = refl

pub binding_list : {b : Bool} {ws us : List Word} → MayBeBinding b ws us → Begins us → ends_list ws ≡ false
binding_list no_binding h = begins_list h
binding_list a_binding h = refl

pub argument_list : {b : Bool} {ws rest : List Word} {x : Argument} → IsArgument b ws x rest → ends_list ws ≡ false
argument_list of_lifetime = refl
argument_list (of_constant a_literal) = refl
argument_list (of_constant a_negative) = refl
argument_list (of_constant a_true) = refl
argument_list (of_constant a_false) = refl
argument_list (of_constant a_block) = refl
argument_list (of_type no_binding r) = begins_list (type_begins r)
argument_list (of_type a_binding r) = refl

-- ---- the readers at the front of a part
pub by_path : (b : Bounds) (inner : TypeReader) (ws : List Word) → Starts ws → type_step b inner ws ≡ (path_at false inner ws >>= λ p. Ok (path p.0, p.1))
unfolding type_step
by_path b inner ws h = ap (type_step b inner) h.2 ∙ ap (type_from b inner h.0 h.1) h.3 ∙ ap (λ v. path_at false inner v >>= λ p. Ok (path p.0, p.1)) (sym h.2)

pub by_bound : (inner : TypeReader) (ws : List Word) (w : Word) (us : List Word) → ws ≡ w ∷ us → as_lifetime w ≡ None → bound_at inner ws ≡ (path_at true inner (without (as_sign Question) ws) >>= λ p. Ok (span_of p.0, p.1))
unfolding bound_at
by_bound inner ws w us e h = ap (bound_at inner) e ∙ ap (λ o. bound_from inner (w ∷ us) o w us) h ∙ ap (λ v. path_at true inner (without (as_sign Question) v) >>= λ p. Ok (span_of p.0, p.1)) (sym e)

abbrev pub bounded : TypeReader → Read Span → Result (List Word) Fault
bounded inner r = r >>= λ b. bounds_in inner b.0 b.1 >>= λ e. Ok e.1

pub by_bounds : (inner : TypeReader) {ws : List Word} → BeginsBound ws → after_bounds inner ws ≡ bounded inner (bound_at inner ws)
unfolding after_bounds
by_bounds inner h = ap (after_bounds inner) h.2 ∙ ap (λ b. cond b (bounded inner (bound_at inner (h.0 ∷ h.1))) (Ok (h.0 ∷ h.1))) h.3 ∙ ap (λ v. bounded inner (bound_at inner v)) (sym h.2)

pub list_goes_on : {A : Type 0} (ends : List Word → Bool) (item : List Word → Read A) → Shortens item → (ws : List Word) → ends ws ≡ false → list_until ends item ws ≡ (item ws >>= λ p. list_after (list_until ends item) p.0 p.1 (after_sign Comma p.1))
list_goes_on ends item shortens ws e = list_until_step ends item shortens ws ∙ ap (λ b. cond b (Ok ([], ws)) (item ws >>= λ p. list_after (list_until ends item) p.0 p.1 (after_sign Comma p.1))) e

pub round_goes_on : (inner : TypeReader) (s : Span) (ws : List Word) → is_end ws ≡ false → round_at inner s ws ≡ (inner Any ws >>= λ t. cond (is_end t.1) (Ok t.0) (tuple_after inner s t.0 t.1))
unfolding round_at
round_goes_on inner s ws e = ap (λ v. cond v (Ok (tuple no_types s)) (inner Any ws >>= λ t. cond (is_end t.1) (Ok t.0) (tuple_after inner s t.0 t.1))) e

-- no list of arguments follows
pub stops_bare : (ws : List Word) → PathStops ws → arguments_after ws ≡ None
stops_bare ws s = ap (λ o. first_of_two o (then_less (after_sign Colons ws))) s.0 ∙ ap then_less s.1

pub segments_bare : (at : Span) {ws : List Word} → WordFirst ws → arguments_after (sign Colons at ∷ ws) ≡ None
segments_bare at h = ap (after_sign Less) h.3 ∙ (word_no_sign h.0 h.2 h.4 h.1).1

pub more_bare : {b : Bounds} {before last : Span} {ws rest : List Word} → MoreBounds b before ws last rest → Stops rest → PathStops ws
more_bare (no_more_bounds {rest = rest}) stops = stops_path rest stops
more_bare (one_more_bound r s) stops = (refl, refl)

-- what follows bounds begins with none and is no more of one
abbrev pub begin_bounds : List Word → Bool
begin_bounds [] = false
begin_bounds (w ∷ ws) = begins_bound w

abbrev pub BoundsStop : List Word → Type 0
BoundsStop ws = Stops ws × (begin_bounds ws ≡ false)

no_bound_begins : (inner : TypeReader) (ws : List Word) → begin_bounds ws ≡ false → after_bounds inner ws ≡ Ok ws
unfolding after_bounds
no_bound_begins inner [] e = refl
no_bound_begins inner (w ∷ ws) e = ap (λ b. cond b (bounded inner (bound_at inner (w ∷ ws))) (Ok (w ∷ ws))) e

too_deep_there : (ws : List Word) → Begins ws → (at : Span) × (too_deep ws ≡ Err (deep at))
too_deep_there ws h = (start_of h.0, ap too_deep h.2 ∙ ap (λ b. cond b (Err (deep (start_of h.0))) (Err wrong)) h.3)

mutual
  unfolding type_in type_step reference_at round_at square_at object_at path_at segment_at argument_at bound_at

  pub type_complete : {b : Bounds} {ws rest : List Word} {t : Written} → IsTypeOf b ws t rest → Stops rest → (n : ℕ) → Reaches (type_in n b ws) (t, rest)
  type_complete {ws = ws} r stops zero = inr (too_deep_there ws (type_begins r))
  type_complete {b = b} (pathed {ws = ws} {rest = rest} {p = p} r) stops (suc n) =
      reach_as (type_step b (type_in n) ws) (path_at false (type_in n) ws >>= λ q. Ok (path q.0, q.1)) (path p, rest) (by_path b (type_in n) ws (path_starts r))
      (reach (path_at false (type_in n) ws) (p, rest) (λ q. Ok (path q.0, q.1)) (path p, rest) (path_complete r (stops_path rest stops) n) (inl refl))
  type_complete (referred {ws = ws} {vs = vs} {rest = rest} {t = t} l m r) stops (suc n) =
      reach_as (reference_at (type_in n) ws) (type_in n One vs >>= λ q. Ok (reference q.0, q.1)) (reference t, rest) (ap (λ v. type_in n One v >>= λ q. Ok (reference q.0, q.1)) (both_are l m (type_begins r)))
      (reach (type_in n One vs) (t, rest) (λ q. Ok (reference q.0, q.1)) (reference t, rest) (type_complete r stops n) (inl refl))
  type_complete (wrapped {g = g} {s = s} {rest = rest} {t = t} r) stops (suc n) =
      reach (round_at (type_in n) s (words_of g)) t (λ v. Ok (v, rest)) (t, rest)
      (reach_as (round_at (type_in n) s (words_of g)) (type_in n Any (words_of g) >>= λ q. cond (is_end q.1) (Ok q.0) (tuple_after (type_in n) s q.0 q.1)) t (round_goes_on (type_in n) s (words_of g) (begins_no_end (type_begins r)))
      (reach (type_in n Any (words_of g)) (t, []) (λ q. cond (is_end q.1) (Ok q.0) (tuple_after (type_in n) s q.0 q.1)) t (type_complete r refl n) (inl refl)))
      (inl refl)
  type_complete unit stops (suc n) = inl refl
  type_complete (several {g = g} {s = s} {at = at} {mid = mid} {rest = rest} {t = t} {us = us} r q) stops (suc n) =
      let whole = tuple (more_types t (writtens_of us)) s in
      reach (round_at (type_in n) s (words_of g)) whole (λ v. Ok (v, rest)) (whole, rest)
      (reach_as (round_at (type_in n) s (words_of g)) (type_in n Any (words_of g) >>= λ q. cond (is_end q.1) (Ok q.0) (tuple_after (type_in n) s q.0 q.1)) whole (round_goes_on (type_in n) s (words_of g) (begins_no_end (type_begins r)))
      (reach (type_in n Any (words_of g)) (t, sign Comma at ∷ mid) (λ q. cond (is_end q.1) (Ok q.0) (tuple_after (type_in n) s q.0 q.1)) whole (type_complete r refl n)
      (reach (all (list_of (type_in n Any) mid)) us (λ vs. Ok (tuple (more_types t (writtens_of vs)) s)) whole
      (reach (list_of (type_in n Any) mid) (us, []) (λ p. cond (is_end p.1) (Ok p.0) (Err wrong)) us (types_complete q refl n) (inl refl)) (inl refl))))
      (inl refl)
  type_complete (sliced {g = g} {s = s} {rest = rest} {t = t} r) stops (suc n) =
      reach (square_at (type_in n) s (words_of g)) (slice t s) (λ v. Ok (v, rest)) (slice t s, rest)
      (reach (type_in n Any (words_of g)) (t, []) (λ q. cond (is_end q.1) (Ok (slice q.0 s)) (array_after s q.0 q.1)) (slice t s) (type_complete r refl n) (inl refl))
      (inl refl)
  type_complete (arrayed {g = g} {s = s} {at = at} {w = w} {expression = es} {rest = rest} {t = t} r) stops (suc n) =
      reach (square_at (type_in n) s (words_of g)) (array t s) (λ v. Ok (v, rest)) (array t s, rest)
      (reach (type_in n Any (words_of g)) (t, sign Semicolon at ∷ w ∷ es) (λ q. cond (is_end q.1) (Ok (slice q.0 s)) (array_after s q.0 q.1)) (array t s) (type_complete r refl n) (inl refl))
      (inl refl)
  type_complete {b = b} (object {x = x} {last = last} {ws = ws} {vs = vs} {mid = mid} {rest = rest} {p = p} l q r m) stops (suc n) =
      let whole = trait_object p (cover x.span last) in
      reach_as (object_at b (type_in n) x.span ws) (path_at false (type_in n) vs >>= λ q. more_bounds b (type_in n) (span_of q.0) q.1 >>= λ e. Ok (trait_object q.0 (cover x.span e.0), e.1)) (whole, rest)
      (ap (λ v. path_at false (type_in n) v >>= λ q. more_bounds b (type_in n) (span_of q.0) q.1 >>= λ e. Ok (trait_object q.0 (cover x.span e.0), e.1)) (first_are l q (path_starts r)))
      (reach (path_at false (type_in n) vs) (p, mid) (λ q. more_bounds b (type_in n) (span_of q.0) q.1 >>= λ e. Ok (trait_object q.0 (cover x.span e.0), e.1)) (whole, rest) (path_complete r (more_bare m stops) n)
      (reach (more_bounds b (type_in n) (span_of p) mid) (last, rest) (λ e. Ok (trait_object p (cover x.span e.0), e.1)) (whole, rest) (more_complete m stops n) (inl refl)))

  pub more_complete : {b : Bounds} {before last : Span} {ws rest : List Word} → MoreBounds b before ws last rest → Stops rest → (n : ℕ) → Reaches (more_bounds b (type_in n) before ws) (last, rest)
  more_complete (no_more_bounds {bounds = One}) stops n = inl refl
  more_complete (no_more_bounds {bounds = Any} {last = last} {rest = rest}) stops n = inl (bounds_done (type_in n) (bound_shortens n) last rest (stops_plus rest stops))
  more_complete (one_more_bound {before = before} {at = at} {b = b} {last = last} {ws = ws} {mid = mid} {rest = rest} r s) stops n =
      reach_as (bounds_in (type_in n) before (sign Plus at ∷ ws)) (bound_at (type_in n) ws >>= λ q. bounds_in (type_in n) q.0 q.1) (last, rest)
      (bounds_turn (type_in n) (bound_shortens n) before (sign Plus at ∷ ws) ws (bound_at (type_in n) ws) refl refl)
      (reach (bound_at (type_in n) ws) (b, mid) (λ q. bounds_in (type_in n) q.0 q.1) (last, rest) (bound_complete r (more_bare s stops) n) (more_complete s stops n))

  pub bound_complete : {ws rest : List Word} {at : Span} → IsBound ws at rest → PathStops rest → (n : ℕ) → Reaches (bound_at (type_in n) ws) (at, rest)
  bound_complete a_lifetime_bound stops n = inl refl
  bound_complete (a_path_bound {ws = ws} {us = us} {rest = rest} {p = p} q r) stops n =
      let first = question_first q (path_starts r) in
      reach_as (bound_at (type_in n) ws) (path_at true (type_in n) us >>= λ q. Ok (span_of q.0, q.1)) (span_of p, rest)
      (by_bound (type_in n) ws first.0 first.1 first.2 first.3 ∙ ap (λ v. path_at true (type_in n) v >>= λ q. Ok (span_of q.0, q.1)) (path_behind_question q (path_starts r)))
      (reach (path_at true (type_in n) us) (p, rest) (λ q. Ok (span_of q.0, q.1)) (span_of p, rest) (path_complete r stops n) (inl refl))

  pub path_complete : {b : Bool} {ws rest : List Word} {p : WrittenPath} → IsPath b ws p rest → PathStops rest → (n : ℕ) → Reaches (path_at b (type_in n) ws) (p, rest)
  path_complete {b = b} (from_here {w = w} {ws = ws} {rest = rest} {ss = ss} {last = last} r) stops n =
      let h = segments_first r in
      let begins = h.3 in
      let same : w ≡ h.0 = cc in
      let whole = path_of false (segments_of ss) (cover (start_of w) last) in
      reach_as (path_at b (type_in n) (w ∷ ws)) (segments_in b (type_in n) (w ∷ ws) >>= λ p. Ok (path_of false (segments_of p.0.0) (cover (start_of w) p.0.1), p.1)) (whole, rest)
      (ap (path_from b (type_in n) w ws) (ap (as_sign Colons) same ∙ (word_no_sign h.0 h.2 h.4 ws).0))
      (reach (segments_in b (type_in n) (w ∷ ws)) ((ss, last), rest) (λ p. Ok (path_of false (segments_of p.0.0) (cover (start_of w) p.0.1), p.1)) (whole, rest) (segments_complete r stops n) (inl refl))
  path_complete {b = b} (from_root {at = at} {ws = ws} {rest = rest} {ss = ss} {last = last} r) stops n =
      reach (segments_in b (type_in n) ws) ((ss, last), rest) (λ p. Ok (path_of true (segments_of p.0.0) (cover at p.0.1), p.1)) (path_of true (segments_of ss) (cover at last), rest) (segments_complete r stops n) (inl refl)

  pub segments_complete : {b : Bool} {ws rest : List Word} {ss : List Segment} {last : Span} → IsSegments b ws ss last rest → PathStops rest → (n : ℕ) → Reaches (segments_in b (type_in n) ws) ((ss, last), rest)
  segments_complete {b = b} (last_segment {ws = ws} {rest = rest} {s = s} {last = last} r) stops n =
      reach_as (segments_in b (type_in n) ws) (segment_at b (type_in n) ws >>= λ p. segments_after (segments_in b (type_in n)) p.0 p.1 (after_sign Colons p.1)) ((s ∷ [], last), rest) (segments_in_step b (type_in n) (segment_shortens n b) ws)
      (reach (segment_at b (type_in n) ws) ((s, last), rest) (λ p. segments_after (segments_in b (type_in n)) p.0 p.1 (after_sign Colons p.1)) ((s ∷ [], last), rest) (segment_complete r (stops_bare rest stops) n)
      (inl (ap (segments_after (segments_in b (type_in n)) (s, last) rest) stops.1)))
  segments_complete {b = b} (more_segments {ws = ws} {mid = mid} {rest = rest} {s = s} {ss = ss} {before = before} {at = at} {last = last} r q) stops n =
      reach_as (segments_in b (type_in n) ws) (segment_at b (type_in n) ws >>= λ p. segments_after (segments_in b (type_in n)) p.0 p.1 (after_sign Colons p.1)) ((s ∷ ss, last), rest) (segments_in_step b (type_in n) (segment_shortens n b) ws)
      (reach (segment_at b (type_in n) ws) ((s, before), sign Colons at ∷ mid) (λ p. segments_after (segments_in b (type_in n)) p.0 p.1 (after_sign Colons p.1)) ((s ∷ ss, last), rest) (segment_complete r (segments_bare at (segments_first q)) n)
      (reach (segments_in b (type_in n) mid) ((ss, last), rest) (λ p. Ok ((s ∷ p.0.0, p.0.1), p.1)) ((s ∷ ss, last), rest) (segments_complete q stops n) (inl refl)))

  pub segment_complete : {b : Bool} {ws rest : List Word} {s : Segment} {last : Span} → IsSegment b ws s last rest → arguments_after rest ≡ None → (n : ℕ) → Reaches (segment_at b (type_in n) ws) ((s, last), rest)
  segment_complete {b = b} (without_arguments {w = w} {x = x} {rest = rest} e) bare n =
      inl (ap (λ o. taken o rest >>= λ y. segment_after b (type_in n) y.0 y.1 (arguments_after y.1)) e ∙ ap (segment_after b (type_in n) x rest) bare)
  segment_complete {b = b} (with_arguments {w = w} {x = x} {open_at = o} {close_at = c} {ws = ws} {rest = rest} {xs = xs} e r) bare n =
      let f = λ (y : Ident × List Word). segment_after b (type_in n) y.0 y.1 (arguments_after y.1) in
      reach_as (segment_at b (type_in n) (w ∷ sign Less o ∷ ws)) (f (x, sign Less o ∷ ws)) ((applied x (arguments_of xs), c), rest) (ap (λ v. taken v (sign Less o ∷ ws) >>= f) e)
      (reach (list_of (argument_at b (type_in n)) ws) (xs, sign Greater c ∷ rest) (λ p. sign_at Greater p.1 >>= λ e. Ok ((applied x (arguments_of p.0), e.0), e.1)) ((applied x (arguments_of xs), c), rest) (arguments_complete r refl n) (inl refl))
  segment_complete {b = b} (with_colons {w = w} {x = x} {colons_at = d} {open_at = o} {close_at = c} {ws = ws} {rest = rest} {xs = xs} e r) bare n =
      let f = λ (y : Ident × List Word). segment_after b (type_in n) y.0 y.1 (arguments_after y.1) in
      reach_as (segment_at b (type_in n) (w ∷ sign Colons d ∷ sign Less o ∷ ws)) (f (x, sign Colons d ∷ sign Less o ∷ ws)) ((applied x (arguments_of xs), c), rest) (ap (λ v. taken v (sign Colons d ∷ sign Less o ∷ ws) >>= f) e)
      (reach (list_of (argument_at b (type_in n)) ws) (xs, sign Greater c ∷ rest) (λ p. sign_at Greater p.1 >>= λ e. Ok ((applied x (arguments_of p.0), e.0), e.1)) ((applied x (arguments_of xs), c), rest) (arguments_complete r refl n) (inl refl))

  pub argument_complete : {b : Bool} {ws rest : List Word} {x : Argument} → IsArgument b ws x rest → closes rest ≡ true → (n : ℕ) → Reaches (argument_at b (type_in n) ws) (x, rest)
  argument_complete of_lifetime e n = inl refl
  argument_complete (of_constant a_literal) e n = inl refl
  argument_complete (of_constant a_negative) e n = inl refl
  argument_complete (of_constant a_true) e n = inl refl
  argument_complete (of_constant a_false) e n = inl refl
  argument_complete (of_constant a_block) e n = inl refl
  argument_complete {b = b} (of_type {ws = ws} {us = us} {rest = rest} {t = t} k r) e n =
      reach_as (argument_at b (type_in n) ws) (type_in n Any us >>= λ q. Ok (type_argument q.0, q.1)) (type_argument t, rest)
      (ap (argument_or (type_in n) (after_binding b ws)) (binding_plain k (type_begins r)) ∙ ap (λ v. type_in n Any v >>= λ q. Ok (type_argument q.0, q.1)) (binding_is k r e))
      (reach (type_in n Any us) (t, rest) (λ q. Ok (type_argument q.0, q.1)) (type_argument t, rest) (type_complete r (closes_stops rest e) n) (inl refl))

  pub arguments_complete : {b : Bool} {ws rest : List Word} {xs : List Argument} → IsArguments b ws xs rest → ends_list rest ≡ true → (n : ℕ) → Reaches (list_of (argument_at b (type_in n)) ws) (xs, rest)
  arguments_complete {b = b} (no_argument {rest = rest}) ends n = inl (list_ends ends_list (argument_at b (type_in n)) rest ends)
  arguments_complete {b = b} (last_argument {ws = ws} {rest = rest} {x = x} r) ends n =
      let item = argument_at b (type_in n) in
      reach_as (list_of item ws) (item ws >>= λ p. list_after (list_of item) p.0 p.1 (after_sign Comma p.1)) (x ∷ [], rest) (list_goes_on ends_list item (argument_shortens n b) ws (argument_list r))
      (reach (item ws) (x, rest) (λ p. list_after (list_of item) p.0 p.1 (after_sign Comma p.1)) (x ∷ [], rest) (argument_complete r (ends_closes rest ends) n)
      (inl (ap (list_after (list_of item) x rest) (ends_no_comma rest ends))))
  arguments_complete {b = b} (another_argument {ws = ws} {mid = mid} {rest = rest} {at = at} {x = x} {xs = xs} r s) ends n =
      let item = argument_at b (type_in n) in
      reach_as (list_of item ws) (item ws >>= λ p. list_after (list_of item) p.0 p.1 (after_sign Comma p.1)) (x ∷ xs, rest) (list_goes_on ends_list item (argument_shortens n b) ws (argument_list r))
      (reach (item ws) (x, sign Comma at ∷ mid) (λ p. list_after (list_of item) p.0 p.1 (after_sign Comma p.1)) (x ∷ xs, rest) (argument_complete r refl n)
      (reach (list_of item mid) (xs, rest) (λ p. Ok (x ∷ p.0, p.1)) (x ∷ xs, rest) (arguments_complete s ends n) (inl refl)))

  pub types_complete : {ws rest : List Word} {us : List Written} → IsTypes ws us rest → ends_list rest ≡ true → (n : ℕ) → Reaches (list_of (type_in n Any) ws) (us, rest)
  types_complete (no_type {rest = rest}) ends n = inl (list_ends ends_list (type_in n Any) rest ends)
  types_complete (last_type {ws = ws} {rest = rest} {t = t} r) ends n =
      let item = type_in n Any in
      reach_as (list_of item ws) (item ws >>= λ p. list_after (list_of item) p.0 p.1 (after_sign Comma p.1)) (t ∷ [], rest) (list_goes_on ends_list item (type_shortens n Any) ws (begins_list (type_begins r)))
      (reach (item ws) (t, rest) (λ p. list_after (list_of item) p.0 p.1 (after_sign Comma p.1)) (t ∷ [], rest) (type_complete r (closes_stops rest (ends_closes rest ends)) n)
      (inl (ap (list_after (list_of item) t rest) (ends_no_comma rest ends))))
  types_complete (another_type {ws = ws} {mid = mid} {rest = rest} {at = at} {t = t} {us = us} r s) ends n =
      let item = type_in n Any in
      reach_as (list_of item ws) (item ws >>= λ p. list_after (list_of item) p.0 p.1 (after_sign Comma p.1)) (t ∷ us, rest) (list_goes_on ends_list item (type_shortens n Any) ws (begins_list (type_begins r)))
      (reach (item ws) (t, sign Comma at ∷ mid) (λ p. list_after (list_of item) p.0 p.1 (after_sign Comma p.1)) (t ∷ us, rest) (type_complete r refl n)
      (reach (list_of item mid) (us, rest) (λ p. Ok (t ∷ p.0, p.1)) (t ∷ us, rest) (types_complete s ends n) (inl refl)))

pub bounds_complete : {ws rest : List Word} → IsBounds ws rest → BoundsStop rest → (n : ℕ) → Reaches (after_bounds (type_in n) ws) rest
bounds_complete (no_bounds {rest = rest}) stops n = inl (no_bound_begins (type_in n) rest stops.1)
bounds_complete (some_bounds {ws = ws} {mid = mid} {rest = rest} {first = first} {last = last} r s) stops n =
    reach_as (after_bounds (type_in n) ws) (bounded (type_in n) (bound_at (type_in n) ws)) rest (by_bounds (type_in n) (bound_begins r))
    (reach (bound_at (type_in n) ws) (first, mid) (λ b. bounds_in (type_in n) b.0 b.1 >>= λ e. Ok e.1) rest (bound_complete r (more_bare s stops.0) n)
    (reach (bounds_in (type_in n) first mid) (last, rest) (λ e. Ok e.1) rest (more_complete s stops.0 n) (inl refl)))
