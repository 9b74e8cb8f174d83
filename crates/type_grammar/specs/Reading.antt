-- Reading types from left to right, as functions.
use Rattle.std.specs.Prelude.{codes, ℕ, zero, suc, List, [], ◌∷◌, ◌++◌, length, Option, Some, None, Result, Ok, Err, Bool, true, false, cond}
use Rattle.texts.specs.declared.span.Span.{Span}
use Rattle.tokens.specs.declared.token.Bracket.TheVariants.{Curly}
use Rattle.tokens.specs.Trees.{token, end, ◌▸◌, trees_view}
use Rattle.tokens.specs.Trees as trees
use Rattle.written_types.specs.declared.written.Ident.{Ident}
use Rattle.written_types.specs.Written.{Written, path, reference, tuple, slice, array, trait_object, no_types, more_types, writtens_of, WrittenPath, path_of, segments_of, Segment, plain, applied, arguments_of, Argument, lifetime_argument, constant_argument, type_argument}
use Rattle.words.specs.declared.vocabulary.Keyword.TheVariants.{Mut, True, False}
use Rattle.words.specs.declared.vocabulary.Sign.{Sign}
use Rattle.words.specs.declared.vocabulary.Sign.TheVariants.{Less, Greater, Comma, Colons, Semicolon, Plus, Minus, Equals, Question}
use Rattle.words.specs.Words.{Word, name, keyword, sign, lifetime, literal, group, words_of, cover, start_of}
use Rattle.words.specs.Reading.{Fault, deep, wrong, Read, ◌>>=◌, same_sign, same_bracket, as_keyword, as_sign, as_lifetime, path_word_at, sign_at}
use Rattle.type_grammar.specs.declared.starts.Bounds.{Bounds}
use Rattle.type_grammar.specs.declared.starts.Bounds.TheVariants.{One, Any}
use Rattle.type_grammar.specs.declared.starts.ListEnd.{ListEnd}
use Rattle.type_grammar.specs.declared.starts.ListEnd.TheVariants.{Angle, Clause}
use Rattle.type_grammar.specs.Starts.{TypeStart, starts_path, starts_reference, starts_object, starts_round, starts_square, starts_no_type, type_start, begins_type, begins_bound, span_of}
use Rattle.type_grammar.specs.declared.starts.TypeStart as program
use Rattle.type_grammar.specs.declared.starts.TypeStart.TheVariants as starts
use Rattle.type_grammar.specs.Grammar.{keyword_token, minus_token}

-- a reader of types, with as many bounds as may stand
abbrev pub TypeReader : Type 0
TypeReader = Bounds → List Word → Read Written

-- what follows the sign, where it stands
abbrev pub kept : {A B : Type 0} → Option A → B → Option B
kept None x = None
kept (Some a) x = Some x

abbrev pub after_sign : Sign → List Word → Option (List Word)
after_sign k [] = None
after_sign k (w ∷ ws) = kept (as_sign k w) ws

-- the words without the first one, where it is of the kind
abbrev pub unless : {A : Type 0} → Option A → Word → List Word → List Word
unless None w ws = w ∷ ws
unless (Some x) w ws = ws

abbrev pub without : {A : Type 0} → (Word → Option A) → List Word → List Word
without kind [] = []
without kind (w ∷ ws) = unless (kind w) w ws

abbrev pub is_end : List Word → Bool
is_end [] = true
is_end (w ∷ ws) = false

-- all of the words
abbrev pub all : {A : Type 0} → Read A → Result A Fault
all r = r >>= λ p. cond (is_end p.1) (Ok p.0) (Err wrong)

-- a list ends where the words end, or at `>`
abbrev pub ends_list : List Word → Bool
ends_list [] = true
ends_list (sign k s ∷ ws) = same_sign Greater k
ends_list (_ ∷ ws) = false

-- that of a where clause ends where the words end, at `;`, or at a group in curly brackets
abbrev pub ends_clause : List Word → Bool
ends_clause [] = true
ends_clause (sign k s ∷ ws) = same_sign Semicolon k
ends_clause (group b ts s ∷ ws) = same_bracket Curly b
ends_clause (_ ∷ ws) = false

-- where the program's lists end
abbrev pub ends_at : ListEnd → List Word → Bool
ends_at Angle = ends_list
ends_at Clause = ends_clause

abbrev pub list_after : {A : Type 0} → (List Word → Read (List A)) → A → List Word → Option (List Word) → Read (List A)
list_after again x ws None = Ok (x ∷ [], ws)
list_after again x ws (Some mid) = again mid >>= λ p. Ok (x ∷ p.0, p.1)

abbrev pub list_step : {A : Type 0} → (List Word → Bool) → (List Word → Read A) → (List Word → Read (List A)) → List Word → Read (List A)
list_step ends item again ws = cond (ends ws) (Ok ([], ws)) (item ws >>= λ p. list_after again p.0 p.1 (after_sign Comma p.1))

-- The number bounds the turns. One more than the count of the words is always enough.
unfoldable pub list_at : {A : Type 0} → (List Word → Bool) → (List Word → Read A) → ℕ → List Word → Read (List A)
list_at ends item zero ws = Err wrong
list_at ends item (suc n) ws = list_step ends item (list_at ends item n) ws

-- a list that ends there
unfoldable pub list_until : {A : Type 0} → (List Word → Bool) → (List Word → Read A) → List Word → Read (List A)
list_until ends item ws = list_at ends item (suc (length ws)) ws

abbrev pub list_of : {A : Type 0} → (List Word → Read A) → List Word → Read (List A)
list_of item ws = list_until ends_list item ws

-- the words without the name and `=` of a binding, where bindings may stand
abbrev pub after_binding : Bool → List Word → List Word
after_binding true (name x ∷ sign Equals s ∷ ws) = ws
after_binding _ ws = ws

-- the words without the lifetimes and `+` before the first path of a trait object
abbrev pub after_lifetimes : List Word → List Word
after_lifetimes (lifetime x ∷ sign Plus s ∷ ws) = after_lifetimes ws
after_lifetimes ws = ws

abbrev pub first_bound : Bounds → List Word → List Word
first_bound One ws = without (as_sign Question) ws
first_bound Any ws = without (as_sign Question) (after_lifetimes ws)

-- a lifetime and a constant
abbrev pub plain_argument : List Word → Option (Argument × List Word)
plain_argument (lifetime x ∷ ws) = Some (lifetime_argument x, ws)
plain_argument (literal t ∷ ws) = Some (constant_argument (token t ▸ end), ws)
plain_argument (sign Minus s ∷ literal t ∷ ws) = Some (constant_argument (token (minus_token s) ▸ token t ▸ end), ws)
plain_argument (keyword True x ∷ ws) = Some (constant_argument (token (keyword_token (codes "true") x.span) ▸ end), ws)
plain_argument (keyword False x ∷ ws) = Some (constant_argument (token (keyword_token (codes "false") x.span) ▸ end), ws)
plain_argument (group Curly ts s ∷ ws) = Some (constant_argument (trees.group Curly ts s ▸ end), ws)
plain_argument _ = None

-- the argument that was read, or else a type
abbrev pub argument_or : TypeReader → List Word → Option (Argument × List Word) → Read Argument
argument_or inner ws (Some p) = Ok p
argument_or inner ws None = inner Any ws >>= λ t. Ok (type_argument t.0, t.1)

unfoldable pub argument_at : Bool → TypeReader → List Word → Read Argument
argument_at bindings inner ws = argument_or inner (after_binding bindings ws) (plain_argument ws)

-- what follows the sign that opens a list of arguments
abbrev pub first_of_two : Option (List Word) → Option (List Word) → Option (List Word)
first_of_two (Some ws) other = Some ws
first_of_two None other = other

abbrev pub then_less : Option (List Word) → Option (List Word)
then_less None = None
then_less (Some ws) = after_sign Less ws

abbrev pub arguments_after : List Word → Option (List Word)
arguments_after ws = first_of_two (after_sign Less ws) (then_less (after_sign Colons ws))

-- a segment, and the bytes of its last token
abbrev pub segment_after : Bool → TypeReader → Ident → List Word → Option (List Word) → Read (Segment × Span)
segment_after bindings inner x ws None = Ok ((plain x, x.span), ws)
segment_after bindings inner x ws (Some mid) = list_of (argument_at bindings inner) mid >>= λ p. sign_at Greater p.1 >>= λ e. Ok ((applied x (arguments_of p.0), e.0), e.1)

unfoldable pub segment_at : Bool → TypeReader → List Word → Read (Segment × Span)
segment_at bindings inner ws = path_word_at ws >>= λ x. segment_after bindings inner x.0 x.1 (arguments_after x.1)

-- segments, and the bytes of the last token
abbrev pub Chain : Type 0
Chain = List Segment × Span

abbrev pub segments_after : (List Word → Read Chain) → Segment × Span → List Word → Option (List Word) → Read Chain
segments_after again s ws None = Ok ((s.0 ∷ [], s.1), ws)
segments_after again s ws (Some mid) = again mid >>= λ p. Ok ((s.0 ∷ p.0.0, p.0.1), p.1)

abbrev pub segments_step : Bool → TypeReader → (List Word → Read Chain) → List Word → Read Chain
segments_step bindings inner again ws = segment_at bindings inner ws >>= λ p. segments_after again p.0 p.1 (after_sign Colons p.1)

unfoldable pub segments_at : Bool → TypeReader → ℕ → List Word → Read Chain
segments_at bindings inner zero ws = Err wrong
segments_at bindings inner (suc n) ws = segments_step bindings inner (segments_at bindings inner n) ws

unfoldable pub segments_in : Bool → TypeReader → List Word → Read Chain
segments_in bindings inner ws = segments_at bindings inner (suc (length ws)) ws

-- a path from a word on, and one from `::` on
abbrev pub path_from : Bool → TypeReader → Word → List Word → Option Span → Read WrittenPath
path_from bindings inner w ws None = segments_in bindings inner (w ∷ ws) >>= λ p. Ok (path_of false (segments_of p.0.0) (cover (start_of w) p.0.1), p.1)
path_from bindings inner w ws (Some s) = segments_in bindings inner ws >>= λ p. Ok (path_of true (segments_of p.0.0) (cover s p.0.1), p.1)

unfoldable pub path_at : Bool → TypeReader → List Word → Read WrittenPath
path_at bindings inner [] = Err wrong
path_at bindings inner (w ∷ ws) = path_from bindings inner w ws (as_sign Colons w)

-- a bound, and its bytes
abbrev pub bound_from : TypeReader → List Word → Option Ident → Word → List Word → Read Span
bound_from inner whole (Some x) w ws = Ok (x.span, ws)
bound_from inner whole None w ws = path_at true inner (without (as_sign Question) whole) >>= λ p. Ok (span_of p.0, p.1)

unfoldable pub bound_at : TypeReader → List Word → Read Span
bound_at inner [] = Err wrong
bound_at inner (w ∷ ws) = bound_from inner (w ∷ ws) (as_lifetime w) w ws

-- the bounds behind `+`, and the bytes of the last one
abbrev pub bounds_after : TypeReader → (Span → List Word → Read Span) → Span → List Word → Option (List Word) → Read Span
bounds_after inner again last ws None = Ok (last, ws)
bounds_after inner again last ws (Some mid) = bound_at inner mid >>= λ b. again b.0 b.1

unfoldable pub bounds_at : TypeReader → ℕ → Span → List Word → Read Span
bounds_at inner zero last ws = Err wrong
bounds_at inner (suc n) last ws = bounds_after inner (bounds_at inner n) last ws (after_sign Plus ws)

unfoldable pub bounds_in : TypeReader → Span → List Word → Read Span
bounds_in inner last ws = bounds_at inner (suc (length ws)) last ws

abbrev pub more_bounds : Bounds → TypeReader → Span → List Word → Read Span
more_bounds One inner last ws = Ok (last, ws)
more_bounds Any inner last ws = bounds_in inner last ws

-- bounds, where one begins; what follows
unfoldable pub after_bounds : TypeReader → List Word → Result (List Word) Fault
after_bounds inner [] = Ok []
after_bounds inner (w ∷ ws) = cond (begins_bound w) (bound_at inner (w ∷ ws) >>= λ b. bounds_in inner b.0 b.1 >>= λ e. Ok e.1) (Ok (w ∷ ws))

-- `dyn` is read
unfoldable pub object_at : Bounds → TypeReader → Span → List Word → Read Written
object_at bounds inner s ws = path_at false inner (first_bound bounds ws) >>= λ p. more_bounds bounds inner (span_of p.0) p.1 >>= λ e. Ok (trait_object p.0 (cover s e.0), e.1)

-- `&` is read
unfoldable pub reference_at : TypeReader → List Word → Read Written
reference_at inner ws = inner One (without (as_keyword Mut) (without as_lifetime ws)) >>= λ t. Ok (reference t.0, t.1)

-- what stands between round brackets, and between square ones
abbrev pub tuple_after : TypeReader → Span → Written → List Word → Result Written Fault
tuple_after inner s t ws = sign_at Comma ws >>= λ c. all (list_of (inner Any) c.1) >>= λ us. Ok (tuple (more_types t (writtens_of us)) s)

unfoldable pub round_at : TypeReader → Span → List Word → Result Written Fault
round_at inner s ws = cond (is_end ws) (Ok (tuple no_types s)) (inner Any ws >>= λ t. cond (is_end t.1) (Ok t.0) (tuple_after inner s t.0 t.1))

abbrev pub array_after : Span → Written → List Word → Result Written Fault
array_after s t ws = sign_at Semicolon ws >>= λ c. cond (is_end c.1) (Err wrong) (Ok (array t s))

unfoldable pub square_at : TypeReader → Span → List Word → Result Written Fault
square_at inner s ws = inner Any ws >>= λ t. cond (is_end t.1) (Ok (slice t.0 s)) (array_after s t.0 t.1)

-- a type whose parts are read by inner
abbrev pub type_from : Bounds → TypeReader → Word → List Word → TypeStart → Read Written
type_from bounds inner w ws starts_path = path_at false inner (w ∷ ws) >>= λ p. Ok (path p.0, p.1)
type_from bounds inner w ws starts_reference = reference_at inner ws
type_from bounds inner w ws (starts_object s) = object_at bounds inner s ws
type_from bounds inner w ws (starts_round ts s) = round_at inner s (words_of ts) >>= λ t. Ok (t, ws)
type_from bounds inner w ws (starts_square ts s) = square_at inner s (words_of ts) >>= λ t. Ok (t, ws)
type_from bounds inner w ws starts_no_type = Err wrong

unfoldable pub type_step : Bounds → TypeReader → List Word → Read Written
type_step bounds inner [] = Err wrong
type_step bounds inner (w ∷ ws) = type_from bounds inner w ws (type_start w)

-- deep at the place where a type may begin
abbrev pub too_deep : List Word → Read Written
too_deep [] = Err wrong
too_deep (w ∷ ws) = cond (begins_type w) (Err (deep (start_of w))) (Err wrong)

-- a type that nests at most as deep as the number
unfoldable pub type_in : ℕ → TypeReader
type_in zero bounds ws = too_deep ws
type_in (suc n) bounds ws = type_step bounds (type_in n) ws

abbrev pub type_at : ℕ → List Word → Read Written
type_at n ws = type_in n Any ws

-- r with more at its front
abbrev pub with_front : {A : Type 0} → List A → Read (List A) → Read (List A)
with_front front r = r >>= λ p. Ok (front ++ p.0, p.1)

abbrev pub with_segments : List Segment → Read Chain → Read Chain
with_segments front r = r >>= λ p. Ok ((front ++ p.0.0, p.0.1), p.1)

-- what the program's starts of types are
abbrev pub start_view : program.TypeStart → TypeStart
start_view starts.Path = starts_path
start_view starts.Reference = starts_reference
start_view (starts.Object s) = starts_object s
start_view (starts.Round g) = starts_round (trees_view g.now.trees) g.now.span
start_view (starts.Square g) = starts_square (trees_view g.now.trees) g.now.span
start_view starts.NoType = starts_no_type
