-- The grammar of types (The Rust Reference, "Types", "Paths"). In `IsX before x rest` the words before begin with an x, and rest is what follows it.
use Rattle.std.specs.Prelude.{◌≡◌, ℕ, codes, List, [], ◌∷◌, Bool, true, false, Some}
use Rattle.texts.specs.declared.span.Span.{Span}
use Rattle.tokens.specs.declared.token.Token.{Token}
use Rattle.tokens.specs.declared.token.TokenKind.TheVariants as kinds
use Rattle.tokens.specs.declared.token.Bracket.TheVariants.{Round, Square, Curly}
use Rattle.tokens.specs.Trees.{Trees, token, end, ◌▸◌}
use Rattle.tokens.specs.Trees as trees
use Rattle.written_types.specs.declared.written.Ident.{Ident}
use Rattle.written_types.specs.Written.{Written, path, reference, tuple, slice, array, trait_object, no_types, more_types, writtens_of, WrittenPath, path_of, segments_of, Segment, plain, applied, arguments_of, Argument, lifetime_argument, constant_argument, type_argument}
use Rattle.words.specs.declared.vocabulary.Keyword.TheVariants.{Mut, Dyn, True, False}
use Rattle.words.specs.declared.vocabulary.Sign.TheVariants.{Less, Greater, Comma, Colons, Semicolon, Ampersand, Plus, Minus, Equals, Question}
use Rattle.words.specs.Words.{Word, name, keyword, sign, lifetime, literal, group, words_of, cover, start_of}
use Rattle.words.specs.Reading.{as_path_word}
use Rattle.type_grammar.specs.declared.starts.Bounds.{Bounds}
use Rattle.type_grammar.specs.declared.starts.Bounds.TheVariants.{One, Any}
use Rattle.type_grammar.specs.Starts.{span_of}

-- lifetime?, "mut"? and "?"?
pub data MayBeLifetime : List Word → List Word → Type 0 where
  no_lifetime : {rest : List Word} → MayBeLifetime rest rest
  a_lifetime : {x : Ident} {rest : List Word} → MayBeLifetime (lifetime x ∷ rest) rest

pub data MayBeMut : List Word → List Word → Type 0 where
  no_mut : {rest : List Word} → MayBeMut rest rest
  a_mut : {x : Ident} {rest : List Word} → MayBeMut (keyword Mut x ∷ rest) rest

pub data MayBeQuestion : List Word → List Word → Type 0 where
  no_question : {rest : List Word} → MayBeQuestion rest rest
  a_question : {at : Span} {rest : List Word} → MayBeQuestion (sign Question at ∷ rest) rest

-- (lifetime "+")*, where more bounds than one may stand
pub data LifetimesFirst : Bounds → List Word → List Word → Type 0 where
  no_more_lifetimes : {bounds : Bounds} {rest : List Word} → LifetimesFirst bounds rest rest
  a_lifetime_first : {x : Ident} {at : Span} {ws rest : List Word} → LifetimesFirst Any ws rest → LifetimesFirst Any (lifetime x ∷ sign Plus at ∷ ws) rest

-- (name "=")?, where bindings may stand
pub data MayBeBinding : Bool → List Word → List Word → Type 0 where
  no_binding : {bindings : Bool} {rest : List Word} → MayBeBinding bindings rest rest
  a_binding : {x : Ident} {at : Span} {rest : List Word} → MayBeBinding true (name x ∷ sign Equals at ∷ rest) rest

-- the token of a keyword and of the sign `-`
abbrev pub keyword_token : List ℕ → Span → Token
keyword_token text s = record { kind = kinds.Ident; text = text; span = s }

abbrev pub minus_token : Span → Token
minus_token s = record { kind = kinds.Punct; text = codes "-"; span = s }

-- constant = "-"? literal | "true" | "false" | curly-group
pub data IsConstant : List Word → Trees → List Word → Type 0 where
  a_literal : {t : Token} {rest : List Word} → IsConstant (literal t ∷ rest) (token t ▸ end) rest
  a_negative : {at : Span} {t : Token} {rest : List Word} → IsConstant (sign Minus at ∷ literal t ∷ rest) (token (minus_token at) ▸ token t ▸ end) rest
  a_true : {x : Ident} {rest : List Word} → IsConstant (keyword True x ∷ rest) (token (keyword_token (codes "true") x.span) ▸ end) rest
  a_false : {x : Ident} {rest : List Word} → IsConstant (keyword False x ∷ rest) (token (keyword_token (codes "false") x.span) ▸ end) rest
  a_block : {ts : Trees} {s : Span} {rest : List Word} → IsConstant (group Curly ts s ∷ rest) (trees.group Curly ts s ▸ end) rest

mutual
  -- type = path | "&" lifetime? "mut"? type | "(" type ")" | "(" ")" | "(" type "," list of type ")" | "[" type "]" | "[" type ";" expr "]" | "dyn" object
  -- object = (lifetime "+")* "?"? path ("+" bound)*, where the path has no bindings; behind "&" it is "?"? path
  pub data IsTypeOf : Bounds → List Word → Written → List Word → Type 0 where
    pathed : {bounds : Bounds} {ws rest : List Word} {p : WrittenPath} → IsPath false ws p rest → IsTypeOf bounds ws (path p) rest
    referred : {bounds : Bounds} {at : Span} {ws us vs rest : List Word} {t : Written} → MayBeLifetime ws us → MayBeMut us vs → IsTypeOf One vs t rest → IsTypeOf bounds (sign Ampersand at ∷ ws) (reference t) rest
    wrapped : {bounds : Bounds} {g : Trees} {s : Span} {rest : List Word} {t : Written} → IsTypeOf Any (words_of g) t [] → IsTypeOf bounds (group Round g s ∷ rest) t rest
    unit : {bounds : Bounds} {s : Span} {rest : List Word} → IsTypeOf bounds (group Round end s ∷ rest) (tuple no_types s) rest
    several : {bounds : Bounds} {g : Trees} {s at : Span} {mid rest : List Word} {t : Written} {us : List Written} → IsTypeOf Any (words_of g) t (sign Comma at ∷ mid) → IsTypes mid us []
        → IsTypeOf bounds (group Round g s ∷ rest) (tuple (more_types t (writtens_of us)) s) rest
    sliced : {bounds : Bounds} {g : Trees} {s : Span} {rest : List Word} {t : Written} → IsTypeOf Any (words_of g) t [] → IsTypeOf bounds (group Square g s ∷ rest) (slice t s) rest
    arrayed : {bounds : Bounds} {g : Trees} {s at : Span} {w : Word} {expression rest : List Word} {t : Written} → IsTypeOf Any (words_of g) t (sign Semicolon at ∷ w ∷ expression)
        → IsTypeOf bounds (group Square g s ∷ rest) (array t s) rest
    object : {bounds : Bounds} {x : Ident} {last : Span} {ws us vs mid rest : List Word} {p : WrittenPath} → LifetimesFirst bounds ws us → MayBeQuestion us vs → IsPath false vs p mid → MoreBounds bounds (span_of p) mid last rest
        → IsTypeOf bounds (keyword Dyn x ∷ ws) (trait_object p (cover x.span last)) rest

  -- ("+" bound)*, where more bounds than one may stand: the bound before them ends at the first span, the last of them at the second
  pub data MoreBounds : Bounds → Span → List Word → Span → List Word → Type 0 where
    no_more_bounds : {bounds : Bounds} {last : Span} {rest : List Word} → MoreBounds bounds last rest last rest
    one_more_bound : {before at b last : Span} {ws mid rest : List Word} → IsBound ws b mid → MoreBounds Any b mid last rest → MoreBounds Any before (sign Plus at ∷ ws) last rest

  -- bound = lifetime | "?"? path, whose arguments may be bindings; the span is that of the lifetime or of the path
  pub data IsBound : List Word → Span → List Word → Type 0 where
    a_lifetime_bound : {x : Ident} {rest : List Word} → IsBound (lifetime x ∷ rest) x.span rest
    a_path_bound : {ws us rest : List Word} {p : WrittenPath} → MayBeQuestion ws us → IsPath true us p rest → IsBound ws (span_of p) rest

  -- path = "::"? segment ("::" segment)*, from its first to its last token
  pub data IsPath : Bool → List Word → WrittenPath → List Word → Type 0 where
    from_here : {bindings : Bool} {w : Word} {ws rest : List Word} {ss : List Segment} {last : Span} → IsSegments bindings (w ∷ ws) ss last rest
        → IsPath bindings (w ∷ ws) (path_of false (segments_of ss) (cover (start_of w) last)) rest
    from_root : {bindings : Bool} {at : Span} {ws rest : List Word} {ss : List Segment} {last : Span} → IsSegments bindings ws ss last rest
        → IsPath bindings (sign Colons at ∷ ws) (path_of true (segments_of ss) (cover at last)) rest

  -- segment ("::" segment)*; the span is that of the last token
  pub data IsSegments : Bool → List Word → List Segment → Span → List Word → Type 0 where
    last_segment : {bindings : Bool} {ws rest : List Word} {s : Segment} {last : Span} → IsSegment bindings ws s last rest → IsSegments bindings ws (s ∷ []) last rest
    more_segments : {bindings : Bool} {ws mid rest : List Word} {s : Segment} {ss : List Segment} {before at last : Span} → IsSegment bindings ws s before (sign Colons at ∷ mid) → IsSegments bindings mid ss last rest
        → IsSegments bindings ws (s ∷ ss) last rest

  -- segment = word ("::"? "<" list of argument ">")?
  pub data IsSegment : Bool → List Word → Segment → Span → List Word → Type 0 where
    without_arguments : {bindings : Bool} {w : Word} {x : Ident} {rest : List Word} → as_path_word w ≡ Some x → IsSegment bindings (w ∷ rest) (plain x) x.span rest
    with_arguments : {bindings : Bool} {w : Word} {x : Ident} {open_at close_at : Span} {ws rest : List Word} {xs : List Argument} → as_path_word w ≡ Some x → IsArguments bindings ws xs (sign Greater close_at ∷ rest)
        → IsSegment bindings (w ∷ sign Less open_at ∷ ws) (applied x (arguments_of xs)) close_at rest
    with_colons : {bindings : Bool} {w : Word} {x : Ident} {colons_at open_at close_at : Span} {ws rest : List Word} {xs : List Argument} → as_path_word w ≡ Some x
        → IsArguments bindings ws xs (sign Greater close_at ∷ rest) → IsSegment bindings (w ∷ sign Colons colons_at ∷ sign Less open_at ∷ ws) (applied x (arguments_of xs)) close_at rest

  -- argument = lifetime | constant | type, and in bounds name "=" type
  pub data IsArgument : Bool → List Word → Argument → List Word → Type 0 where
    of_lifetime : {bindings : Bool} {x : Ident} {rest : List Word} → IsArgument bindings (lifetime x ∷ rest) (lifetime_argument x) rest
    of_constant : {bindings : Bool} {ws rest : List Word} {ts : Trees} → IsConstant ws ts rest → IsArgument bindings ws (constant_argument ts) rest
    of_type : {bindings : Bool} {ws us rest : List Word} {t : Written} → MayBeBinding bindings ws us → IsTypeOf Any us t rest → IsArgument bindings ws (type_argument t) rest

  -- list of argument, and list of type: separated by commas, a last comma allowed, perhaps empty
  pub data IsArguments : Bool → List Word → List Argument → List Word → Type 0 where
    no_argument : {bindings : Bool} {rest : List Word} → IsArguments bindings rest [] rest
    last_argument : {bindings : Bool} {ws rest : List Word} {x : Argument} → IsArgument bindings ws x rest → IsArguments bindings ws (x ∷ []) rest
    another_argument : {bindings : Bool} {ws mid rest : List Word} {at : Span} {x : Argument} {xs : List Argument} → IsArgument bindings ws x (sign Comma at ∷ mid) → IsArguments bindings mid xs rest
        → IsArguments bindings ws (x ∷ xs) rest

  pub data IsTypes : List Word → List Written → List Word → Type 0 where
    no_type : {rest : List Word} → IsTypes rest [] rest
    last_type : {ws rest : List Word} {t : Written} → IsTypeOf Any ws t rest → IsTypes ws (t ∷ []) rest
    another_type : {ws mid rest : List Word} {at : Span} {t : Written} {us : List Written} → IsTypeOf Any ws t (sign Comma at ∷ mid) → IsTypes mid us rest → IsTypes ws (t ∷ us) rest

-- a type
abbrev pub IsType : List Word → Written → List Word → Type 0
IsType = IsTypeOf Any

-- bounds = (bound ("+" bound)*)?
pub data IsBounds : List Word → List Word → Type 0 where
  no_bounds : {rest : List Word} → IsBounds rest rest
  some_bounds : {ws mid rest : List Word} {first last : Span} → IsBound ws first mid → MoreBounds Any first mid last rest → IsBounds ws rest

-- a list of items and what follows it: separated by commas, a last comma allowed, perhaps empty
pub data IsListOf {A : Type 0} (IsItem : List Word → A → List Word → Type 0) : List Word → List A → List Word → Type 0 where
  no_items : {rest : List Word} → IsListOf IsItem rest [] rest
  last_item : {ws rest : List Word} {x : A} → IsItem ws x rest → IsListOf IsItem ws (x ∷ []) rest
  more_items : {ws mid rest : List Word} {at : Span} {x : A} {xs : List A} → IsItem ws x (sign Comma at ∷ mid) → IsListOf IsItem mid xs rest → IsListOf IsItem ws (x ∷ xs) rest
