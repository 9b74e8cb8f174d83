-- Generic parameters and where clauses of the grammar are read, unless something in them nests too deep.
use Rattle.std.proofs.Common.{◌≡◌, ◌∙◌, inl, List, [], ◌∷◌, refl, ap, Bool, true, false, Some, None, Result, Ok, Err}
use Rattle.texts.specs.declared.span.Span.{Span}
use Rattle.tokens.specs.declared.token.Bracket.TheVariants.{Round, Square, Curly}
use Rattle.written_types.specs.declared.written.Ident.{Ident}
use Rattle.written_types.specs.Written.{Written}
use Rattle.words.specs.declared.vocabulary.Keyword.TheVariants.{Const, Where}
use Rattle.words.specs.declared.vocabulary.Sign.TheVariants.{Less, Greater, Comma, Colon, Semicolon}
use Rattle.words.specs.Words.{Word, name, keyword, sign, lifetime, group}
use Rattle.words.specs.Reading.{Fault, wrong, Read, ◌>>=◌, taken, keyword_at, sign_at, lifetime_at}
use Rattle.words.proofs.Laws.{Shortens, Finds, like_finds, then_finds}
use Rattle.type_grammar.specs.Starts.{Stops, begins_type}
use Rattle.type_grammar.specs.Grammar.{IsType, IsBounds, IsListOf, no_items, last_item, more_items}
use Rattle.type_grammar.specs.Reading.{after_sign, ends_list, ends_clause, list_after, list_until}
use Rattle.type_grammar.proofs.Laws.{list_ends, BoundsStop, closes, closes_stops, ends_closes, ends_no_comma, list_goes_on, begins_no_kind}
use Rattle.attributes.specs.Attributes.{AttributeItem}
use Rattle.attributes.specs.AttributeWords.{as_outer_doc}
use Rattle.attributes.specs.AttributeGrammar.{IsAttributes, no_attributes, more_attributes, IsAttribute, outer_doc, in_brackets}
use Rattle.attributes.proofs.Laws.{attributes_complete}
use Rattle.syntax.specs.Items.{ParameterItem, lifetime_parameter, type_parameter, const_parameter}
use Rattle.syntax.specs.Generics.{AreLifetimes, the_last_lifetime, one_more_lifetime, MayBeOutlived, not_outlived, outlived_by_none, outlived, MayBeBounded, not_bounded, bounded, IsParameter, of_lifetime, of_type, of_const, IsGenerics, no_generics, in_angles, IsPredicate, on_lifetime, on_type, IsWhere, no_where, where_clause}
use Rattle.syntax.specs.GenericReading.{Readers, after_lifetimes, lifetimes_or_none, outlived_or_not, after_outlived, bounded_or_not, after_bounded, bare_parameter_at, parameter_at, generics_or_none, generics_at, after_bounded_type, predicate_at, predicates_or_none, after_where}
use Rattle.syntax.proofs.Types.{Begins, type_begins}
use Rattle.syntax.proofs.SoundGenerics.{AreSound, parameter_shortens, predicate_shortens}

-- what is of the grammar is read by the readers, unless something nests too deep
pub record AreComplete (IsDeepAt : Span → Type 0) (r : Readers) : Type 0 where
  pub types : (ws rest : List Word) (t : Written) → IsType ws t rest → Stops rest → Finds IsDeepAt (r.ty ws) (t, rest)
  pub bounds : (ws rest : List Word) → IsBounds ws rest → BoundsStop rest → Finds IsDeepAt (r.after_bounds ws) rest

-- ---- lists that end before a token
module _ {A : Type 0} (IsDeepAt : Span → Type 0) (ends ends_item : List Word → Bool) (IsItem : List Word → A → List Word → Type 0) (item : List Word → Read A) (shortens : Shortens item) (end_ends : (ws : List Word) → ends ws ≡ true → ends_item ws ≡ true)
    (end_no_comma : (ws : List Word) → ends ws ≡ true → after_sign Comma ws ≡ None) (comma_ends : (s : Span) (ws : List Word) → ends_item (sign Comma s ∷ ws) ≡ true) (begins : (ws rest : List Word) (x : A) → IsItem ws x rest → ends ws ≡ false)
    (complete : (ws rest : List Word) (x : A) → IsItem ws x rest → ends_item rest ≡ true → Finds IsDeepAt (item ws) (x, rest)) where
  abbrev after_item : A × List Word → Read (List A)
  after_item p = list_after (list_until ends item) p.0 p.1 (after_sign Comma p.1)

  listed_complete : {ws rest : List Word} {xs : List A} → IsListOf IsItem ws xs rest → ends rest ≡ true → Finds IsDeepAt (list_until ends item ws) (xs, rest)
  listed_complete (no_items {rest = rest}) e = inl (list_ends ends item rest e)
  listed_complete (last_item {ws = ws} {rest = rest} {x = x} r) e =
      like_finds IsDeepAt (list_goes_on ends item shortens ws (begins ws rest x r))
      (then_finds IsDeepAt (item ws) after_item (x, rest) (x ∷ [], rest) (complete ws rest x r (end_ends rest e)) (inl (ap (list_after (list_until ends item) x rest) (end_no_comma rest e))))
  listed_complete (more_items {ws = ws} {mid = mid} {rest = rest} {at = at} {x = x} {xs = xs} r others) e =
      let front : List A × List Word → Read (List A) = λ p. Ok (x ∷ p.0, p.1) in
      like_finds IsDeepAt (list_goes_on ends item shortens ws (begins ws (sign Comma at ∷ mid) x r))
      (then_finds IsDeepAt (item ws) after_item (x, sign Comma at ∷ mid) (x ∷ xs, rest) (complete ws (sign Comma at ∷ mid) x r (comma_ends at mid))
      (then_finds IsDeepAt (list_until ends item mid) front (xs, rest) (x ∷ xs, rest) (listed_complete others e) (inl refl)))

-- ---- what ends a parameter
closes_bounds : (ws : List Word) → closes ws ≡ true → BoundsStop ws
closes_bounds [] e = (refl, refl)
closes_bounds (sign Comma s ∷ ws) e = (refl, refl)
closes_bounds (sign Greater s ∷ ws) e = (refl, refl)
closes_bounds (sign _ s ∷ ws) e = cc
closes_bounds (_ ∷ ws) e = cc

closes_no_colon : (ws : List Word) → closes ws ≡ true → sign_at Colon ws ≡ Err wrong
closes_no_colon [] e = refl
closes_no_colon (sign Comma s ∷ ws) e = refl
closes_no_colon (sign Greater s ∷ ws) e = refl
closes_no_colon (sign _ s ∷ ws) e = cc
closes_no_colon (_ ∷ ws) e = cc

closes_no_lifetime : (ws : List Word) → closes ws ≡ true → lifetime_at ws ≡ Err wrong
closes_no_lifetime [] e = refl
closes_no_lifetime (sign Comma s ∷ ws) e = refl
closes_no_lifetime (sign Greater s ∷ ws) e = refl
closes_no_lifetime (sign _ s ∷ ws) e = cc
closes_no_lifetime (_ ∷ ws) e = cc

closes_lifetimes : (x : Ident) (ws : List Word) → closes ws ≡ true → after_lifetimes (lifetime x ∷ ws) ≡ Ok ws
closes_lifetimes x [] e = refl
closes_lifetimes x (sign Comma s ∷ ws) e = refl
closes_lifetimes x (sign Greater s ∷ ws) e = refl
closes_lifetimes x (sign _ s ∷ ws) e = cc
closes_lifetimes x (_ ∷ ws) e = cc

-- ---- lifetimes behind a lifetime
lifetimes_complete : {ws rest : List Word} → AreLifetimes ws rest → closes rest ≡ true → after_lifetimes ws ≡ Ok rest
lifetimes_complete (the_last_lifetime {x = x} {rest = rest}) e = closes_lifetimes x rest e
lifetimes_complete (one_more_lifetime r) e = lifetimes_complete r e

lifetimes_begin : {ws rest : List Word} → AreLifetimes ws rest → lifetimes_or_none ws (lifetime_at ws) ≡ after_lifetimes ws
lifetimes_begin the_last_lifetime = refl
lifetimes_begin (one_more_lifetime r) = refl

outlived_complete : {ws rest : List Word} → MayBeOutlived ws rest → closes rest ≡ true → after_outlived ws ≡ Ok rest
unfolding after_outlived
outlived_complete (not_outlived {rest = rest}) e = ap (outlived_or_not rest) (closes_no_colon rest e)
outlived_complete (outlived_by_none {rest = rest}) e = ap (lifetimes_or_none rest) (closes_no_lifetime rest e)
outlived_complete (outlived r) e = lifetimes_begin r ∙ lifetimes_complete r e

-- ---- how parameters and predicates begin
no_end_sign : (w : Word) (ws : List Word) (a : AttributeItem) → as_outer_doc w ≡ Some a → ends_list (w ∷ ws) ≡ false
no_end_sign (sign k s) ws a e = cc
no_end_sign _ ws a e = refl

attribute_begins : {ws rest : List Word} {xs : List AttributeItem} → IsAttribute ws xs rest → ends_list ws ≡ false
attribute_begins (outer_doc {w = w} {a = a} {rest = rest} e) = no_end_sign w rest a e
attribute_begins (in_brackets p m f) = refl

pub attributes_begin : {ws rest : List Word} {xs : List AttributeItem} → IsAttributes ws xs rest → ends_list rest ≡ false → ends_list ws ≡ false
attributes_begin no_attributes e = e
attributes_begin (more_attributes a r) e = attribute_begins a

pub parameter_begins : {ws rest : List Word} {p : ParameterItem} → IsParameter ws p rest → ends_list ws ≡ false
parameter_begins (of_lifetime d b) = attributes_begin d refl
parameter_begins (of_type d b) = attributes_begin d refl
parameter_begins (of_const d t) = attributes_begin d refl

no_clause_end : (w : Word) (ws : List Word) → begins_type w ≡ true → ends_clause (w ∷ ws) ≡ false
no_clause_end (sign Semicolon s) ws e = cc
no_clause_end (sign _ s) ws e = refl
no_clause_end (group Curly ts s) ws e = cc
no_clause_end (group Round ts s) ws e = refl
no_clause_end (group Square ts s) ws e = refl
no_clause_end _ ws e = refl

pub type_no_clause_end : {ws : List Word} → Begins ws → ends_clause ws ≡ false
type_no_clause_end b = ap ends_clause b.2 ∙ no_clause_end b.0 b.1 b.3

pub predicate_begins : {ws rest : List Word} {u : Unit {0}} → IsPredicate ws u rest → ends_clause ws ≡ false
predicate_begins (on_lifetime b) = refl
predicate_begins (on_type t b) = type_no_clause_end (type_begins t)

-- ---- what ends a predicate
abbrev pub ends_predicate : List Word → Bool
ends_predicate [] = true
ends_predicate (sign Comma s ∷ ws) = true
ends_predicate (sign Semicolon s ∷ ws) = true
ends_predicate (group Curly ts s ∷ ws) = true
ends_predicate _ = false

ends_bounds : (ws : List Word) → ends_predicate ws ≡ true → BoundsStop ws
ends_bounds [] e = (refl, refl)
ends_bounds (sign Comma s ∷ ws) e = (refl, refl)
ends_bounds (sign Semicolon s ∷ ws) e = (refl, refl)
ends_bounds (sign _ s ∷ ws) e = cc
ends_bounds (group Curly ts s ∷ ws) e = (refl, refl)
ends_bounds (group Round ts s ∷ ws) e = cc
ends_bounds (group Square ts s ∷ ws) e = cc
ends_bounds (_ ∷ ws) e = cc

clause_ends_predicate : (ws : List Word) → ends_clause ws ≡ true → ends_predicate ws ≡ true
clause_ends_predicate [] e = refl
clause_ends_predicate (sign Semicolon s ∷ ws) e = refl
clause_ends_predicate (sign _ s ∷ ws) e = cc
clause_ends_predicate (group Curly ts s ∷ ws) e = refl
clause_ends_predicate (group Round ts s ∷ ws) e = cc
clause_ends_predicate (group Square ts s ∷ ws) e = cc
clause_ends_predicate (_ ∷ ws) e = cc

clause_no_comma : (ws : List Word) → ends_clause ws ≡ true → after_sign Comma ws ≡ None
clause_no_comma [] e = refl
clause_no_comma (sign Semicolon s ∷ ws) e = refl
clause_no_comma (sign _ s ∷ ws) e = cc
clause_no_comma (group b ts s ∷ ws) e = refl
clause_no_comma (_ ∷ ws) e = cc

clause_no_where : (ws : List Word) → ends_clause ws ≡ true → keyword_at Where ws ≡ Err wrong
clause_no_where [] e = refl
clause_no_where (sign k s ∷ ws) e = refl
clause_no_where (group b ts s ∷ ws) e = refl
clause_no_where (_ ∷ ws) e = cc

-- ---- heads of readers
pub lifetime_head : (r : Readers) {ws us : List Word} {attrs : List AttributeItem} {x : Ident} → IsAttributes ws attrs (lifetime x ∷ us) → parameter_at r ws ≡ (after_outlived us >>= λ rest. Ok (lifetime_parameter x, rest))
unfolding parameter_at bare_parameter_at
lifetime_head r d = ap (λ (q : Read (List AttributeItem)). q >>= λ p. bare_parameter_at r p.1) (attributes_complete d refl)

pub type_head : (r : Readers) {ws us : List Word} {attrs : List AttributeItem} {x : Ident} → IsAttributes ws attrs (name x ∷ us) → parameter_at r ws ≡ (after_bounded r us >>= λ rest. Ok (type_parameter x, rest))
unfolding parameter_at bare_parameter_at
type_head r d = ap (λ (q : Read (List AttributeItem)). q >>= λ p. bare_parameter_at r p.1) (attributes_complete d refl)

pub const_head : (r : Readers) {ws us : List Word} {attrs : List AttributeItem} {k x : Ident} {s : Span} → IsAttributes ws attrs (keyword Const k ∷ name x ∷ sign Colon s ∷ us)
    → parameter_at r ws ≡ (r.ty us >>= λ t. Ok (const_parameter x, t.1))
unfolding parameter_at bare_parameter_at
const_head r d = ap (λ (q : Read (List AttributeItem)). q >>= λ p. bare_parameter_at r p.1) (attributes_complete d refl)

pub bounded_head : (r : Readers) (s : Span) (ws : List Word) → after_bounded r (sign Colon s ∷ ws) ≡ r.after_bounds ws
unfolding after_bounded
bounded_head r s ws = refl

-- the predicate of a type begins with no lifetime
abbrev pub behind_bounded : Readers → Result (List Word) Fault → Read (Unit {0})
behind_bounded r q = q >>= λ us. sign_at Colon us >>= λ c. r.after_bounds c.1 >>= λ rest. Ok (tt, rest)

pub predicate_head : (r : Readers) {ws : List Word} → Begins ws → predicate_at r ws ≡ behind_bounded r (r.ty ws >>= λ t. Ok t.1)
unfolding predicate_at
predicate_head r {ws} b =
    let none : lifetime_at ws ≡ Err wrong = ap lifetime_at b.2 ∙ ap (λ o. taken o b.1) (begins_no_kind b.0 b.3).1 in
    ap (λ q. behind_bounded r (after_bounded_type r ws q)) none

module _ (r : Readers) (sound : AreSound r) (IsDeepAt : Span → Type 0) (found : AreComplete IsDeepAt r) where
  bounded_complete : {ws rest : List Word} → MayBeBounded ws rest → closes rest ≡ true → Finds IsDeepAt (after_bounded r ws) rest
  unfolding after_bounded
  bounded_complete (not_bounded {rest = rest}) e = inl (ap (bounded_or_not r rest) (closes_no_colon rest e))
  bounded_complete (bounded {ws = ws} {rest = rest} b) e = found.bounds ws rest b (closes_bounds rest e)

  pub parameter_complete : (ws rest : List Word) (p : ParameterItem) → IsParameter ws p rest → closes rest ≡ true → Finds IsDeepAt (parameter_at r ws) (p, rest)
  parameter_complete _ rest _ (of_lifetime {x = x} d b) e =
      let done : List Word → Read ParameterItem = λ rest. Ok (lifetime_parameter x, rest) in
      inl (lifetime_head r d ∙ ap (λ q. q >>= done) (outlived_complete b e))
  parameter_complete _ rest _ (of_type {x = x} {us = us} d b) e =
      let done : List Word → Read ParameterItem = λ rest. Ok (type_parameter x, rest) in
      like_finds IsDeepAt (type_head r d) (then_finds IsDeepAt (after_bounded r us) done rest (type_parameter x, rest) (bounded_complete b e) (inl refl))
  parameter_complete _ rest _ (of_const {x = x} {t = t} {us = us} d q) e =
      let done : Written × List Word → Read ParameterItem = λ t. Ok (const_parameter x, t.1) in
      like_finds IsDeepAt (const_head r d) (then_finds IsDeepAt (r.ty us) done (t, rest) (const_parameter x, rest) (found.types us rest t q (closes_stops rest e)) (inl refl))

  parameters_complete : {ws rest : List Word} {ps : List ParameterItem} → IsListOf IsParameter ws ps rest → ends_list rest ≡ true → Finds IsDeepAt (list_until ends_list (parameter_at r) ws) (ps, rest)
  parameters_complete l e =
      listed_complete IsDeepAt ends_list closes IsParameter (parameter_at r) (parameter_shortens r sound) ends_closes ends_no_comma (λ s ws. refl) (λ ws rest p q. parameter_begins q) parameter_complete l e

  pub generics_complete : {ws rest : List Word} {ps : List ParameterItem} → IsGenerics ws ps rest → sign_at Less rest ≡ Err wrong → Finds IsDeepAt (generics_at r ws) (ps, rest)
  unfolding generics_at
  generics_complete (no_generics {rest = rest}) e = inl (ap (generics_or_none r rest) e)
  generics_complete (in_angles {close_at = c} {ws = ws} {rest = rest} {ps = ps} l) e =
      let close : List ParameterItem × List Word → Read (List ParameterItem) = λ ps. sign_at Greater ps.1 >>= λ close. Ok (ps.0, close.1) in
      then_finds IsDeepAt (list_until ends_list (parameter_at r) ws) close (ps, sign Greater c ∷ rest) (ps, rest) (parameters_complete l refl) (inl refl)

  pub predicate_complete : (ws rest : List Word) (u : Unit {0}) → IsPredicate ws u rest → ends_predicate rest ≡ true → Finds IsDeepAt (predicate_at r ws) (u, rest)
  unfolding predicate_at
  predicate_complete _ rest _ (on_lifetime {ws = ws} b) e =
      let done : List Word → Read (Unit {0}) = λ rest. Ok (tt, rest) in
      then_finds IsDeepAt (r.after_bounds ws) done rest (tt, rest) (found.bounds ws rest b (ends_bounds rest e)) (inl refl)
  predicate_complete ws rest _ (on_type {at = at} {t = t} {us = us} q b) e =
      let done : List Word → Read (Unit {0}) = λ rest. Ok (tt, rest) in
      let behind : List Word → Read (Unit {0}) = λ us. sign_at Colon us >>= λ c. r.after_bounds c.1 >>= done in
      let left : Written × List Word → Result (List Word) Fault = λ t. Ok t.1 in
      like_finds IsDeepAt (predicate_head r (type_begins q))
      (then_finds IsDeepAt (r.ty ws >>= left) behind (sign Colon at ∷ us) (tt, rest) (then_finds IsDeepAt (r.ty ws) left (t, sign Colon at ∷ us) (sign Colon at ∷ us) (found.types ws (sign Colon at ∷ us) t q refl) (inl refl))
      (then_finds IsDeepAt (r.after_bounds us) done rest (tt, rest) (found.bounds us rest b (ends_bounds rest e)) (inl refl)))

  pub where_complete : {ws rest : List Word} → IsWhere ws rest → ends_clause rest ≡ true → Finds IsDeepAt (after_where r ws) rest
  unfolding after_where
  where_complete (no_where {rest = rest}) e = inl (ap (predicates_or_none r rest) (clause_no_where rest e))
  where_complete (where_clause {ws = ws} {rest = rest} {ps = ps} l) e =
      let done : List (Unit {0}) × List Word → Result (List Word) Fault = λ ps. Ok ps.1 in
      then_finds IsDeepAt (list_until ends_clause (predicate_at r) ws) done (ps, rest) rest
      (listed_complete IsDeepAt ends_clause ends_predicate IsPredicate (predicate_at r) (predicate_shortens r sound) clause_ends_predicate clause_no_comma (λ s ws. refl) (λ ws rest u q. predicate_begins q) predicate_complete l e) (inl refl)
