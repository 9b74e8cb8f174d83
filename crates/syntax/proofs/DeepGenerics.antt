-- Readers of generic parameters and where clauses stop for depth where the first of their types nests too deep, and nowhere else.
use Rattle.std.proofs.Common.{◌≡◌, ◌∙◌, inl, inr, List, [], ◌∷◌, refl, ap, sym, subst, false, Option, Result, Ok, Err}
use Rattle.texts.specs.declared.span.Span.{Span}
use Rattle.written_types.specs.declared.written.Ident.{Ident}
use Rattle.written_types.specs.Written.{Written}
use Rattle.words.specs.declared.vocabulary.Keyword.TheVariants.{Const, Where}
use Rattle.words.specs.declared.vocabulary.Sign.TheVariants.{Less, Greater, Colon, Plus, Comma}
use Rattle.words.specs.Words.{Word, name, keyword, sign, lifetime}
use Rattle.words.specs.Reading.{Fault, deep, Read, ◌>>=◌, first_as, as_name, as_sign, keyword_at, sign_at, lifetime_at}
use Rattle.words.proofs.Laws.{bind_ok, bind_err, ok_is, first_shallow, Finds, name-is, keyword-is, sign-is}
use Rattle.type_grammar.specs.Grammar.{IsType}
use Rattle.type_grammar.specs.Opening.{OpensList, most_levels}
use Rattle.type_grammar.specs.Reading.{type_at, type_in, after_bounds, ends_list, ends_clause, list_until}
use Rattle.type_grammar.proofs.Laws.{lifetime_at-is, Agrees, read_passes, passed_reads, list_agrees}
use Rattle.type_grammar.proofs.Laws as types
use Rattle.attributes.specs.Attributes.{AttributeItem}
use Rattle.attributes.specs.AttributeGrammar.{IsAttributes}
use Rattle.attributes.specs.AttributeReading.{attributes_at}
use Rattle.attributes.proofs.Laws.{attributes_sound, attributes_shallow}
use Rattle.syntax.specs.Items.{ParameterItem, type_parameter, const_parameter}
use Rattle.syntax.specs.Generics.{IsParameter, IsPredicate}
use Rattle.syntax.specs.GenericReading.{after_lifetimes, lifetimes_or_none, outlived_or_not, after_outlived, bounded_or_not, after_bounded, const_or_type, lifetime_or_other, bare_parameter_at, parameter_at, generics_or_none, generics_at, after_bounded_type, predicate_at, predicates_or_none, after_where}
use Rattle.syntax.specs.GenericReading as reading
use Rattle.syntax.specs.ItemDepth.{most_in_bounds, within_levels, OpensBounds, OpensParameter, in_type_bounds, in_const_type, OpensGenerics, in_parameters, OpensPredicate, in_lifetime_bounds, in_bounded_type, in_predicate_bounds, OpensWhere, in_predicates}
use Rattle.syntax.proofs.Types.{type_sound, type_complete, type_begins, type_agrees, opens_begins, bounds_sound, bounds_agree}
use Rattle.syntax.proofs.SoundGenerics.{AreSound, parameter_sound, parameter_shortens, predicate_sound, predicate_shortens}
use Rattle.syntax.proofs.CompleteGenerics.{AreComplete, type_head, const_head, bounded_head, behind_bounded, predicate_head, parameter_complete, predicate_complete, parameter_begins, predicate_begins, attributes_begin, type_no_clause_end}

-- ---- the readers within 64 levels
-- a reader stops for depth at any span
abbrev pub anywhere : Span → Type 0
anywhere at = Unit {0}

pub reaches : {A : Type 0} {r : Result A Fault} {x : A} → Finds anywhere r x → types.Reaches r x
reaches (inl e) = inl e
reaches (inr d) = inr (d.0, d.1)

finds : {A : Type 0} {r : Result A Fault} {x : A} → types.Reaches r x → Finds anywhere r x
finds (inl e) = inl e
finds (inr d) = inr (d.0, d.1, tt)

pub sound : AreSound within_levels
sound = record {
  types = type_sound most_levels;
  bounds = bounds_sound most_in_bounds;
}

pub found : AreComplete anywhere within_levels
found = record {
  types = λ ws rest t r stops. finds (type_complete r stops most_levels);
  bounds = λ ws rest b stops. finds (types.bounds_complete b stops most_in_bounds);
}

-- ---- what is read before is never deep
-- what reads on after a word that is never deep
pub past : {A B : Type 0} (kind : Word → Option A) (ws : List Word) (f : A × List Word → Result B Fault) (at : Span) → (first_as kind ws >>= f) ≡ Err (deep at) → (p : A × List Word) × (first_as kind ws ≡ Ok p) × (f p ≡ Err (deep at))
past kind ws f at e = elim (bind_err (first_as kind ws) e) [
  | inl h ↦ absurd (first_shallow kind ws at h)
  | inr h ↦ h
]

pub past_attributes : {B : Type 0} (ws : List Word) (f : List AttributeItem × List Word → Result B Fault) (at : Span) → (attributes_at ws >>= f) ≡ Err (deep at) → (p : List AttributeItem × List Word) × (attributes_at ws ≡ Ok p) × (f p ≡ Err (deep at))
past_attributes ws f at e = elim (bind_err (attributes_at ws) e) [
  | inl h ↦ absurd (attributes_shallow ws at h)
  | inr h ↦ h
]

-- nothing that only hands on its result is deep
pub handed_on : {A B : Type 0} (r : Result A Fault) (f : A → B) (at : Span) → (r >>= λ x. Ok (f x)) ≡ Err (deep at) → r ≡ Err (deep at)
handed_on (Ok x) f at e = cc
handed_on (Err y) f at e = cc

lifetimes_shallow : (ws : List Word) (at : Span) → after_lifetimes ws ≡ Err (deep at) → ⊥
lifetimes_shallow [] at e = cc
lifetimes_shallow (lifetime x ∷ sign Plus s ∷ ws) at e = lifetimes_shallow ws at e
lifetimes_shallow (lifetime x ∷ []) at e = cc
lifetimes_shallow (lifetime x ∷ w ∷ ws) at e = cc
lifetimes_shallow (_ ∷ ws) at e = cc

behind_shallow : (ws : List Word) (q : Read Ident) (at : Span) → lifetimes_or_none ws q ≡ Err (deep at) → ⊥
behind_shallow ws (Ok x) at e = lifetimes_shallow ws at e
behind_shallow ws (Err f) at e = cc

outlived_from_shallow : (ws : List Word) (q : Read Span) (at : Span) → outlived_or_not ws q ≡ Err (deep at) → ⊥
outlived_from_shallow ws (Ok c) at e = behind_shallow c.1 (lifetime_at c.1) at e
outlived_from_shallow ws (Err f) at e = cc

outlived_shallow : (ws : List Word) (at : Span) → after_outlived ws ≡ Err (deep at) → ⊥
unfolding after_outlived
outlived_shallow ws at e = outlived_from_shallow ws (sign_at Colon ws) at e

-- ---- parameters
bounded_from_deep : (ws : List Word) (q : Read Span) (at : Span) → sign_at Colon ws ≡ q → bounded_or_not within_levels ws q ≡ Err (deep at) → (s : Span) × (us : List Word) × (ws ≡ sign Colon s ∷ us) × OpensBounds us at
bounded_from_deep ws (Err f) at is e = cc
bounded_from_deep ws (Ok c) at is e = (c.0, c.1, sign-is Colon ws c is, (bounds_agree most_in_bounds c.1 at).0 e)

bounded_deep : (ws : List Word) (at : Span) → after_bounded within_levels ws ≡ Err (deep at) → (s : Span) × (us : List Word) × (ws ≡ sign Colon s ∷ us) × OpensBounds us at
unfolding after_bounded
bounded_deep ws at e = bounded_from_deep ws (sign_at Colon ws) at refl e

module _ (ws us : List Word) (attrs : List AttributeItem) (ds : IsAttributes ws attrs us) (at : Span) where
  type_deep : reading.type_at within_levels us ≡ Err (deep at) → OpensParameter ws at
  type_deep e =
      let x = past as_name us _ at e in
      let b = bounded_deep x.0.1 at (handed_on (after_bounded within_levels x.0.1) _ at x.2) in
      in_type_bounds (subst (λ v. IsAttributes ws attrs v) (name-is us x.0 x.1 ∙ ap (λ v. name x.0.0 ∷ v) b.2) ds) b.3

  const_deep : (k : Ident) (vs : List Word) → us ≡ keyword Const k ∷ vs → reading.const_at within_levels vs ≡ Err (deep at) → OpensParameter ws at
  const_deep k vs is e =
      let x = past as_name vs _ at e in
      let c = past (as_sign Colon) x.0.1 _ at x.2 in
      let whole : us ≡ keyword Const k ∷ name x.0.0 ∷ sign Colon c.0.0 ∷ c.0.1 =
      is ∙ ap (λ v. keyword Const k ∷ v) (name-is vs x.0 x.1 ∙ ap (λ v. name x.0.0 ∷ v) (sign-is Colon x.0.1 c.0 c.1)) in
      in_const_type (subst (λ v. IsAttributes ws attrs v) whole ds) ((type_agrees most_levels c.0.1 at).0 (handed_on (type_at most_levels c.0.1) _ at c.2))

  const_or_type_deep : (q : Read Span) → keyword_at Const us ≡ q → const_or_type within_levels us q ≡ Err (deep at) → OpensParameter ws at
  const_or_type_deep (Ok k) is e = let word = keyword-is Const us k is in const_deep word.0 k.1 word.1 e
  const_or_type_deep (Err f) is e = type_deep e

  lifetime_or_other_deep : (q : Read Ident) → lifetime_at us ≡ q → lifetime_or_other within_levels us q ≡ Err (deep at) → OpensParameter ws at
  lifetime_or_other_deep (Ok x) is e = absurd (outlived_shallow x.1 at (handed_on (after_outlived x.1) _ at e))
  lifetime_or_other_deep (Err f) is e = const_or_type_deep (keyword_at Const us) refl e

  bare_deep : bare_parameter_at within_levels us ≡ Err (deep at) → OpensParameter ws at
  unfolding bare_parameter_at
  bare_deep e = lifetime_or_other_deep (lifetime_at us) refl e

parameter_deep : (ws : List Word) (at : Span) → parameter_at within_levels ws ≡ Err (deep at) → OpensParameter ws at
unfolding parameter_at
parameter_deep ws at e = let d = past_attributes ws _ at e in bare_deep ws d.0.1 d.0.0 (attributes_sound ws d.0.0 d.0.1 d.1) at d.2

parameter_opens : {ws : List Word} {at : Span} → OpensParameter ws at → parameter_at within_levels ws ≡ Err (deep at)
parameter_opens (in_type_bounds {x = x} {s = s} {at = at} {us = us} d o) =
    let done : List Word → Read ParameterItem = λ rest. Ok (type_parameter x, rest) in
    type_head within_levels d ∙ ap (λ q. q >>= done) (bounded_head within_levels s us ∙ (bounds_agree most_in_bounds us at).1 o)
parameter_opens (in_const_type {x = x} {at = at} {us = us} d o) =
    let done : Written × List Word → Read ParameterItem = λ t. Ok (const_parameter x, t.1) in
    const_head within_levels d ∙ ap (λ q. q >>= done) ((type_agrees most_levels us at).1 o)

parameter_agrees : Agrees (parameter_at within_levels) OpensParameter
parameter_agrees ws at = (λ e. parameter_deep ws at e, λ o. parameter_opens o)

opens_parameter_begins : (ws : List Word) (at : Span) → OpensParameter ws at → ends_list ws ≡ false
opens_parameter_begins ws at (in_type_bounds d o) = attributes_begin d refl
opens_parameter_begins ws at (in_const_type d o) = attributes_begin d refl

parameters_agree : Agrees (list_until ends_list (parameter_at within_levels)) (OpensList IsParameter OpensParameter)
parameters_agree =
    list_agrees ends_list IsParameter OpensParameter (parameter_at within_levels) parameter_agrees (parameter_shortens within_levels sound) (parameter_sound within_levels sound)
    (λ ws mid p s r. reaches (parameter_complete within_levels sound anywhere found ws (sign Comma s ∷ mid) p r refl)) (λ ws rest p r. parameter_begins r) opens_parameter_begins

generics_from_deep : (ws : List Word) (q : Read Span) (at : Span) → sign_at Less ws ≡ q → generics_or_none within_levels ws q ≡ Err (deep at) → OpensGenerics ws at
generics_from_deep ws (Err f) at is e = cc
generics_from_deep ws (Ok o) at is e =
    elim (bind_err (list_until ends_list (parameter_at within_levels) o.1) e) [
      | inl k ↦ subst (λ v. OpensGenerics v at) (sym (sign-is Less ws o is)) (in_parameters ((parameters_agree o.1 at).0 k))
      | inr k ↦ absurd (first_shallow (as_sign Greater) k.0.1 at (handed_on (sign_at Greater k.0.1) _ at k.2))
    ]

generics_deep : (ws : List Word) (at : Span) → generics_at within_levels ws ≡ Err (deep at) → OpensGenerics ws at
unfolding generics_at
generics_deep ws at e = generics_from_deep ws (sign_at Less ws) at refl e

generics_open : {ws : List Word} {at : Span} → OpensGenerics ws at → generics_at within_levels ws ≡ Err (deep at)
unfolding generics_at
generics_open (in_parameters {at = at} {ws = ws} o) =
    let close : List ParameterItem × List Word → Read (List ParameterItem) = λ ps. sign_at Greater ps.1 >>= λ close. Ok (ps.0, close.1) in
    ap (λ q. q >>= close) ((parameters_agree ws at).1 o)

pub generics_agree : Agrees (generics_at within_levels) OpensGenerics
generics_agree ws at = (λ e. generics_deep ws at e, λ o. generics_open o)

-- ---- where clauses
predicate_from_deep : (ws us : List Word) (q : Read Ident) (at : Span) → lifetime_at ws ≡ q → after_bounded_type within_levels ws q ≡ Ok us → (s : Span) (vs : List Word) → us ≡ sign Colon s ∷ vs → OpensBounds vs at → OpensPredicate ws at
predicate_from_deep ws us (Ok x) at is e s vs colon o =
    subst (λ v. OpensPredicate v at) (sym (lifetime_at-is ws x.1 x.0 is ∙ ap (λ v. lifetime x.0 ∷ v) (ok_is e ∙ colon))) (in_lifetime_bounds o)
predicate_from_deep ws us (Err f) at is e s vs colon o =
    let t = bind_ok (type_at most_levels ws) e in
    in_predicate_bounds (subst (λ v. IsType ws t.0.0 v) (ok_is t.2 ∙ colon) (type_sound most_levels ws t.0.0 t.0.1 t.1)) (read_passes (type_agrees most_levels) ws t.0 t.1) o

bounded_type_deep : (ws : List Word) (q : Read Ident) (at : Span) → after_bounded_type within_levels ws q ≡ Err (deep at) → OpensPredicate ws at
bounded_type_deep ws (Ok x) at e = cc
bounded_type_deep ws (Err f) at e = in_bounded_type ((type_agrees most_levels ws at).0 (handed_on (type_at most_levels ws) _ at e))

predicate_deep : (ws : List Word) (at : Span) → predicate_at within_levels ws ≡ Err (deep at) → OpensPredicate ws at
unfolding predicate_at
predicate_deep ws at e =
    elim (bind_err (after_bounded_type within_levels ws (lifetime_at ws)) e) [
      | inl k ↦ bounded_type_deep ws (lifetime_at ws) at k
      | inr k ↦ let c = past (as_sign Colon) k.0 _ at k.2 in
          predicate_from_deep ws k.0 (lifetime_at ws) at refl k.1 c.0.0 c.0.1 (sign-is Colon k.0 c.0 c.1) ((bounds_agree most_in_bounds c.0.1 at).0 (handed_on (after_bounds (type_in most_in_bounds) c.0.1) _ at c.2))
    ]

abbrev unkept : List Word → Read (Unit {0})
unkept rest = Ok (tt, rest)

abbrev behind_type : Read Written → Read (Unit {0})
behind_type q = behind_bounded within_levels (q >>= λ t. Ok t.1)

predicate_opens : {ws : List Word} {at : Span} → OpensPredicate ws at → predicate_at within_levels ws ≡ Err (deep at)
unfolding predicate_at
predicate_opens (in_lifetime_bounds {at = at} {ws = ws} o) = ap (λ q. q >>= unkept) ((bounds_agree most_in_bounds ws at).1 o)
predicate_opens (in_bounded_type {at = at} {ws = ws} o) = predicate_head within_levels (opens_begins ws at o) ∙ ap behind_type ((type_agrees most_levels ws at).1 o)
predicate_opens (in_predicate_bounds {s = s} {at = at} {t = t} {ws = ws} {us = us} r passes o) =
    let read = passed_reads (type_agrees most_levels) ws (t, sign Colon s ∷ us) (type_complete r refl most_levels) passes in
    predicate_head within_levels (type_begins r) ∙ ap behind_type read ∙ ap (λ q. q >>= unkept) ((bounds_agree most_in_bounds us at).1 o)

predicate_agrees : Agrees (predicate_at within_levels) OpensPredicate
predicate_agrees ws at = (λ e. predicate_deep ws at e, λ o. predicate_opens o)

opens_predicate_begins : (ws : List Word) (at : Span) → OpensPredicate ws at → ends_clause ws ≡ false
opens_predicate_begins ws at (in_lifetime_bounds o) = refl
opens_predicate_begins ws at (in_bounded_type o) = type_no_clause_end (opens_begins ws at o)
opens_predicate_begins ws at (in_predicate_bounds r passes o) = type_no_clause_end (type_begins r)

predicates_agree : Agrees (list_until ends_clause (predicate_at within_levels)) (OpensList IsPredicate OpensPredicate)
predicates_agree =
    list_agrees ends_clause IsPredicate OpensPredicate (predicate_at within_levels) predicate_agrees (predicate_shortens within_levels sound) (predicate_sound within_levels sound)
    (λ ws mid u s r. reaches (predicate_complete within_levels sound anywhere found ws (sign Comma s ∷ mid) u r refl)) (λ ws rest u r. predicate_begins r) opens_predicate_begins

where_from_deep : (ws : List Word) (q : Read Span) (at : Span) → keyword_at Where ws ≡ q → predicates_or_none within_levels ws q ≡ Err (deep at) → OpensWhere ws at
where_from_deep ws (Err f) at is e = cc
where_from_deep ws (Ok w) at is e =
    let word = keyword-is Where ws w is in
    subst (λ v. OpensWhere v at) (sym word.1) (in_predicates ((predicates_agree w.1 at).0 (handed_on (list_until ends_clause (predicate_at within_levels) w.1) _ at e)))

where_deep : (ws : List Word) (at : Span) → after_where within_levels ws ≡ Err (deep at) → OpensWhere ws at
unfolding after_where
where_deep ws at e = where_from_deep ws (keyword_at Where ws) at refl e

where_opens : {ws : List Word} {at : Span} → OpensWhere ws at → after_where within_levels ws ≡ Err (deep at)
unfolding after_where
where_opens (in_predicates {at = at} {ws = ws} o) =
    let done : List (Unit {0}) × List Word → Result (List Word) Fault = λ ps. Ok ps.1 in
    ap (λ q. q >>= done) ((predicates_agree ws at).1 o)

pub where_agrees : Agrees (after_where within_levels) OpensWhere
where_agrees ws at = (λ e. where_deep ws at e, λ o. where_opens o)
