-- What readers of generic parameters and of where clauses that went well have read.
use Rattle.std.proofs.Common.{◌≡◌, ◌∙◌, ◌<◌, ◌≤◌, List, [], ◌∷◌, length, refl, ap, sym, subst, arith, Ok, Err}
use Rattle.texts.specs.declared.span.Span.{Span}
use Rattle.written_types.specs.declared.written.Ident.{Ident}
use Rattle.written_types.specs.Written.{Written}
use Rattle.words.specs.declared.vocabulary.Keyword.TheVariants.{Const, Where}
use Rattle.words.specs.declared.vocabulary.Sign.TheVariants.{Less, Greater, Colon, Plus}
use Rattle.words.specs.Words.{Word, name, keyword, sign, lifetime}
use Rattle.words.specs.Reading.{Read, name_at, keyword_at, sign_at, lifetime_at}
use Rattle.words.proofs.Laws.{Shortens, bind_ok, ok_is, along, name-is, keyword-is, sign-is}
use Rattle.type_grammar.specs.Grammar.{IsType, IsBounds, IsListOf, no_items, last_item, more_items}
use Rattle.type_grammar.specs.Reading.{ends_list, ends_clause, list_until}
use Rattle.type_grammar.proofs.Laws.{lifetime_at-is, until_sound}
use Rattle.attributes.specs.Attributes.{AttributeItem}
use Rattle.attributes.specs.AttributeGrammar.{IsAttributes}
use Rattle.attributes.specs.AttributeReading.{attributes_at}
use Rattle.attributes.proofs.Laws.{attributes_sound, attributes_no_longer}
use Rattle.syntax.specs.Items.{ParameterItem, lifetime_parameter, type_parameter, const_parameter}
use Rattle.syntax.specs.Generics.{AreLifetimes, the_last_lifetime, one_more_lifetime, MayBeOutlived, not_outlived, outlived_by_none, outlived, MayBeBounded, not_bounded, bounded, IsParameter, of_lifetime, of_type, of_const, IsGenerics, no_generics, in_angles, IsPredicate, on_lifetime, on_type, IsWhere, no_where, where_clause}
use Rattle.syntax.specs.GenericReading.{Readers, after_lifetimes, lifetimes_or_none, outlived_or_not, after_outlived, bounded_or_not, after_bounded, type_at, const_at, const_or_type, lifetime_or_other, bare_parameter_at, parameter_at, generics_or_none, generics_at, after_bounded_type, predicate_at, predicates_or_none, after_where}
use Rattle.syntax.proofs.Types.{type_shorter, bounds_no_longer}

-- what the readers read is of the grammar
pub record AreSound (r : Readers) : Type 0 where
  pub types : (ws : List Word) (t : Written) (rest : List Word) → r.ty ws ≡ Ok (t, rest) → IsType ws t rest
  pub bounds : (ws rest : List Word) → r.after_bounds ws ≡ Ok rest → IsBounds ws rest

-- ---- what they are longer than
lifetimes_shorter : {ws rest : List Word} → AreLifetimes ws rest → length rest < length ws
lifetimes_shorter the_last_lifetime = omega arith
lifetimes_shorter (one_more_lifetime r) = omega (arith, lifetimes_shorter r)

outlived_no_longer : {ws rest : List Word} → MayBeOutlived ws rest → length rest ≤ length ws
outlived_no_longer not_outlived = omega arith
outlived_no_longer outlived_by_none = omega arith
outlived_no_longer (outlived r) = omega (arith, lifetimes_shorter r)

bounded_no_longer : {ws rest : List Word} → MayBeBounded ws rest → length rest ≤ length ws
bounded_no_longer not_bounded = omega arith
bounded_no_longer (bounded r) = omega (arith, bounds_no_longer r)

pub parameter_shorter : {ws rest : List Word} {p : ParameterItem} → IsParameter ws p rest → length rest < length ws
parameter_shorter (of_lifetime d b) = omega (arith, attributes_no_longer d, outlived_no_longer b)
parameter_shorter (of_type d b) = omega (arith, attributes_no_longer d, bounded_no_longer b)
parameter_shorter (of_const d t) = omega (arith, attributes_no_longer d, type_shorter t)

pub predicate_shorter : {ws rest : List Word} {u : Unit {0}} → IsPredicate ws u rest → length rest < length ws
predicate_shorter (on_lifetime b) = omega (arith, bounds_no_longer b)
predicate_shorter (on_type t b) = omega (arith, type_shorter t, bounds_no_longer b)

listed_no_longer : {A : Type 0} {IsItem : List Word → A → List Word → Type 0} → ((ws rest : List Word) (x : A) → IsItem ws x rest → length rest < length ws) → {ws rest : List Word} {xs : List A} → IsListOf IsItem ws xs rest → length rest ≤ length ws
listed_no_longer shorter no_items = omega arith
listed_no_longer shorter (last_item {ws = ws} {rest = rest} {x = x} r) = omega (arith, shorter ws rest x r)
listed_no_longer shorter (more_items {ws = ws} {x = x} r others) = omega (arith, shorter ws _ x r, listed_no_longer shorter others)

pub generics_no_longer : {ws rest : List Word} {ps : List ParameterItem} → IsGenerics ws ps rest → length rest ≤ length ws
generics_no_longer no_generics = omega arith
generics_no_longer (in_angles r) = omega (arith, listed_no_longer (λ ws rest p q. parameter_shorter q) r)

pub where_no_longer : {ws rest : List Word} → IsWhere ws rest → length rest ≤ length ws
where_no_longer no_where = omega arith
where_no_longer (where_clause r) = omega (arith, listed_no_longer (λ ws rest u q. predicate_shorter q) r)

-- ---- lifetimes behind a lifetime
lifetimes_sound : (ws rest : List Word) → after_lifetimes ws ≡ Ok rest → AreLifetimes ws rest
lifetimes_sound [] rest e = cc
lifetimes_sound (lifetime x ∷ sign Plus s ∷ ws) rest e = one_more_lifetime (lifetimes_sound ws rest e)
lifetimes_sound (lifetime x ∷ []) rest e = subst (λ v. AreLifetimes (lifetime x ∷ []) v) (ok_is e) the_last_lifetime
lifetimes_sound (lifetime x ∷ w ∷ ws) rest e = subst (λ v. AreLifetimes (lifetime x ∷ w ∷ ws) v) (ok_is e) the_last_lifetime
lifetimes_sound (_ ∷ ws) rest e = cc

behind_colon : (s : Span) (ws rest : List Word) (q : Read Ident) → lifetimes_or_none ws q ≡ Ok rest → MayBeOutlived (sign Colon s ∷ ws) rest
behind_colon s ws rest (Ok x) e = outlived (lifetimes_sound ws rest e)
behind_colon s ws rest (Err f) e = subst (λ v. MayBeOutlived (sign Colon s ∷ ws) v) (ok_is e) outlived_by_none

outlived_from : (ws rest : List Word) (q : Read Span) → sign_at Colon ws ≡ q → outlived_or_not ws q ≡ Ok rest → MayBeOutlived ws rest
outlived_from ws rest (Err f) is e = subst (λ v. MayBeOutlived ws v) (ok_is e) not_outlived
outlived_from ws rest (Ok c) is e = subst (λ v. MayBeOutlived v rest) (sym (sign-is Colon ws c is)) (behind_colon c.0 c.1 rest (lifetime_at c.1) e)

outlived_sound : (ws rest : List Word) → after_outlived ws ≡ Ok rest → MayBeOutlived ws rest
unfolding after_outlived
outlived_sound ws rest e = outlived_from ws rest (sign_at Colon ws) refl e

module _ (r : Readers) (sound : AreSound r) where
  -- ---- parameters
  bounded_from : (ws rest : List Word) (q : Read Span) → sign_at Colon ws ≡ q → bounded_or_not r ws q ≡ Ok rest → MayBeBounded ws rest
  bounded_from ws rest (Err f) is e = subst (λ v. MayBeBounded ws v) (ok_is e) not_bounded
  bounded_from ws rest (Ok c) is e = subst (λ v. MayBeBounded v rest) (sym (sign-is Colon ws c is)) (bounded (sound.bounds c.1 rest e))

  bounded_sound : (ws rest : List Word) → after_bounded r ws ≡ Ok rest → MayBeBounded ws rest
  unfolding after_bounded
  bounded_sound ws rest e = bounded_from ws rest (sign_at Colon ws) refl e

  module _ (ws us : List Word) (attrs : List AttributeItem) (ds : IsAttributes ws attrs us) (p : ParameterItem) (rest : List Word) where
    type_sound : type_at r us ≡ Ok (p, rest) → IsParameter ws p rest
    type_sound e =
        let x = bind_ok (name_at us) e in
        let b = bind_ok (after_bounded r x.0.1) x.2 in
        along (λ v w. IsParameter ws v w) (type_parameter x.0.0, b.0) (p, rest) b.2 (of_type (subst (λ v. IsAttributes ws attrs v) (name-is us x.0 x.1) ds) (bounded_sound x.0.1 b.0 b.1))

    const_sound : (k : Ident) (vs : List Word) → us ≡ keyword Const k ∷ vs → const_at r vs ≡ Ok (p, rest) → IsParameter ws p rest
    const_sound k vs is e =
        let x = bind_ok (name_at vs) e in
        let c = bind_ok (sign_at Colon x.0.1) x.2 in
        let t = bind_ok (r.ty c.0.1) c.2 in
        let whole : us ≡ keyword Const k ∷ name x.0.0 ∷ sign Colon c.0.0 ∷ c.0.1 =
        is ∙ ap (λ v. keyword Const k ∷ v) (name-is vs x.0 x.1 ∙ ap (λ v. name x.0.0 ∷ v) (sign-is Colon x.0.1 c.0 c.1)) in
        along (λ v w. IsParameter ws v w) (const_parameter x.0.0, t.0.1) (p, rest) t.2 (of_const (subst (λ v. IsAttributes ws attrs v) whole ds) (sound.types c.0.1 t.0.0 t.0.1 t.1))

    const_or_type_sound : (q : Read Span) → keyword_at Const us ≡ q → const_or_type r us q ≡ Ok (p, rest) → IsParameter ws p rest
    const_or_type_sound (Ok k) is e = let word = keyword-is Const us k is in const_sound word.0 k.1 word.1 e
    const_or_type_sound (Err f) is e = type_sound e

    lifetime_or_other_sound : (q : Read Ident) → lifetime_at us ≡ q → lifetime_or_other r us q ≡ Ok (p, rest) → IsParameter ws p rest
    lifetime_or_other_sound (Ok x) is e =
        let b = bind_ok (after_outlived x.1) e in
        along (λ v w. IsParameter ws v w) (lifetime_parameter x.0, b.0) (p, rest) b.2 (of_lifetime (subst (λ v. IsAttributes ws attrs v) (lifetime_at-is us x.1 x.0 is) ds) (outlived_sound x.1 b.0 b.1))
    lifetime_or_other_sound (Err f) is e = const_or_type_sound (keyword_at Const us) refl e

    bare_sound : bare_parameter_at r us ≡ Ok (p, rest) → IsParameter ws p rest
    unfolding bare_parameter_at
    bare_sound e = lifetime_or_other_sound (lifetime_at us) refl e

  pub parameter_sound : (ws : List Word) (p : ParameterItem) (rest : List Word) → parameter_at r ws ≡ Ok (p, rest) → IsParameter ws p rest
  unfolding parameter_at
  parameter_sound ws p rest e = let d = bind_ok (attributes_at ws) e in bare_sound ws d.0.1 d.0.0 (attributes_sound ws d.0.0 d.0.1 d.1) p rest d.2

  pub parameter_shortens : Shortens (parameter_at r)
  parameter_shortens ws p rest e = parameter_shorter (parameter_sound ws p rest e)

  generics_from : (ws : List Word) (ps : List ParameterItem) (rest : List Word) (q : Read Span) → sign_at Less ws ≡ q → generics_or_none r ws q ≡ Ok (ps, rest) → IsGenerics ws ps rest
  generics_from ws ps rest (Err f) is e = along (λ v w. IsGenerics ws v w) ([], ws) (ps, rest) e no_generics
  generics_from ws ps rest (Ok o) is e =
      let l = bind_ok (list_until ends_list (parameter_at r) o.1) e in
      let c = bind_ok (sign_at Greater l.0.1) l.2 in
      let listed = subst (λ v. IsListOf IsParameter o.1 l.0.0 v) (sign-is Greater l.0.1 c.0 c.1) (until_sound ends_list IsParameter (parameter_at r) parameter_sound o.1 l.0.0 l.0.1 l.1) in
      subst (λ v. IsGenerics v ps rest) (sym (sign-is Less ws o is)) (along (λ v w. IsGenerics (sign Less o.0 ∷ o.1) v w) (l.0.0, c.0.1) (ps, rest) c.2 (in_angles listed))

  pub generics_sound : (ws : List Word) (ps : List ParameterItem) (rest : List Word) → generics_at r ws ≡ Ok (ps, rest) → IsGenerics ws ps rest
  unfolding generics_at
  generics_sound ws ps rest e = generics_from ws ps rest (sign_at Less ws) refl e

  -- ---- where clauses
  predicate_from : (ws us vs rest : List Word) (s : Span) (q : Read Ident) → lifetime_at ws ≡ q → after_bounded_type r ws q ≡ Ok us → us ≡ sign Colon s ∷ vs → IsBounds vs rest → IsPredicate ws tt rest
  predicate_from ws us vs rest s (Ok x) is e colon b =
      subst (λ v. IsPredicate v tt rest) (sym (lifetime_at-is ws x.1 x.0 is ∙ ap (λ v. lifetime x.0 ∷ v) (ok_is e ∙ colon))) (on_lifetime b)
  predicate_from ws us vs rest s (Err f) is e colon b =
      let t = bind_ok (r.ty ws) e in on_type (subst (λ v. IsType ws t.0.0 v) (ok_is t.2 ∙ colon) (sound.types ws t.0.0 t.0.1 t.1)) b

  pub predicate_sound : (ws : List Word) (u : Unit {0}) (rest : List Word) → predicate_at r ws ≡ Ok (u, rest) → IsPredicate ws u rest
  unfolding predicate_at
  predicate_sound ws u rest e =
      let b = bind_ok (after_bounded_type r ws (lifetime_at ws)) e in
      let c = bind_ok (sign_at Colon b.0) b.2 in
      let s = bind_ok (r.after_bounds c.0.1) c.2 in
      along (λ v w. IsPredicate ws v w) (tt, s.0) (u, rest) s.2 (predicate_from ws b.0 c.0.1 s.0 c.0.0 (lifetime_at ws) refl b.1 (sign-is Colon b.0 c.0 c.1) (sound.bounds c.0.1 s.0 s.1))

  pub predicate_shortens : Shortens (predicate_at r)
  predicate_shortens ws u rest e = predicate_shorter (predicate_sound ws u rest e)

  where_from : (ws rest : List Word) (q : Read Span) → keyword_at Where ws ≡ q → predicates_or_none r ws q ≡ Ok rest → IsWhere ws rest
  where_from ws rest (Err f) is e = subst (λ v. IsWhere ws v) (ok_is e) no_where
  where_from ws rest (Ok w) is e =
      let word = keyword-is Where ws w is in
      let l = bind_ok (list_until ends_clause (predicate_at r) w.1) e in
      subst (λ v. IsWhere v rest) (sym word.1)
      (subst (λ v. IsWhere (keyword Where word.0 ∷ w.1) v) (ok_is l.2) (where_clause (until_sound ends_clause IsPredicate (predicate_at r) predicate_sound w.1 l.0.0 l.0.1 l.1)))

  pub where_sound : (ws rest : List Word) → after_where r ws ≡ Ok rest → IsWhere ws rest
  unfolding after_where
  where_sound ws rest e = where_from ws rest (keyword_at Where ws) refl e
