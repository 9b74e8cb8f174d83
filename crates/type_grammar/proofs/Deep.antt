-- Reading stops for depth at the first type that nests too deep, and nowhere else.
use Rattle.std.proofs.Common.{◌≡◌, ℕ, zero, suc, inl, inr, List, [], ◌∷◌, length, refl, ap, sym, subst, ◌∙◌, cond, Bool, true, false, Option, Some, None, Ok, Err, Result}
use Rattle.texts.specs.declared.span.Span.{Span}
use Rattle.tokens.specs.declared.token.Bracket.TheVariants.{Round, Square}
use Rattle.tokens.specs.Trees.{Trees}
use Rattle.written_types.specs.declared.written.Ident.{Ident}
use Rattle.written_types.specs.Written.{Written, path, reference, tuple, slice, trait_object, more_types, writtens_of, WrittenPath, path_of, segments_of, Segment, applied, arguments_of, Argument, type_argument}
use Rattle.words.specs.declared.vocabulary.Keyword.TheVariants.{Mut, Dyn}
use Rattle.words.specs.declared.vocabulary.Sign.TheVariants.{Less, Greater, Comma, Colons, Semicolon, Ampersand, Plus, Question}
use Rattle.words.specs.Words.{Word, keyword, sign, group, words_of, cover, start_of}
use Rattle.words.specs.Reading.{Read, Fault, deep, wrong, ◌>>=◌, taken, as_path_word, as_sign, as_keyword, as_lifetime, path_word_at, sign_at}
use Rattle.type_grammar.specs.declared.starts.Bounds.{Bounds}
use Rattle.type_grammar.specs.declared.starts.Bounds.TheVariants.{One, Any}
use Rattle.type_grammar.specs.Starts.{TypeStart, starts_path, starts_reference, starts_object, starts_round, starts_square, starts_no_type, type_start, begins_type, begins_bound, span_of}
use Rattle.type_grammar.specs.Grammar.{IsTypeOf, IsSegment, IsArgument}
use Rattle.type_grammar.specs.Opening.{Passes, OpensList, in_first, behind, OpensTypes, OpensArgument, OpensArguments, OpensSegment, in_arguments, in_colon_arguments, OpensSegments, in_segment, behind_segment, OpensPath, in_segments, in_rooted, OpensBound, in_bound_path, OpensBounds, in_bound, behind_bound, OpensInBounds, in_the_first, in_the_others, OpensWithin, in_path, in_reference, in_round, in_several, in_square, in_first_bound, in_later_bound, BeginsAt, here, OpensTypeOf}
use Rattle.type_grammar.specs.Reading.{after_sign, without, is_end, all, ends_list, list_after, list_at, list_until, list_of, after_binding, first_bound, plain_argument, argument_or, argument_at, arguments_after, segment_after, segment_at, Chain, segments_after, segments_at, segments_in, path_from, path_at, bound_from, bound_at, bounds_after, bounds_at, bounds_in, after_bounds, more_bounds, object_at, reference_at, tuple_after, round_at, array_after, square_at, type_from, type_step, too_deep, type_in}
use Rattle.type_grammar.proofs.Firsts.{first_as-is, as_sign-is, sign_at-is, after_sign-is}
use Rattle.words.proofs.Laws.{Shortens, bind_err, first_shallow}
use Rattle.type_grammar.proofs.Found.{either}
use Rattle.type_grammar.proofs.Optional.{is_lifetime, is_mut, is_question, is_first, is_binding}
use Rattle.type_grammar.proofs.Chains.{segments_in_step, bounds_turn}
use Rattle.type_grammar.proofs.Sound.{opened_by, type_sound, argument_sound, segment_sound, path_sound, bound_sound, type_shortens, argument_shortens, segment_shortens, bound_shortens, reference_begins, object_begins, round_begins, square_begins}
use Rattle.type_grammar.proofs.Complete.{Reaches, BeginsBound, question_begins, bound_begins, bounded, by_bounds, PathStops, Starts, WordFirst, Begins, starts_begins, word_starts, word_no_sign, segment_first, path_starts, type_begins, begins_list, begins_no_end, argument_list, binding_list, binding_plain, both_are, first_are, question_first, path_behind_question, by_path, by_bound, list_goes_on, round_goes_on, segments_bare, type_complete, path_complete, segment_complete, bound_complete, argument_complete}

-- ---- how words begin in which a part begins too deep
module _ {Inner : Bounds → List Word → Span → Type 0} where
  opens_segment_first : {b : Bool} {ws : List Word} {at : Span} → OpensSegment Inner b ws at → WordFirst ws
  opens_segment_first (in_arguments {w = w} {x = x} {open_at = o} {ws = ws} e r) = (w, sign Less o ∷ ws, x, refl, e)
  opens_segment_first (in_colon_arguments {w = w} {x = x} {colons_at = c} {open_at = o} {ws = ws} e r) = (w, sign Colons c ∷ sign Less o ∷ ws, x, refl, e)

  opens_segments_first : {b : Bool} {ws : List Word} {at : Span} → OpensSegments Inner b ws at → WordFirst ws
  opens_segments_first (in_segment r) = opens_segment_first r
  opens_segments_first (behind_segment r passes s) = segment_first r

  opens_path_starts : {b : Bool} {ws : List Word} {at : Span} → OpensPath Inner b ws at → Starts ws
  opens_path_starts (in_segments r) = let h = opens_segments_first r in (h.0, h.1, h.3, word_starts h.0 h.2 h.4)
  opens_path_starts (in_rooted {colons_at = c} {ws = ws} r) = (sign Colons c, ws, refl, refl)

  opens_bare : {ws : List Word} {at : Span} → OpensBounds Inner ws at → PathStops ws
  opens_bare (in_bound r) = (refl, refl)
  opens_bare (behind_bound r passes s) = (refl, refl)

  opens_bound_begins : {ws : List Word} {at : Span} → OpensBound Inner ws at → BeginsBound ws
  opens_bound_begins (in_bound_path q r) = question_begins q (opens_path_starts r)

  within_begins : {b : Bounds} {ws : List Word} {at : Span} → OpensWithin Inner b ws at → Begins ws
  within_begins (in_path r) = starts_begins (opens_path_starts r)
  within_begins (in_reference {sign_at = s} {ws = ws} l m r) = (sign Ampersand s, ws, refl, refl)
  within_begins (in_round {g = g} {s = s} {rest = rest} r) = (group Round g s, rest, refl, refl)
  within_begins (in_several {g = g} {s = s} {rest = rest} r passes q) = (group Round g s, rest, refl, refl)
  within_begins (in_square {g = g} {s = s} {rest = rest} r) = (group Square g s, rest, refl, refl)
  within_begins (in_first_bound {x = x} {ws = ws} l q r) = (keyword Dyn x, ws, refl, refl)
  within_begins (in_later_bound {x = x} {ws = ws} l q r passes s) = (keyword Dyn x, ws, refl, refl)

here_begins : {ws : List Word} {at : Span} → BeginsAt ws at → Begins ws
here_begins (here {w = w} {ws = ws} e) = (w, ws, refl, e)

pub opens_begins : (n : ℕ) (b : Bounds) (ws : List Word) (at : Span) → OpensTypeOf n b ws at → Begins ws
unfolding OpensTypeOf
opens_begins zero b ws at o = here_begins o
opens_begins (suc n) b ws at o = within_begins o

-- ---- a reader that stops for depth where its words open, and nowhere else
abbrev pub Agrees : {A : Type 0} → (List Word → Result A Fault) → (List Word → Span → Type 0) → Type 0
Agrees read Opens = (ws : List Word) (at : Span) → (read ws ≡ Err (deep at) → Opens ws at) × (Opens ws at → read ws ≡ Err (deep at))

reached : {A : Type 0} (r : Result A Fault) (x : A) → Reaches r x → ((at : Span) → r ≡ Err (deep at) → ⊥) → r ≡ Ok x
reached r x (inl e) shallow = e
reached r x (inr h) shallow = absurd (shallow h.0 h.1)

module _ {A : Type 0} {read : List Word → Result A Fault} {Opens : List Word → Span → Type 0} (agrees : Agrees read Opens) (ws : List Word) where
  -- nothing opens in what is read, and where nothing opens what is in the grammar is read
  pub read_passes : (x : A) → read ws ≡ Ok x → Passes Opens ws
  read_passes x e at o = let both : ◌≡◌ {A = Result A Fault} (Ok x) (Err (deep at)) = sym e ∙ (agrees ws at).1 o in cc

  pub passed_reads : (x : A) → Reaches (read ws) x → Passes Opens ws → read ws ≡ Ok x
  passed_reads x reaches passes = reached (read ws) x reaches (λ at e. passes at ((agrees ws at).0 e))

  pub one_place : (a b : Span) → Opens ws a → Opens ws b → a ≡ b
  one_place a b o p = let both : ◌≡◌ {A = Result A Fault} (Err (deep a)) (Err (deep b)) = sym ((agrees ws a).1 o) ∙ (agrees ws b).1 p in cc

-- ---- lists
module _ {A : Type 0} (ends : List Word → Bool) (IsItem : List Word → A → List Word → Type 0) (Opens : List Word → Span → Type 0) (item : List Word → Read A) (agrees : Agrees item Opens) (shortens : Shortens item)
    (sound : (ws : List Word) (x : A) (rest : List Word) → item ws ≡ Ok (x, rest) → IsItem ws x rest) (complete : (ws mid : List Word) (x : A) (s : Span) → IsItem ws x (sign Comma s ∷ mid) → Reaches (item ws) (x, sign Comma s ∷ mid))
    (item_list : (ws rest : List Word) (x : A) → IsItem ws x rest → ends ws ≡ false) (opens_list : (ws : List Word) (at : Span) → Opens ws at → ends ws ≡ false) where
  deep_after : (again : List Word → Read (List A)) → ((mid : List Word) (at : Span) → again mid ≡ Err (deep at) → OpensList IsItem Opens mid at) → (ws : List Word) (x : A) (us : List Word) (at : Span) → item ws ≡ Ok (x, us)
      → (o : Option (List Word)) → after_sign Comma us ≡ o → list_after again x us o ≡ Err (deep at) → OpensList IsItem Opens ws at
  deep_after again h ws x us at r None f e = cc
  deep_after again h ws x us at r (Some mid) f e =
      elim (bind_err (again mid) e) [
        | inl k ↦ let comma = after_sign-is Comma us mid f in behind (subst (λ v. IsItem ws x v) comma.1 (sound ws x us r)) (read_passes agrees ws (x, us) r) (h mid at k)
        | inr k ↦ cc (k.2)
      ]

  list_deep : (n : ℕ) (ws : List Word) (at : Span) → list_at ends item n ws ≡ Err (deep at) → OpensList IsItem Opens ws at
  unfolding list_at
  list_deep zero ws at e = cc
  list_deep (suc n) ws at e =
      elim (either (ends ws) e) [
        | inl h ↦ cc
        | inr h ↦ elim (bind_err (item ws) h.1) [
          | inl k ↦ in_first ((agrees ws at).0 k)
          | inr k ↦ deep_after (list_at ends item n) (list_deep n) ws k.0.0 k.0.1 at k.1 (after_sign Comma k.0.1) refl k.2
        ]
      ]

  abbrev turn : Read A → Read (List A)
  turn r = r >>= λ p. list_after (list_until ends item) p.0 p.1 (after_sign Comma p.1)

  list_opens : {ws : List Word} {at : Span} → OpensList IsItem Opens ws at → list_until ends item ws ≡ Err (deep at)
  list_opens (in_first {at = at} {ws = ws} o) = list_goes_on ends item shortens ws (opens_list ws at o) ∙ ap turn ((agrees ws at).1 o)
  list_opens (behind {s = s} {ws = ws} {mid = mid} {x = x} r passes o) =
      list_goes_on ends item shortens ws (item_list ws (sign Comma s ∷ mid) x r) ∙ ap turn (passed_reads agrees ws (x, sign Comma s ∷ mid) (complete ws mid x s r) passes) ∙ ap (λ v. v >>= λ p. Ok (x ∷ p.0, p.1)) (list_opens o)

  pub list_agrees : Agrees (list_until ends item) (OpensList IsItem Opens)
  unfolding list_until
  list_agrees ws at = (λ e. list_deep (suc (length ws)) ws at e, λ o. list_opens o)

pub all_deep : {A : Type 0} (r : Read A) (at : Span) → all r ≡ Err (deep at) → r ≡ Err (deep at)
all_deep (Err k) at e = let same : k ≡ deep at = cc in ap (λ v. Err v) same
all_deep (Ok p) at e = elim (either (is_end p.1) e) [ inl h ↦ cc | inr h ↦ cc ]

-- ---- the parts of a type, where types one level further in are read so
module _ (m : ℕ) (inner : (b : Bounds) → Agrees (type_in m b) (OpensTypeOf m b)) where
  types_agree : Agrees (list_of (type_in m Any)) (OpensTypes (OpensTypeOf m))
  types_agree =
      list_agrees ends_list (IsTypeOf Any) (OpensTypeOf m Any) (type_in m Any) (inner Any) (type_shortens m Any) (type_sound m Any) (λ ws mid t s r. type_complete r refl m) (λ ws rest t r. begins_list (type_begins r)) (λ ws at o. begins_list (opens_begins m Any ws at o))

  -- ---- arguments
  argument_deep : (b : Bool) (ws : List Word) (at : Span) (o : Option (Argument × List Word)) → argument_or (type_in m) (after_binding b ws) o ≡ Err (deep at) → OpensArgument (OpensTypeOf m) b ws at
  argument_deep b ws at (Some p) e = cc
  argument_deep b ws at None e = elim (bind_err (type_in m Any (after_binding b ws)) e) [ inl k ↦ (inner Any (after_binding b ws) at).0 k | inr k ↦ cc (k.2) ]

  argument_opens : (b : Bool) (ws : List Word) (at : Span) → OpensArgument (OpensTypeOf m) b ws at → argument_at b (type_in m) ws ≡ Err (deep at)
  unfolding argument_at
  argument_opens b ws at o =
      ap (argument_or (type_in m) (after_binding b ws)) (binding_plain (is_binding b ws) (opens_begins m Any (after_binding b ws) at o)) ∙ ap (λ v. v >>= λ q. Ok (type_argument q.0, q.1)) ((inner Any (after_binding b ws) at).1 o)

  argument_agrees : (b : Bool) → Agrees (argument_at b (type_in m)) (OpensArgument (OpensTypeOf m) b)
  unfolding argument_at
  argument_agrees b ws at = (λ e. argument_deep b ws at (plain_argument ws) e, λ o. argument_opens b ws at o)

  arguments_agree : (b : Bool) → Agrees (list_of (argument_at b (type_in m))) (OpensArguments (OpensTypeOf m) b)
  arguments_agree b =
      list_agrees ends_list (IsArgument b) (OpensArgument (OpensTypeOf m) b) (argument_at b (type_in m)) (argument_agrees b) (argument_shortens m b) (argument_sound (type_in m) (type_sound m) b) (λ ws mid x s r. argument_complete r refl m)
      (λ ws rest x r. argument_list r) (λ ws at o. binding_list (is_binding b ws) (opens_begins m Any (after_binding b ws) at o))

  -- ---- segments
  segment_deep_at : (b : Bool) (w : Word) (x : Ident) → as_path_word w ≡ Some x → (ws : List Word) (at : Span) (o : Option (List Word)) → arguments_after ws ≡ o → segment_after b (type_in m) x ws o ≡ Err (deep at)
      → OpensSegment (OpensTypeOf m) b (w ∷ ws) at
  segment_deep_at b w x k ws at None f e = cc
  segment_deep_at b w x k ws at (Some mid) f e =
      elim (bind_err (list_of (argument_at b (type_in m)) mid) e) [
        | inl i ↦ elim (opened_by ws mid (after_sign Less ws) refl (after_sign Colons ws) refl f) [
          | inl h ↦ subst (λ v. OpensSegment (OpensTypeOf m) b (w ∷ v) at) (sym h.1) (in_arguments k ((arguments_agree b mid at).0 i))
          | inr h ↦ subst (λ v. OpensSegment (OpensTypeOf m) b (w ∷ v) at) (sym h.2) (in_colon_arguments k ((arguments_agree b mid at).0 i))
        ]
        | inr i ↦ elim (bind_err (sign_at Greater i.0.1) i.2) [ inl j ↦ absurd (first_shallow (as_sign Greater) i.0.1 at j) | inr j ↦ cc (j.2) ]
      ]

  segment_deep : (b : Bool) (ws : List Word) (at : Span) → segment_at b (type_in m) ws ≡ Err (deep at) → OpensSegment (OpensTypeOf m) b ws at
  unfolding segment_at
  segment_deep b ws at e =
      elim (bind_err (path_word_at ws) e) [
        | inl k ↦ absurd (first_shallow as_path_word ws at k)
        | inr k ↦ let first = first_as-is as_path_word ws k.0.1 k.0.0 k.1 in
            subst (λ v. OpensSegment (OpensTypeOf m) b v at) (sym first.1) (segment_deep_at b first.0 k.0.0 first.2 k.0.1 at (arguments_after k.0.1) refl k.2)
      ]

  abbrev closed : Ident → Read (List Argument) → Read (Segment × Span)
  closed x r = r >>= λ p. sign_at Greater p.1 >>= λ e. Ok ((applied x (arguments_of p.0), e.0), e.1)

  segment_opens : {b : Bool} {ws : List Word} {at : Span} → OpensSegment (OpensTypeOf m) b ws at → segment_at b (type_in m) ws ≡ Err (deep at)
  unfolding segment_at
  segment_opens {b = b} (in_arguments {w = w} {x = x} {open_at = o} {at = at} {ws = ws} e r) =
      ap (λ v. taken v (sign Less o ∷ ws) >>= λ y. segment_after b (type_in m) y.0 y.1 (arguments_after y.1)) e ∙ ap (closed x) ((arguments_agree b ws at).1 r)
  segment_opens {b = b} (in_colon_arguments {w = w} {x = x} {colons_at = d} {open_at = o} {at = at} {ws = ws} e r) =
      ap (λ v. taken v (sign Colons d ∷ sign Less o ∷ ws) >>= λ y. segment_after b (type_in m) y.0 y.1 (arguments_after y.1)) e ∙ ap (closed x) ((arguments_agree b ws at).1 r)

  segment_agrees : (b : Bool) → Agrees (segment_at b (type_in m)) (OpensSegment (OpensTypeOf m) b)
  segment_agrees b ws at = (λ e. segment_deep b ws at e, λ o. segment_opens o)

  segments_deep_after : (b : Bool) (again : List Word → Read Chain) → ((mid : List Word) (at : Span) → again mid ≡ Err (deep at) → OpensSegments (OpensTypeOf m) b mid at) → (ws : List Word) (s : Segment) (last : Span) (us : List Word) (at : Span)
      → segment_at b (type_in m) ws ≡ Ok ((s, last), us) → (o : Option (List Word)) → after_sign Colons us ≡ o → segments_after again (s, last) us o ≡ Err (deep at) → OpensSegments (OpensTypeOf m) b ws at
  segments_deep_after b again h ws s last us at r None f e = cc
  segments_deep_after b again h ws s last us at r (Some mid) f e =
      elim (bind_err (again mid) e) [
        | inl k ↦ behind_segment (subst (λ v. IsSegment b ws s last v) (after_sign-is Colons us mid f).1 (segment_sound (type_in m) (type_sound m) b ws s last us r)) (read_passes (segment_agrees b) ws ((s, last), us) r) (h mid at k)
        | inr k ↦ cc (k.2)
      ]

  segments_deep : (b : Bool) (n : ℕ) (ws : List Word) (at : Span) → segments_at b (type_in m) n ws ≡ Err (deep at) → OpensSegments (OpensTypeOf m) b ws at
  unfolding segments_at
  segments_deep b zero ws at e = cc
  segments_deep b (suc n) ws at e =
      elim (bind_err (segment_at b (type_in m) ws) e) [
        | inl k ↦ in_segment (segment_deep b ws at k)
        | inr k ↦ segments_deep_after b (segments_at b (type_in m) n) (segments_deep b n) ws k.0.0.0 k.0.0.1 k.0.1 at k.1 (after_sign Colons k.0.1) refl k.2
      ]

  abbrev chained : Bool → Read (Segment × Span) → Read Chain
  chained b r = r >>= λ p. segments_after (segments_in b (type_in m)) p.0 p.1 (after_sign Colons p.1)

  segments_open : {b : Bool} {ws : List Word} {at : Span} → OpensSegments (OpensTypeOf m) b ws at → segments_in b (type_in m) ws ≡ Err (deep at)
  segments_open {b = b} (in_segment {ws = ws} r) = segments_in_step b (type_in m) (segment_shortens m b) ws ∙ ap (chained b) (segment_opens r)
  segments_open {b = b} (behind_segment {ws = ws} {mid = mid} {s = s} {last = last} {colons_at = c} r passes q) =
      segments_in_step b (type_in m) (segment_shortens m b) ws ∙ ap (chained b) (passed_reads (segment_agrees b) ws ((s, last), sign Colons c ∷ mid) (segment_complete r (segments_bare c (opens_segments_first q)) m) passes) ∙ ap (λ v. v >>= λ p. Ok ((s ∷ p.0.0, p.0.1), p.1)) (segments_open q)

  segments_agree : (b : Bool) → Agrees (segments_in b (type_in m)) (OpensSegments (OpensTypeOf m) b)
  unfolding segments_in
  segments_agree b ws at = (λ e. segments_deep b (suc (length ws)) ws at e, λ o. segments_open o)

  -- ---- a path
  path_deep_from : (b : Bool) (w : Word) (ws : List Word) (at : Span) (o : Option Span) → as_sign Colons w ≡ o → path_from b (type_in m) w ws o ≡ Err (deep at) → OpensPath (OpensTypeOf m) b (w ∷ ws) at
  path_deep_from b w ws at None f e = elim (bind_err (segments_in b (type_in m) (w ∷ ws)) e) [ inl k ↦ in_segments ((segments_agree b (w ∷ ws) at).0 k) | inr k ↦ cc (k.2) ]
  path_deep_from b w ws at (Some s) f e =
      elim (bind_err (segments_in b (type_in m) ws) e) [ inl k ↦ subst (λ v. OpensPath (OpensTypeOf m) b (v ∷ ws) at) (sym (as_sign-is Colons w s f)) (in_rooted ((segments_agree b ws at).0 k)) | inr k ↦ cc (k.2) ]

  path_deep : (b : Bool) (ws : List Word) (at : Span) → path_at b (type_in m) ws ≡ Err (deep at) → OpensPath (OpensTypeOf m) b ws at
  unfolding path_at
  path_deep b [] at e = cc
  path_deep b (w ∷ ws) at e = path_deep_from b w ws at (as_sign Colons w) refl e

  abbrev whole_path : Bool → Span → Read Chain → Read WrittenPath
  whole_path leading start r = r >>= λ p. Ok (path_of leading (segments_of p.0.0) (cover start p.0.1), p.1)

  path_opens : {b : Bool} {ws : List Word} {at : Span} → OpensPath (OpensTypeOf m) b ws at → path_at b (type_in m) ws ≡ Err (deep at)
  unfolding path_at
  path_opens {b = b} (in_segments {ws = ws} r) =
      let h = opens_segments_first r in
      ap (path_at b (type_in m)) h.3 ∙ ap (path_from b (type_in m) h.0 h.1) (word_no_sign h.0 h.2 h.4 h.1).0 ∙ ap (λ v. whole_path false (start_of h.0) (segments_in b (type_in m) v)) (sym h.3) ∙ ap (whole_path false (start_of h.0)) (segments_open r)
  path_opens {b = b} (in_rooted {colons_at = c} {ws = ws} r) = ap (whole_path true c) (segments_open r)

  path_agrees : (b : Bool) → Agrees (path_at b (type_in m)) (OpensPath (OpensTypeOf m) b)
  path_agrees b ws at = (λ e. path_deep b ws at e, λ o. path_opens o)

  -- ---- bounds
  bound_deep_from : (w : Word) (ws : List Word) (at : Span) (o : Option Ident) → bound_from (type_in m) (w ∷ ws) o w ws ≡ Err (deep at) → OpensBound (OpensTypeOf m) (w ∷ ws) at
  bound_deep_from w ws at (Some x) e = cc
  bound_deep_from w ws at None e =
      let us = without (as_sign Question) (w ∷ ws) in
      elim (bind_err (path_at true (type_in m) us) e) [ inl k ↦ in_bound_path (is_question (w ∷ ws)) (path_deep true us at k) | inr k ↦ cc (k.2) ]

  bound_deep : (ws : List Word) (at : Span) → bound_at (type_in m) ws ≡ Err (deep at) → OpensBound (OpensTypeOf m) ws at
  unfolding bound_at
  bound_deep [] at e = cc
  bound_deep (w ∷ ws) at e = bound_deep_from w ws at (as_lifetime w) e

  bound_opens : {ws : List Word} {at : Span} → OpensBound (OpensTypeOf m) ws at → bound_at (type_in m) ws ≡ Err (deep at)
  bound_opens (in_bound_path {ws = ws} {us = us} q r) =
      let first = question_first q (opens_path_starts r) in
      by_bound (type_in m) ws first.0 first.1 first.2 first.3 ∙ ap (λ v. path_at true (type_in m) v >>= λ q. Ok (span_of q.0, q.1)) (path_behind_question q (opens_path_starts r)) ∙ ap (λ v. v >>= λ q. Ok (span_of q.0, q.1)) (path_opens r)

  pub bound_agrees : Agrees (bound_at (type_in m)) (OpensBound (OpensTypeOf m))
  bound_agrees ws at = (λ e. bound_deep ws at e, λ o. bound_opens o)

  bounds_deep_after : (again : Span → List Word → Read Span) → ((last : Span) (mid : List Word) (at : Span) → again last mid ≡ Err (deep at) → OpensBounds (OpensTypeOf m) mid at) → (last : Span) (ws : List Word) (at : Span)
      → (o : Option (List Word)) → after_sign Plus ws ≡ o → bounds_after (type_in m) again last ws o ≡ Err (deep at) → OpensBounds (OpensTypeOf m) ws at
  bounds_deep_after again h last ws at None f e = cc
  bounds_deep_after again h last ws at (Some mid) f e =
      let plus = after_sign-is Plus ws mid f in
      subst (λ v. OpensBounds (OpensTypeOf m) v at) (sym plus.1)
      (elim (bind_err (bound_at (type_in m) mid) e) [
        | inl k ↦ in_bound (bound_deep mid at k)
        | inr k ↦ behind_bound (bound_sound (type_in m) (type_sound m) mid k.0.0 k.0.1 k.1) (read_passes bound_agrees mid k.0 k.1) (h k.0.0 k.0.1 at k.2)
      ])

  bounds_deep : (n : ℕ) (last : Span) (ws : List Word) (at : Span) → bounds_at (type_in m) n last ws ≡ Err (deep at) → OpensBounds (OpensTypeOf m) ws at
  unfolding bounds_at
  bounds_deep zero last ws at e = cc
  bounds_deep (suc n) last ws at e = bounds_deep_after (bounds_at (type_in m) n) (bounds_deep n) last ws at (after_sign Plus ws) refl e

  bounds_open : {ws : List Word} {at : Span} → OpensBounds (OpensTypeOf m) ws at → (before : Span) → bounds_in (type_in m) before ws ≡ Err (deep at)
  bounds_open (in_bound {plus_at = a} {at = at} {ws = ws} r) before = bounds_turn (type_in m) (bound_shortens m) before (sign Plus a ∷ ws) ws (Err (deep at)) refl (bound_opens r)
  bounds_open (behind_bound {plus_at = a} {b = b} {ws = ws} {mid = mid} r passes s) before =
      bounds_turn (type_in m) (bound_shortens m) before (sign Plus a ∷ ws) ws (Ok (b, mid)) refl (passed_reads bound_agrees ws (b, mid) (bound_complete r (opens_bare s) m) passes) ∙ bounds_open s b

  bounds_agree : (last : Span) → Agrees (bounds_in (type_in m) last) (OpensBounds (OpensTypeOf m))
  unfolding bounds_in
  bounds_agree last ws at = (λ e. bounds_deep (suc (length ws)) last ws at e, λ o. bounds_open o last)

  in_bounds_deep : (w : Word) (ws : List Word) (at : Span) (b : Bool) → cond b (bounded (type_in m) (bound_at (type_in m) (w ∷ ws))) (Ok (w ∷ ws)) ≡ Err (deep at) → OpensInBounds (OpensTypeOf m) (w ∷ ws) at
  in_bounds_deep w ws at false e = cc
  in_bounds_deep w ws at true e =
      elim (bind_err (bound_at (type_in m) (w ∷ ws)) e) [
        | inl k ↦ in_the_first (bound_deep (w ∷ ws) at k)
        | inr k ↦ elim (bind_err (bounds_in (type_in m) k.0.0 k.0.1) k.2) [
          | inl j ↦ in_the_others (bound_sound (type_in m) (type_sound m) (w ∷ ws) k.0.0 k.0.1 k.1) (read_passes bound_agrees (w ∷ ws) k.0 k.1) ((bounds_agree k.0.0 k.0.1 at).0 j)
          | inr j ↦ cc (j.2)
        ]
      ]

  after_bounds_deep : (ws : List Word) (at : Span) → after_bounds (type_in m) ws ≡ Err (deep at) → OpensInBounds (OpensTypeOf m) ws at
  unfolding after_bounds
  after_bounds_deep [] at e = cc
  after_bounds_deep (w ∷ ws) at e = in_bounds_deep w ws at (begins_bound w) e

  in_bounds_open : {ws : List Word} {at : Span} → OpensInBounds (OpensTypeOf m) ws at → after_bounds (type_in m) ws ≡ Err (deep at)
  in_bounds_open (in_the_first r) = by_bounds (type_in m) (opens_bound_begins r) ∙ ap (bounded (type_in m)) (bound_opens r)
  in_bounds_open (in_the_others {b = b} {ws = ws} {mid = mid} r passes s) =
      by_bounds (type_in m) (bound_begins r) ∙ ap (bounded (type_in m)) (passed_reads bound_agrees ws (b, mid) (bound_complete r (opens_bare s) m) passes) ∙ ap (λ v. v >>= λ e. Ok e.1) (bounds_open s b)

  pub in_bounds_agree : Agrees (after_bounds (type_in m)) (OpensInBounds (OpensTypeOf m))
  in_bounds_agree ws at = (λ e. after_bounds_deep ws at e, λ o. in_bounds_open o)

  -- ---- a type
  later_deep : (b : Bounds) (x : Ident) (ws : List Word) (p : WrittenPath) (mid : List Word) (at : Span) → path_at false (type_in m) (first_bound b ws) ≡ Ok (p, mid) → more_bounds b (type_in m) (span_of p) mid ≡ Err (deep at)
      → OpensWithin (OpensTypeOf m) b (keyword Dyn x ∷ ws) at
  later_deep One x ws p mid at f e = cc
  later_deep Any x ws p mid at f e =
      let before = is_first Any ws in in_later_bound before.1 before.2 (path_sound (type_in m) (type_sound m) false (first_bound Any ws) p mid f) (read_passes (path_agrees false) (first_bound Any ws) (p, mid) f) ((bounds_agree (span_of p) mid at).0 e)

  object_deep : (b : Bounds) (x : Ident) (ws : List Word) (at : Span) → object_at b (type_in m) x.span ws ≡ Err (deep at) → OpensWithin (OpensTypeOf m) b (keyword Dyn x ∷ ws) at
  unfolding object_at
  object_deep b x ws at e =
      elim (bind_err (path_at false (type_in m) (first_bound b ws)) e) [
        | inl k ↦ let before = is_first b ws in in_first_bound before.1 before.2 (path_deep false (first_bound b ws) at k)
        | inr k ↦ elim (bind_err (more_bounds b (type_in m) (span_of k.0.0) k.0.1) k.2) [ inl j ↦ later_deep b x ws k.0.0 k.0.1 at k.1 j | inr j ↦ cc (j.2) ]
      ]

  reference_deep : (b : Bounds) (s : Span) (ws : List Word) (at : Span) → reference_at (type_in m) ws ≡ Err (deep at) → OpensWithin (OpensTypeOf m) b (sign Ampersand s ∷ ws) at
  unfolding reference_at
  reference_deep b s ws at e =
      let us = without as_lifetime ws in
      let vs = without (as_keyword Mut) us in
      elim (bind_err (type_in m One vs) e) [ inl k ↦ in_reference (is_lifetime ws) (is_mut us) ((inner One vs at).0 k) | inr k ↦ cc (k.2) ]

  round_deep : (b : Bounds) (g : Trees) (s : Span) (rest : List Word) (at : Span) → round_at (type_in m) s (words_of g) ≡ Err (deep at) → OpensWithin (OpensTypeOf m) b (group Round g s ∷ rest) at
  unfolding round_at
  round_deep b g s rest at e =
      elim (either (is_end (words_of g)) e) [
        | inl h ↦ cc
        | inr h ↦ elim (bind_err (type_in m Any (words_of g)) h.1) [
          | inl k ↦ in_round ((inner Any (words_of g) at).0 k)
          | inr k ↦ elim (either (is_end k.0.1) k.2) [
            | inl j ↦ cc
            | inr j ↦ elim (bind_err (sign_at Comma k.0.1) j.1) [
              | inl i ↦ absurd (first_shallow (as_sign Comma) k.0.1 at i)
              | inr i ↦ elim (bind_err (all (list_of (type_in m Any) i.0.1)) i.2) [
                | inl z ↦
                    in_several (subst (λ v. IsTypeOf Any (words_of g) k.0.0 v) (sign_at-is Comma k.0.1 i.0.1 i.0.0 i.1) (type_sound m Any (words_of g) k.0.0 k.0.1 k.1)) (read_passes (inner Any) (words_of g) k.0 k.1)
                    ((types_agree i.0.1 at).0 (all_deep (list_of (type_in m Any) i.0.1) at z))
                | inr z ↦ cc (z.2)
              ]
            ]
          ]
        ]
      ]

  square_deep : (b : Bounds) (g : Trees) (s : Span) (rest : List Word) (at : Span) → square_at (type_in m) s (words_of g) ≡ Err (deep at) → OpensWithin (OpensTypeOf m) b (group Square g s ∷ rest) at
  unfolding square_at
  square_deep b g s rest at e =
      elim (bind_err (type_in m Any (words_of g)) e) [
        | inl k ↦ in_square ((inner Any (words_of g) at).0 k)
        | inr k ↦ elim (either (is_end k.0.1) k.2) [
          | inl j ↦ cc
          | inr j ↦ elim (bind_err (sign_at Semicolon k.0.1) j.1) [
            | inl i ↦ absurd (first_shallow (as_sign Semicolon) k.0.1 at i)
            | inr i ↦ elim (either (is_end i.0.1) i.2) [ inl z ↦ cc | inr z ↦ cc ]
          ]
        ]
      ]

  begun_deep : (b : Bounds) (w : Word) (ws : List Word) (at : Span) (s : TypeStart) → type_start w ≡ s → type_from b (type_in m) w ws s ≡ Err (deep at) → OpensWithin (OpensTypeOf m) b (w ∷ ws) at
  begun_deep b w ws at starts_path f e = elim (bind_err (path_at false (type_in m) (w ∷ ws)) e) [ inl k ↦ in_path (path_deep false (w ∷ ws) at k) | inr k ↦ cc (k.2) ]
  begun_deep b w ws at starts_reference f e = let h = reference_begins w f in subst (λ v. OpensWithin (OpensTypeOf m) b (v ∷ ws) at) (sym h.1) (reference_deep b h.0 ws at e)
  begun_deep b w ws at (starts_object s) f e =
      let h = object_begins w s f in subst (λ v. OpensWithin (OpensTypeOf m) b (v ∷ ws) at) (sym h.1) (object_deep b h.0 ws at (ap (λ v. object_at b (type_in m) v ws) h.2 ∙ e))
  begun_deep b w ws at (starts_round g s) f e =
      elim (bind_err (round_at (type_in m) s (words_of g)) e) [ inl k ↦ subst (λ v. OpensWithin (OpensTypeOf m) b (v ∷ ws) at) (sym (round_begins w g s f)) (round_deep b g s ws at k) | inr k ↦ cc (k.2) ]
  begun_deep b w ws at (starts_square g s) f e =
      elim (bind_err (square_at (type_in m) s (words_of g)) e) [ inl k ↦ subst (λ v. OpensWithin (OpensTypeOf m) b (v ∷ ws) at) (sym (square_begins w g s f)) (square_deep b g s ws at k) | inr k ↦ cc (k.2) ]
  begun_deep b w ws at starts_no_type f e = cc

  step_deep : (b : Bounds) (ws : List Word) (at : Span) → type_step b (type_in m) ws ≡ Err (deep at) → OpensWithin (OpensTypeOf m) b ws at
  unfolding type_step
  step_deep b [] at e = cc
  step_deep b (w ∷ ws) at e = begun_deep b w ws at (type_start w) refl e

  abbrev referring : Read Written → Read Written
  referring r = r >>= λ q. Ok (reference q.0, q.1)

  abbrev rounded : Span → Read Written → Result Written Fault
  rounded s r = r >>= λ q. cond (is_end q.1) (Ok q.0) (tuple_after (type_in m) s q.0 q.1)

  abbrev squared : Span → Read Written → Result Written Fault
  squared s r = r >>= λ q. cond (is_end q.1) (Ok (slice q.0 s)) (array_after s q.0 q.1)

  abbrev before_rest : List Word → Result Written Fault → Read Written
  before_rest rest r = r >>= λ v. Ok (v, rest)

  abbrev with_bounds : Bounds → Span → Read WrittenPath → Read Written
  with_bounds b s r = r >>= λ q. more_bounds b (type_in m) (span_of q.0) q.1 >>= λ e. Ok (trait_object q.0 (cover s e.0), e.1)

  step_opens : {b : Bounds} {ws : List Word} {at : Span} → OpensWithin (OpensTypeOf m) b ws at → type_step b (type_in m) ws ≡ Err (deep at)
  unfolding type_step reference_at round_at square_at object_at
  step_opens {b = b} (in_path {ws = ws} r) = by_path b (type_in m) ws (opens_path_starts r) ∙ ap (λ v. v >>= λ q. Ok (path q.0, q.1)) (path_opens r)
  step_opens (in_reference {at = at} {vs = vs} l k r) = ap (λ v. referring (type_in m One v)) (both_are l k (opens_begins m One vs at r)) ∙ ap referring ((inner One vs at).1 r)
  step_opens (in_round {g = g} {s = s} {at = at} {rest = rest} r) =
      ap (before_rest rest) (round_goes_on (type_in m) s (words_of g) (begins_no_end (opens_begins m Any (words_of g) at r)) ∙ ap (rounded s) ((inner Any (words_of g) at).1 r))
  step_opens (in_several {g = g} {s = s} {comma_at = c} {at = at} {mid = mid} {rest = rest} {t = t} r passes q) =
      ap (before_rest rest)
      (round_goes_on (type_in m) s (words_of g) (begins_no_end (type_begins r)) ∙ ap (rounded s) (passed_reads (inner Any) (words_of g) (t, sign Comma c ∷ mid) (type_complete r refl m) passes)
      ∙ ap (λ v. all v >>= λ us. Ok (tuple (more_types t (writtens_of us)) s)) ((types_agree mid at).1 q))
  step_opens (in_square {g = g} {s = s} {at = at} {rest = rest} r) = ap (λ v. before_rest rest (squared s v)) ((inner Any (words_of g) at).1 r)
  step_opens {b = b} (in_first_bound {x = x} l q r) = ap (λ v. with_bounds b x.span (path_at false (type_in m) v)) (first_are l q (opens_path_starts r)) ∙ ap (with_bounds b x.span) (path_opens r)
  step_opens (in_later_bound {x = x} {vs = vs} {mid = mid} {p = p} l q r passes s) =
      ap (λ v. with_bounds Any x.span (path_at false (type_in m) v)) (first_are l q (path_starts r)) ∙ ap (with_bounds Any x.span) (passed_reads (path_agrees false) vs (p, mid) (path_complete r (opens_bare s) m) passes)
      ∙ ap (λ v. v >>= λ e. Ok (trait_object p (cover x.span e.0), e.1)) (bounds_open s (span_of p))

none_left : (ws : List Word) (at : Span) → too_deep ws ≡ Err (deep at) → BeginsAt ws at
none_left [] at e = cc
none_left (w ∷ ws) at e =
    elim (either (begins_type w) e) [
      | inl h ↦ let same : start_of w ≡ at = cc in subst (λ v. BeginsAt (w ∷ ws) v) same (here h.0)
      | inr h ↦ cc
    ]

stops_there : {ws : List Word} {at : Span} → BeginsAt ws at → too_deep ws ≡ Err (deep at)
stops_there (here {w = w} e) = ap (λ v. cond v (Err (deep (start_of w))) (Err wrong)) e

pub type_agrees : (n : ℕ) (b : Bounds) → Agrees (type_in n b) (OpensTypeOf n b)
unfolding type_in OpensTypeOf
type_agrees zero b ws at = (λ e. none_left ws at e, λ o. stops_there o)
type_agrees (suc n) b ws at = (λ e. step_deep n (type_agrees n) b ws at e, λ o. step_opens n (type_agrees n) o)
