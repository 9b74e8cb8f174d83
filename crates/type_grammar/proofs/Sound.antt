-- What is read is in the grammar.
use Rattle.std.proofs.Common.{◌≡◌, ℕ, zero, suc, ◌⊎◌, inl, inr, List, [], ◌∷◌, length, refl, ap, sym, subst, ◌∙◌, cond, Bool, true, false, Option, Some, None, Ok}
use Rattle.texts.specs.declared.span.Span.{Span}
use Rattle.tokens.specs.declared.token.Bracket.TheVariants.{Round, Square, Curly}
use Rattle.tokens.specs.Trees.{Trees, end, ◌▸◌}
use Rattle.written_types.specs.declared.written.Ident.{Ident}
use Rattle.written_types.specs.Written.{Written, path, reference, tuple, slice, array, trait_object, no_types, more_types, writtens_of, WrittenPath, path_of, segments_of, Segment, plain, applied, arguments_of, Argument, type_argument}
use Rattle.words.specs.declared.vocabulary.Keyword.TheVariants.{Mut, Dyn, True, False, Crate, SelfValue, Super, SelfType}
use Rattle.words.specs.declared.vocabulary.Sign.TheVariants.{Less, Greater, Comma, Colons, Semicolon, Ampersand, Plus, Minus, Question}
use Rattle.words.specs.Words.{Word, name, underscore, keyword, sign, lifetime, literal, doc, group, words_of, cover, start_of}
use Rattle.words.specs.Reading.{Read, ◌>>=◌, as_path_word, as_sign, as_keyword, as_lifetime, path_word_at, sign_at}
use Rattle.type_grammar.specs.declared.starts.Bounds.{Bounds}
use Rattle.type_grammar.specs.declared.starts.Bounds.TheVariants.{One, Any}
use Rattle.type_grammar.specs.Starts.{TypeStart, starts_path, starts_reference, starts_object, starts_round, starts_square, starts_no_type, type_start, begins_type, begins_bound, span_of}
use Rattle.type_grammar.specs.Grammar.{a_literal, a_negative, a_true, a_false, a_block, IsTypeOf, pathed, referred, wrapped, unit, several, sliced, arrayed, object, MoreBounds, no_more_bounds, one_more_bound, IsBound, a_lifetime_bound, a_path_bound, IsPath, from_here, from_root, IsSegments, last_segment, more_segments, IsSegment, without_arguments, with_arguments, with_colons, IsArgument, of_lifetime, of_constant, of_type, IsArguments, no_argument, last_argument, another_argument, IsTypes, no_type, last_type, another_type, IsBounds, no_bounds, some_bounds, IsListOf, no_items, last_item, more_items}
use Rattle.type_grammar.specs.Reading.{TypeReader, after_sign, without, is_end, all, ends_list, list_after, list_at, list_until, list_of, after_binding, first_bound, plain_argument, argument_or, argument_at, first_of_two, then_less, arguments_after, segment_after, segment_at, Chain, segments_after, segments_at, segments_in, path_from, path_at, bound_from, bound_at, bounds_after, bounds_at, bounds_in, after_bounds, more_bounds, object_at, reference_at, round_at, square_at, type_from, type_step, too_deep, type_in}
use Rattle.type_grammar.proofs.Firsts.{first_as-is, as_sign-is, as_lifetime-is, sign_at-is, after_sign-is}
use Rattle.words.proofs.Laws.{bind_ok, ok_is, Shortens}
use Rattle.type_grammar.proofs.Found.{either, along, along_some, along_three, is_end-is, goes_on-is, all-is}
use Rattle.type_grammar.proofs.Optional.{is_lifetime, is_mut, is_question, is_first, is_binding}
use Rattle.type_grammar.proofs.Measures.{type_lighter, bound_lighter, segment_lighter, argument_lighter, fewer_words}

-- ---- lists
to_types : {ws rest : List Word} {us : List Written} → IsListOf (IsTypeOf Any) ws us rest → IsTypes ws us rest
to_types no_items = no_type
to_types (last_item r) = last_type r
to_types (more_items r s) = another_type r (to_types s)

to_arguments : {b : Bool} {ws rest : List Word} {xs : List Argument} → IsListOf (IsArgument b) ws xs rest → IsArguments b ws xs rest
to_arguments no_items = no_argument
to_arguments (last_item r) = last_argument r
to_arguments (more_items r s) = another_argument r (to_arguments s)

module _ {A : Type 0} (ends : List Word → Bool) (R : List Word → A → List Word → Type 0) (item : List Word → Read A) (sound : (ws : List Word) (x : A) (rest : List Word) → item ws ≡ Ok (x, rest) → R ws x rest) where
  sound_after : (again : List Word → Read (List A)) → ((mid : List Word) (xs : List A) (rest : List Word) → again mid ≡ Ok (xs, rest) → IsListOf R mid xs rest)
      → (ws : List Word) (x : A) (us : List Word) → R ws x us → (xs : List A) (rest : List Word) (o : Option (List Word)) → after_sign Comma us ≡ o → list_after again x us o ≡ Ok (xs, rest) → IsListOf R ws xs rest
  sound_after again h ws x us r xs rest None f e = along (λ v w. IsListOf R ws v w) (x ∷ []) xs us rest e (last_item r)
  sound_after again h ws x us r xs rest (Some mid) f e =
      let found = bind_ok (again mid) e in
      let tail = h mid found.0.0 found.0.1 found.1 in
      along (λ v w. IsListOf R ws v w) (x ∷ found.0.0) xs found.0.1 rest found.2 (more_items (subst (λ v. R ws x v) (after_sign-is Comma us mid f).1 r) tail)

  list_sound : (n : ℕ) (ws : List Word) (xs : List A) (rest : List Word) → list_at ends item n ws ≡ Ok (xs, rest) → IsListOf R ws xs rest
  unfolding list_at
  list_sound zero ws xs rest e = cc
  list_sound (suc n) ws xs rest e =
      elim (either (ends ws) e) [
        | inl h ↦ along (λ v w. IsListOf R ws v w) [] xs ws rest h.1 no_items
        | inr h ↦ let found = bind_ok (item ws) h.1 in
            sound_after (list_at ends item n) (list_sound n) ws found.0.0 found.0.1 (sound ws found.0.0 found.0.1 found.1) xs rest (after_sign Comma found.0.1) refl found.2
      ]

  pub until_sound : (ws : List Word) (xs : List A) (rest : List Word) → list_until ends item ws ≡ Ok (xs, rest) → IsListOf R ws xs rest
  unfolding list_until
  until_sound ws xs rest e = list_sound (suc (length ws)) ws xs rest e

-- ---- lifetimes and constants
pub plain_sound : (b : Bool) (ws : List Word) (a : Argument) (rest : List Word) → plain_argument ws ≡ Some (a, rest) → IsArgument b ws a rest
plain_sound b [] a rest e = cc
plain_sound b (name x ∷ ws) a rest e = cc
plain_sound b (underscore x ∷ ws) a rest e = cc
plain_sound b (keyword True x ∷ ws) a rest e = along_some (λ v w. IsArgument b (keyword True x ∷ ws) v w) _ a ws rest e (of_constant a_true)
plain_sound b (keyword False x ∷ ws) a rest e = along_some (λ v w. IsArgument b (keyword False x ∷ ws) v w) _ a ws rest e (of_constant a_false)
plain_sound b (keyword _ x ∷ ws) a rest e = cc
plain_sound b (sign Minus s ∷ literal t ∷ ws) a rest e = along_some (λ v w. IsArgument b (sign Minus s ∷ literal t ∷ ws) v w) _ a ws rest e (of_constant a_negative)
plain_sound b (sign Minus s ∷ []) a rest e = cc
plain_sound b (sign Minus s ∷ _ ∷ ws) a rest e = cc
plain_sound b (sign _ s ∷ ws) a rest e = cc
plain_sound b (lifetime x ∷ ws) a rest e = along_some (λ v w. IsArgument b (lifetime x ∷ ws) v w) _ a ws rest e of_lifetime
plain_sound b (literal t ∷ ws) a rest e = along_some (λ v w. IsArgument b (literal t ∷ ws) v w) _ a ws rest e (of_constant a_literal)
plain_sound b (doc t ∷ ws) a rest e = cc
plain_sound b (group Curly ts s ∷ ws) a rest e = along_some (λ v w. IsArgument b (group Curly ts s ∷ ws) v w) _ a ws rest e (of_constant a_block)
plain_sound b (group Round ts s ∷ ws) a rest e = cc
plain_sound b (group Square ts s ∷ ws) a rest e = cc

-- how a list of arguments was opened
pub opened_by : (ws mid : List Word) (o : Option (List Word)) → after_sign Less ws ≡ o → (q : Option (List Word)) → after_sign Colons ws ≡ q → first_of_two o (then_less q) ≡ Some mid
    → ((s : Span) × (ws ≡ sign Less s ∷ mid)) ⊎ ((c : Span) × (s : Span) × (ws ≡ sign Colons c ∷ sign Less s ∷ mid))
opened_by ws mid (Some us) f q g e = let same : us ≡ mid = cc in let h = after_sign-is Less ws us f in inl (h.0, h.1 ∙ ap (λ v. sign Less h.0 ∷ v) same)
opened_by ws mid None f (Some us) g e = let h = after_sign-is Colons ws us g in let k = after_sign-is Less us mid e in inr (h.0, k.0, h.1 ∙ ap (λ v. sign Colons h.0 ∷ v) k.1)
opened_by ws mid None f None g e = cc

-- ---- the first word of a type
pub reference_begins : (w : Word) → type_start w ≡ starts_reference → (at : Span) × (w ≡ sign Ampersand at)
reference_begins (sign Ampersand s) e = (s, refl)
reference_begins (sign Colons s) e = cc
reference_begins (sign _ s) e = cc
reference_begins (keyword Crate x) e = cc
reference_begins (keyword SelfValue x) e = cc
reference_begins (keyword Super x) e = cc
reference_begins (keyword SelfType x) e = cc
reference_begins (keyword Dyn x) e = cc
reference_begins (keyword _ x) e = cc
reference_begins (group Round ts s) e = cc
reference_begins (group Square ts s) e = cc
reference_begins (group Curly ts s) e = cc
reference_begins _ e = cc

pub object_begins : (w : Word) (s : Span) → type_start w ≡ starts_object s → (x : Ident) × (w ≡ keyword Dyn x) × (x.span ≡ s)
object_begins (keyword Dyn x) s e = (x, refl, cc)
object_begins (keyword Crate x) s e = cc
object_begins (keyword SelfValue x) s e = cc
object_begins (keyword Super x) s e = cc
object_begins (keyword SelfType x) s e = cc
object_begins (keyword _ x) s e = cc
object_begins (sign Ampersand at) s e = cc
object_begins (sign Colons at) s e = cc
object_begins (sign _ at) s e = cc
object_begins (group Round ts at) s e = cc
object_begins (group Square ts at) s e = cc
object_begins (group Curly ts at) s e = cc
object_begins _ s e = cc

pub round_begins : (w : Word) (g : Trees) (s : Span) → type_start w ≡ starts_round g s → w ≡ group Round g s
round_begins (group Round ts at) g s e = cc
round_begins (group Square ts at) g s e = cc
round_begins (group Curly ts at) g s e = cc
round_begins (keyword Dyn x) g s e = cc
round_begins (keyword Crate x) g s e = cc
round_begins (keyword SelfValue x) g s e = cc
round_begins (keyword Super x) g s e = cc
round_begins (keyword SelfType x) g s e = cc
round_begins (keyword _ x) g s e = cc
round_begins (sign Ampersand at) g s e = cc
round_begins (sign Colons at) g s e = cc
round_begins (sign _ at) g s e = cc
round_begins _ g s e = cc

pub square_begins : (w : Word) (g : Trees) (s : Span) → type_start w ≡ starts_square g s → w ≡ group Square g s
square_begins (group Square ts at) g s e = cc
square_begins (group Round ts at) g s e = cc
square_begins (group Curly ts at) g s e = cc
square_begins (keyword Dyn x) g s e = cc
square_begins (keyword Crate x) g s e = cc
square_begins (keyword SelfValue x) g s e = cc
square_begins (keyword Super x) g s e = cc
square_begins (keyword SelfType x) g s e = cc
square_begins (keyword _ x) g s e = cc
square_begins (sign Ampersand at) g s e = cc
square_begins (sign Colons at) g s e = cc
square_begins (sign _ at) g s e = cc
square_begins _ g s e = cc

-- ---- a type, whose parts are sound
module _ (inner : TypeReader) (sound : (b : Bounds) (ws : List Word) (t : Written) (rest : List Word) → inner b ws ≡ Ok (t, rest) → IsTypeOf b ws t rest) where
  types_sound : (ws : List Word) (us : List Written) (rest : List Word) → list_of (inner Any) ws ≡ Ok (us, rest) → IsTypes ws us rest
  types_sound ws us rest e = to_types (until_sound ends_list (IsTypeOf Any) (inner Any) (sound Any) ws us rest e)

  argument_found : (b : Bool) (ws : List Word) (a : Argument) (rest : List Word) (o : Option (Argument × List Word)) → plain_argument ws ≡ o → argument_or inner (after_binding b ws) o ≡ Ok (a, rest) → IsArgument b ws a rest
  argument_found b ws a rest (Some p) f e = along (λ v w. IsArgument b ws v w) p.0 a p.1 rest e (plain_sound b ws p.0 p.1 f)
  argument_found b ws a rest None f e =
      let found = bind_ok (inner Any (after_binding b ws)) e in
      along (λ v w. IsArgument b ws v w) (type_argument found.0.0) a found.0.1 rest found.2 (of_type (is_binding b ws) (sound Any (after_binding b ws) found.0.0 found.0.1 found.1))

  pub argument_sound : (b : Bool) (ws : List Word) (a : Argument) (rest : List Word) → argument_at b inner ws ≡ Ok (a, rest) → IsArgument b ws a rest
  unfolding argument_at
  argument_sound b ws a rest e = argument_found b ws a rest (plain_argument ws) refl e

  arguments_sound : (b : Bool) (ws : List Word) (xs : List Argument) (rest : List Word) → list_of (argument_at b inner) ws ≡ Ok (xs, rest) → IsArguments b ws xs rest
  arguments_sound b ws xs rest e = to_arguments (until_sound ends_list (IsArgument b) (argument_at b inner) (argument_sound b) ws xs rest e)

  segment_found : (b : Bool) (w : Word) (x : Ident) → as_path_word w ≡ Some x → (ws : List Word) (o : Option (List Word)) → arguments_after ws ≡ o → (s : Segment) (last : Span) (rest : List Word)
      → segment_after b inner x ws o ≡ Ok ((s, last), rest) → IsSegment b (w ∷ ws) s last rest
  segment_found b w x k ws None f s last rest e = along_three (λ v i r. IsSegment b (w ∷ ws) v i r) (plain x) s x.span last ws rest e (without_arguments k)
  segment_found b w x k ws (Some mid) f s last rest e =
      let found = bind_ok (list_of (argument_at b inner) mid) e in
      let closed = bind_ok (sign_at Greater found.0.1) found.2 in
      let listed = subst (λ v. IsArguments b mid found.0.0 v) (sign_at-is Greater found.0.1 closed.0.1 closed.0.0 closed.1) (arguments_sound b mid found.0.0 found.0.1 found.1) in
      along_three (λ v i r. IsSegment b (w ∷ ws) v i r) (applied x (arguments_of found.0.0)) s closed.0.0 last closed.0.1 rest closed.2
      (elim (opened_by ws mid (after_sign Less ws) refl (after_sign Colons ws) refl f) [
        | inl h ↦ subst (λ v. IsSegment b (w ∷ v) (applied x (arguments_of found.0.0)) closed.0.0 closed.0.1) (sym h.1) (with_arguments k listed)
        | inr h ↦ subst (λ v. IsSegment b (w ∷ v) (applied x (arguments_of found.0.0)) closed.0.0 closed.0.1) (sym h.2) (with_colons k listed)
      ])

  pub segment_sound : (b : Bool) (ws : List Word) (s : Segment) (last : Span) (rest : List Word) → segment_at b inner ws ≡ Ok ((s, last), rest) → IsSegment b ws s last rest
  unfolding segment_at
  segment_sound b ws s last rest e =
      let found = bind_ok (path_word_at ws) e in
      let first = first_as-is as_path_word ws found.0.1 found.0.0 found.1 in
      subst (λ v. IsSegment b v s last rest) (sym first.1) (segment_found b first.0 found.0.0 first.2 found.0.1 (arguments_after found.0.1) refl s last rest found.2)

  segments_found : (b : Bool) (again : List Word → Read Chain) → ((mid : List Word) (ss : List Segment) (last : Span) (rest : List Word) → again mid ≡ Ok ((ss, last), rest) → IsSegments b mid ss last rest)
      → (ws : List Word) (s : Segment) (before : Span) (us : List Word) → IsSegment b ws s before us → (ss : List Segment) (last : Span) (rest : List Word) (o : Option (List Word)) → after_sign Colons us ≡ o
      → segments_after again (s, before) us o ≡ Ok ((ss, last), rest) → IsSegments b ws ss last rest
  segments_found b again h ws s before us r ss last rest None f e = along_three (λ v i w. IsSegments b ws v i w) (s ∷ []) ss before last us rest e (last_segment r)
  segments_found b again h ws s before us r ss last rest (Some mid) f e =
      let found = bind_ok (again mid) e in
      along_three (λ v i w. IsSegments b ws v i w) (s ∷ found.0.0.0) ss found.0.0.1 last found.0.1 rest found.2
      (more_segments (subst (λ v. IsSegment b ws s before v) (after_sign-is Colons us mid f).1 r) (h mid found.0.0.0 found.0.0.1 found.0.1 found.1))

  segments_at_sound : (b : Bool) (n : ℕ) (ws : List Word) (ss : List Segment) (last : Span) (rest : List Word) → segments_at b inner n ws ≡ Ok ((ss, last), rest) → IsSegments b ws ss last rest
  unfolding segments_at
  segments_at_sound b zero ws ss last rest e = cc
  segments_at_sound b (suc n) ws ss last rest e =
      let found = bind_ok (segment_at b inner ws) e in
      segments_found b (segments_at b inner n) (segments_at_sound b n) ws found.0.0.0 found.0.0.1 found.0.1 (segment_sound b ws found.0.0.0 found.0.0.1 found.0.1 found.1) ss last rest (after_sign Colons found.0.1) refl found.2

  segments_sound : (b : Bool) (ws : List Word) (ss : List Segment) (last : Span) (rest : List Word) → segments_in b inner ws ≡ Ok ((ss, last), rest) → IsSegments b ws ss last rest
  unfolding segments_in
  segments_sound b ws ss last rest e = segments_at_sound b (suc (length ws)) ws ss last rest e

  path_found : (b : Bool) (w : Word) (ws : List Word) (p : WrittenPath) (rest : List Word) (o : Option Span) → as_sign Colons w ≡ o → path_from b inner w ws o ≡ Ok (p, rest) → IsPath b (w ∷ ws) p rest
  path_found b w ws p rest None f e =
      let found = bind_ok (segments_in b inner (w ∷ ws)) e in
      along (λ v r. IsPath b (w ∷ ws) v r) (path_of false (segments_of found.0.0.0) (cover (start_of w) found.0.0.1)) p found.0.1 rest found.2 (from_here (segments_sound b (w ∷ ws) found.0.0.0 found.0.0.1 found.0.1 found.1))
  path_found b w ws p rest (Some s) f e =
      let found = bind_ok (segments_in b inner ws) e in
      along (λ v r. IsPath b (w ∷ ws) v r) (path_of true (segments_of found.0.0.0) (cover s found.0.0.1)) p found.0.1 rest found.2
      (subst (λ v. IsPath b (v ∷ ws) (path_of true (segments_of found.0.0.0) (cover s found.0.0.1)) found.0.1) (sym (as_sign-is Colons w s f)) (from_root (segments_sound b ws found.0.0.0 found.0.0.1 found.0.1 found.1)))

  pub path_sound : (b : Bool) (ws : List Word) (p : WrittenPath) (rest : List Word) → path_at b inner ws ≡ Ok (p, rest) → IsPath b ws p rest
  unfolding path_at
  path_sound b [] p rest e = cc
  path_sound b (w ∷ ws) p rest e = path_found b w ws p rest (as_sign Colons w) refl e

  bound_found : (w : Word) (ws : List Word) (at : Span) (rest : List Word) (o : Option Ident) → as_lifetime w ≡ o → bound_from inner (w ∷ ws) o w ws ≡ Ok (at, rest) → IsBound (w ∷ ws) at rest
  bound_found w ws at rest (Some x) f e = subst (λ v. IsBound (v ∷ ws) at rest) (sym (as_lifetime-is w x f)) (along (λ v r. IsBound (lifetime x ∷ ws) v r) x.span at ws rest e a_lifetime_bound)
  bound_found w ws at rest None f e =
      let found = bind_ok (path_at true inner (without (as_sign Question) (w ∷ ws))) e in
      along (λ v r. IsBound (w ∷ ws) v r) (span_of found.0.0) at found.0.1 rest found.2 (a_path_bound (is_question (w ∷ ws)) (path_sound true (without (as_sign Question) (w ∷ ws)) found.0.0 found.0.1 found.1))

  pub bound_sound : (ws : List Word) (at : Span) (rest : List Word) → bound_at inner ws ≡ Ok (at, rest) → IsBound ws at rest
  unfolding bound_at
  bound_sound [] at rest e = cc
  bound_sound (w ∷ ws) at rest e = bound_found w ws at rest (as_lifetime w) refl e

  bounds_found : (again : Span → List Word → Read Span) → ((before : Span) (us : List Word) (last : Span) (rest : List Word) → again before us ≡ Ok (last, rest) → MoreBounds Any before us last rest)
      → (before : Span) (ws : List Word) (last : Span) (rest : List Word) (o : Option (List Word)) → after_sign Plus ws ≡ o → bounds_after inner again before ws o ≡ Ok (last, rest) → MoreBounds Any before ws last rest
  bounds_found again h before ws last rest None f e = along (λ v r. MoreBounds Any before ws v r) before last ws rest e no_more_bounds
  bounds_found again h before ws last rest (Some mid) f e =
      let found = bind_ok (bound_at inner mid) e in
      let plus = after_sign-is Plus ws mid f in
      subst (λ v. MoreBounds Any before v last rest) (sym plus.1) (one_more_bound (bound_sound mid found.0.0 found.0.1 found.1) (h found.0.0 found.0.1 last rest found.2))

  bounds_at_sound : (n : ℕ) (before : Span) (ws : List Word) (last : Span) (rest : List Word) → bounds_at inner n before ws ≡ Ok (last, rest) → MoreBounds Any before ws last rest
  unfolding bounds_at
  bounds_at_sound zero before ws last rest e = cc
  bounds_at_sound (suc n) before ws last rest e = bounds_found (bounds_at inner n) (bounds_at_sound n) before ws last rest (after_sign Plus ws) refl e

  more_sound : (b : Bounds) (before : Span) (ws : List Word) (last : Span) (rest : List Word) → more_bounds b inner before ws ≡ Ok (last, rest) → MoreBounds b before ws last rest
  unfolding bounds_in
  more_sound One before ws last rest e = along (λ v r. MoreBounds One before ws v r) before last ws rest e no_more_bounds
  more_sound Any before ws last rest e = bounds_at_sound (suc (length ws)) before ws last rest e

  begun_bounds : (w : Word) (ws rest : List Word) (b : Bool) → cond b (bound_at inner (w ∷ ws) >>= λ b. bounds_in inner b.0 b.1 >>= λ e. Ok e.1) (Ok (w ∷ ws)) ≡ Ok rest → IsBounds (w ∷ ws) rest
  begun_bounds w ws rest false e = subst (λ v. IsBounds (w ∷ ws) v) (ok_is e) no_bounds
  begun_bounds w ws rest true e =
      let first = bind_ok (bound_at inner (w ∷ ws)) e in
      let others = bind_ok (bounds_in inner first.0.0 first.0.1) first.2 in
      subst (λ v. IsBounds (w ∷ ws) v) (ok_is others.2)
      (some_bounds (bound_sound (w ∷ ws) first.0.0 first.0.1 first.1) (more_sound Any first.0.0 first.0.1 others.0.0 others.0.1 others.1))

  pub bounds_sound : (ws rest : List Word) → after_bounds inner ws ≡ Ok rest → IsBounds ws rest
  unfolding after_bounds
  bounds_sound [] rest e = subst (λ v. IsBounds [] v) (ok_is e) no_bounds
  bounds_sound (w ∷ ws) rest e = begun_bounds w ws rest (begins_bound w) e

  object_sound : (b : Bounds) (x : Ident) (ws : List Word) (t : Written) (rest : List Word) → object_at b inner x.span ws ≡ Ok (t, rest) → IsTypeOf b (keyword Dyn x ∷ ws) t rest
  unfolding object_at
  object_sound b x ws t rest e =
      let found = bind_ok (path_at false inner (first_bound b ws)) e in
      let more = bind_ok (more_bounds b inner (span_of found.0.0) found.0.1) found.2 in
      let before = is_first b ws in
      along (λ v r. IsTypeOf b (keyword Dyn x ∷ ws) v r) (trait_object found.0.0 (cover x.span more.0.0)) t more.0.1 rest more.2
      (object before.1 before.2 (path_sound false (first_bound b ws) found.0.0 found.0.1 found.1) (more_sound b (span_of found.0.0) found.0.1 more.0.0 more.0.1 more.1))

  reference_sound : (b : Bounds) (at : Span) (ws : List Word) (t : Written) (rest : List Word) → reference_at inner ws ≡ Ok (t, rest) → IsTypeOf b (sign Ampersand at ∷ ws) t rest
  unfolding reference_at
  reference_sound b at ws t rest e =
      let us = without as_lifetime ws in
      let vs = without (as_keyword Mut) us in
      let found = bind_ok (inner One vs) e in
      along (λ v r. IsTypeOf b (sign Ampersand at ∷ ws) v r) (reference found.0.0) t found.0.1 rest found.2 (referred (is_lifetime ws) (is_mut us) (sound One vs found.0.0 found.0.1 found.1))

  no_trees : (g : Trees) → words_of g ≡ [] → g ≡ end
  no_trees end e = refl
  no_trees (t ▸ ts) e = cc

  round_sound : (b : Bounds) (g : Trees) (s : Span) (t : Written) (rest : List Word) → round_at inner s (words_of g) ≡ Ok t → IsTypeOf b (group Round g s ∷ rest) t rest
  unfolding round_at
  round_sound b g s t rest e =
      elim (either (is_end (words_of g)) e) [
        | inl h ↦ let same : tuple no_types s ≡ t = cc in
            subst (λ v. IsTypeOf b (group Round g s ∷ rest) v rest) same (subst (λ v. IsTypeOf b (group Round v s ∷ rest) (tuple no_types s) rest) (sym (no_trees g (is_end-is (words_of g) h.0))) unit)
        | inr h ↦ let found = bind_ok (inner Any (words_of g)) h.1 in
            let first = sound Any (words_of g) found.0.0 found.0.1 found.1 in
            elim (either (is_end found.0.1) found.2) [
              | inl k ↦ let same : found.0.0 ≡ t = cc in
                  subst (λ v. IsTypeOf b (group Round g s ∷ rest) v rest) same (wrapped (subst (λ v. IsTypeOf Any (words_of g) found.0.0 v) (is_end-is found.0.1 k.0) first))
              | inr k ↦ let mid = bind_ok (sign_at Comma found.0.1) k.1 in
                  let listed = bind_ok (all (list_of (inner Any) mid.0.1)) mid.2 in
                  let tail = types_sound mid.0.1 listed.0 [] (all-is (list_of (inner Any) mid.0.1) listed.0 listed.1) in
                  let same : tuple (more_types found.0.0 (writtens_of listed.0)) s ≡ t = cc in
                  subst (λ v. IsTypeOf b (group Round g s ∷ rest) v rest) same (several (subst (λ v. IsTypeOf Any (words_of g) found.0.0 v) (sign_at-is Comma found.0.1 mid.0.1 mid.0.0 mid.1) first) tail)
            ]
      ]

  square_sound : (b : Bounds) (g : Trees) (s : Span) (t : Written) (rest : List Word) → square_at inner s (words_of g) ≡ Ok t → IsTypeOf b (group Square g s ∷ rest) t rest
  unfolding square_at
  square_sound b g s t rest e =
      let found = bind_ok (inner Any (words_of g)) e in
      let first = sound Any (words_of g) found.0.0 found.0.1 found.1 in
      elim (either (is_end found.0.1) found.2) [
        | inl k ↦ let same : slice found.0.0 s ≡ t = cc in
            subst (λ v. IsTypeOf b (group Square g s ∷ rest) v rest) same (sliced (subst (λ v. IsTypeOf Any (words_of g) found.0.0 v) (is_end-is found.0.1 k.0) first))
        | inr k ↦ let mid = bind_ok (sign_at Semicolon found.0.1) k.1 in
            elim (either (is_end mid.0.1) mid.2) [
              | inl z ↦ cc
              | inr z ↦ let same : array found.0.0 s ≡ t = cc in
                  let more = goes_on-is mid.0.1 z.0 in
                  subst (λ v. IsTypeOf b (group Square g s ∷ rest) v rest) same
                  (arrayed (subst (λ v. IsTypeOf Any (words_of g) found.0.0 v) (sign_at-is Semicolon found.0.1 mid.0.1 mid.0.0 mid.1 ∙ ap (λ v. sign Semicolon mid.0.0 ∷ v) more.2) first))
            ]
      ]

  begun : (b : Bounds) (w : Word) (ws : List Word) (t : Written) (rest : List Word) (s : TypeStart) → type_start w ≡ s → type_from b inner w ws s ≡ Ok (t, rest) → IsTypeOf b (w ∷ ws) t rest
  begun b w ws t rest starts_path f e =
      let found = bind_ok (path_at false inner (w ∷ ws)) e in along (λ v r. IsTypeOf b (w ∷ ws) v r) (path found.0.0) t found.0.1 rest found.2 (pathed (path_sound false (w ∷ ws) found.0.0 found.0.1 found.1))
  begun b w ws t rest starts_reference f e = let h = reference_begins w f in subst (λ v. IsTypeOf b (v ∷ ws) t rest) (sym h.1) (reference_sound b h.0 ws t rest e)
  begun b w ws t rest (starts_object s) f e =
      let h = object_begins w s f in subst (λ v. IsTypeOf b (v ∷ ws) t rest) (sym h.1) (object_sound b h.0 ws t rest (ap (λ v. object_at b inner v ws) h.2 ∙ e))
  begun b w ws t rest (starts_round g s) f e =
      let found = bind_ok (round_at inner s (words_of g)) e in
      subst (λ v. IsTypeOf b (v ∷ ws) t rest) (sym (round_begins w g s f)) (along (λ v r. IsTypeOf b (group Round g s ∷ ws) v r) found.0 t ws rest found.2 (round_sound b g s found.0 ws found.1))
  begun b w ws t rest (starts_square g s) f e =
      let found = bind_ok (square_at inner s (words_of g)) e in
      subst (λ v. IsTypeOf b (v ∷ ws) t rest) (sym (square_begins w g s f)) (along (λ v r. IsTypeOf b (group Square g s ∷ ws) v r) found.0 t ws rest found.2 (square_sound b g s found.0 ws found.1))
  begun b w ws t rest starts_no_type f e = cc

  step_sound : (b : Bounds) (ws : List Word) (t : Written) (rest : List Word) → type_step b inner ws ≡ Ok (t, rest) → IsTypeOf b ws t rest
  unfolding type_step
  step_sound b [] t rest e = cc
  step_sound b (w ∷ ws) t rest e = begun b w ws t rest (type_start w) refl e

deep_not_read : (ws : List Word) (t : Written) (rest : List Word) → too_deep ws ≡ Ok (t, rest) → ⊥
deep_not_read [] t rest e = cc
deep_not_read (w ∷ ws) t rest e = elim (either (begins_type w) e) [ inl h ↦ cc | inr h ↦ cc ]

pub type_sound : (n : ℕ) (b : Bounds) (ws : List Word) (t : Written) (rest : List Word) → type_in n b ws ≡ Ok (t, rest) → IsTypeOf b ws t rest
unfolding type_in
type_sound zero b ws t rest e = absurd (deep_not_read ws t rest e)
type_sound (suc n) b ws t rest e = step_sound (type_in n) (type_sound n) b ws t rest e

pub type_shortens : (n : ℕ) (b : Bounds) → Shortens (type_in n b)
type_shortens n b ws t rest e = fewer_words ws rest (type_lighter (λ w. 0) (type_sound n b ws t rest e))

pub argument_shortens : (n : ℕ) (b : Bool) → Shortens (argument_at b (type_in n))
argument_shortens n b ws a rest e = fewer_words ws rest (argument_lighter (λ w. 0) (argument_sound (type_in n) (type_sound n) b ws a rest e))

pub segment_shortens : (n : ℕ) (b : Bool) → Shortens (segment_at b (type_in n))
segment_shortens n b ws s rest e = fewer_words ws rest (segment_lighter (λ w. 0) (segment_sound (type_in n) (type_sound n) b ws s.0 s.1 rest e))

pub bound_shortens : (n : ℕ) → Shortens (bound_at (type_in n))
bound_shortens n ws at rest e = fewer_words ws rest (bound_lighter (λ w. 0) (bound_sound (type_in n) (type_sound n) ws at rest e))
