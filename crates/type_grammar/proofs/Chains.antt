-- The readers of segments and of bounds, turn by turn.
use Rattle.std.proofs.Common.{◌≡◌, ℕ, zero, suc, ◌<◌, List, [], ◌∷◌, ◌++◌, length, refl, ap, sym, ◌∙◌, arith, Bool, true, Option, Some, None, Ok, Err, append_assoc}
use Rattle.texts.specs.declared.span.Span.{Span}
use Rattle.written_types.specs.Written.{Segment}
use Rattle.words.specs.declared.vocabulary.Sign.TheVariants.{Colons, Plus, Question}
use Rattle.words.specs.declared.stopping.Stop.{Stop}
use Rattle.words.specs.declared.stopping.Stop.TheVariants as stop
use Rattle.words.specs.Words.{Word}
use Rattle.words.specs.Reading.{Read, deep, wrong, ◌>>=◌, Fails, as_lifetime, as_sign, lifetime_at}
use Rattle.type_grammar.specs.Starts.{span_of}
use Rattle.type_grammar.specs.Reading.{TypeReader, after_sign, without, path_at, bound_from, Chain, segment_at, segments_after, segments_step, segments_at, segments_in, bound_at, bounds_after, bounds_at, bounds_in, with_segments}
use Rattle.type_grammar.proofs.Firsts.{after_sign-shorter, taken-not}
use Rattle.words.proofs.Laws.{Shortens}

front_front : (front : List Segment) (s : Segment) (r : Read Chain) → with_segments (front ++ s ∷ []) r ≡ with_segments front (r >>= λ p. Ok ((s ∷ p.0.0, p.0.1), p.1))
front_front front s (Ok p) = ap (λ v. Ok ((v, p.0.1), p.1)) (append_assoc front (s ∷ []) p.0.0)
front_front front s (Err k) = refl

module _ (bindings : Bool) (inner : TypeReader) (shortens : Shortens (segment_at bindings inner)) where
  same_after : (again other : List Word → Read Chain) (s : Segment × Span) (us : List Word) (o : Option (List Word)) → ((mid : List Word) → o ≡ Some mid → again mid ≡ other mid) → segments_after again s us o ≡ segments_after other s us o
  same_after again other s us None h = refl
  same_after again other s us (Some mid) h = ap (λ r. r >>= λ p. Ok ((s.0 ∷ p.0.0, p.0.1), p.1)) (h mid refl)

  same_step : (again other : List Word → Read Chain) (ws : List Word) (r : Read (Segment × Span)) → segment_at bindings inner ws ≡ r → ((mid : List Word) → length mid < length ws → again mid ≡ other mid)
      → (r >>= λ p. segments_after again p.0 p.1 (after_sign Colons p.1)) ≡ (r >>= λ p. segments_after other p.0 p.1 (after_sign Colons p.1))
  same_step again other ws (Ok p) e h =
      same_after again other p.0 p.1 (after_sign Colons p.1)
      (λ mid found. let less : length mid < length p.1 = after_sign-shorter Colons p.1 mid found in let fewer : length p.1 < length ws = shortens ws p.0 p.1 e in h mid (omega arith))
  same_step again other ws (Err k) e h = refl

  enough : (n m : ℕ) (ws : List Word) → length ws < n → length ws < m → segments_at bindings inner n ws ≡ segments_at bindings inner m ws
  unfolding segments_at
  enough zero m ws a b = absurd (omega arith)
  enough (suc n) zero ws a b = absurd (omega arith)
  enough (suc n) (suc m) ws a b = same_step (segments_at bindings inner n) (segments_at bindings inner m) ws (segment_at bindings inner ws) refl (λ mid less. enough n m mid (omega arith) (omega arith))

  pub segments_in_step : (ws : List Word) → segments_in bindings inner ws ≡ segments_step bindings inner (segments_in bindings inner) ws
  unfolding segments_in segments_at
  segments_in_step ws = same_step (segments_at bindings inner (length ws)) (segments_in bindings inner) ws (segment_at bindings inner ws) refl (λ mid less. enough (length ws) (suc (length mid)) mid less (omega arith))

  module _ (start : List Word) (front : List Segment) (ws : List Word) (so_far : with_segments front (segments_in bindings inner ws) ≡ segments_in bindings inner start) where
    turn : (r : Read (Segment × Span)) → segment_at bindings inner ws ≡ r → segments_in bindings inner start ≡ with_segments front (r >>= λ p. segments_after (segments_in bindings inner) p.0 p.1 (after_sign Colons p.1))
    turn r f =
        sym so_far ∙ ap (with_segments front) (segments_in_step ws) ∙ ap (λ v. with_segments front (v >>= λ p. segments_after (segments_in bindings inner) p.0 p.1 (after_sign Colons p.1))) f

    pub segments_fail : (e : Stop) → Fails e (segment_at bindings inner ws) → Fails e (segments_in bindings inner start)
    segments_fail stop.Memory f = tt
    segments_fail (stop.Deep at) f = turn (Err (deep at)) f
    segments_fail (stop.Unexpected at) f = turn (Err wrong) f
    segments_fail stop.Ended f = turn (Err wrong) f

    pub segments_last : (s : Segment) (last : Span) (us : List Word) → segment_at bindings inner ws ≡ Ok ((s, last), us) → after_sign Colons us ≡ None → segments_in bindings inner start ≡ Ok ((front ++ s ∷ [], last), us)
    segments_last s last us f g = turn (Ok ((s, last), us)) f ∙ ap (λ o. with_segments front (segments_after (segments_in bindings inner) (s, last) us o)) g

    pub segments_turn : (s : Segment) (last : Span) (us mid : List Word) → segment_at bindings inner ws ≡ Ok ((s, last), us) → after_sign Colons us ≡ Some mid
        → with_segments (front ++ s ∷ []) (segments_in bindings inner mid) ≡ segments_in bindings inner start
    segments_turn s last us mid f g =
        front_front front s (segments_in bindings inner mid) ∙ sym (turn (Ok ((s, last), us)) f ∙ ap (λ o. with_segments front (segments_after (segments_in bindings inner) (s, last) us o)) g)

module _ (inner : TypeReader) (shortens : Shortens (bound_at inner)) where
  same_bound : (again other : Span → List Word → Read Span) (ws mid : List Word) (r : Read Span) → bound_at inner mid ≡ r → length mid < length ws → ((at : Span) (us : List Word) → length us < length ws → again at us ≡ other at us)
      → (r >>= λ b. again b.0 b.1) ≡ (r >>= λ b. other b.0 b.1)
  same_bound again other ws mid (Ok b) e less h = let fewer : length b.1 < length mid = shortens mid b.0 b.1 e in h b.0 b.1 (omega arith)
  same_bound again other ws mid (Err k) e less h = refl

  same_bounds : (again other : Span → List Word → Read Span) (last : Span) (ws : List Word) (o : Option (List Word)) → after_sign Plus ws ≡ o → ((at : Span) (us : List Word) → length us < length ws → again at us ≡ other at us)
      → bounds_after inner again last ws o ≡ bounds_after inner other last ws o
  same_bounds again other last ws None e h = refl
  same_bounds again other last ws (Some mid) e h = same_bound again other ws mid (bound_at inner mid) refl (after_sign-shorter Plus ws mid e) h

  enough_bounds : (n m : ℕ) (last : Span) (ws : List Word) → length ws < n → length ws < m → bounds_at inner n last ws ≡ bounds_at inner m last ws
  unfolding bounds_at
  enough_bounds zero m last ws a b = absurd (omega arith)
  enough_bounds (suc n) zero last ws a b = absurd (omega arith)
  enough_bounds (suc n) (suc m) last ws a b = same_bounds (bounds_at inner n) (bounds_at inner m) last ws (after_sign Plus ws) refl (λ at us less. enough_bounds n m at us (omega arith) (omega arith))

  pub bounds_in_step : (last : Span) (ws : List Word) → bounds_in inner last ws ≡ bounds_after inner (bounds_in inner) last ws (after_sign Plus ws)
  unfolding bounds_in bounds_at
  bounds_in_step last ws = same_bounds (bounds_at inner (length ws)) (bounds_in inner) last ws (after_sign Plus ws) refl (λ at us less. enough_bounds (length ws) (suc (length us)) at us less (omega arith))

  module _ (last : Span) (ws : List Word) where
    pub bounds_done : after_sign Plus ws ≡ None → bounds_in inner last ws ≡ Ok (last, ws)
    bounds_done e = bounds_in_step last ws ∙ ap (bounds_after inner (bounds_in inner) last ws) e

    pub bounds_turn : (mid : List Word) (r : Read Span) → after_sign Plus ws ≡ Some mid → bound_at inner mid ≡ r → bounds_in inner last ws ≡ (r >>= λ b. bounds_in inner b.0 b.1)
    bounds_turn mid r e f = bounds_in_step last ws ∙ ap (bounds_after inner (bounds_in inner) last ws) e ∙ ap (λ v. v >>= λ b. bounds_in inner b.0 b.1) f

    pub bounds_fail : (mid : List Word) (e : Stop) → after_sign Plus ws ≡ Some mid → Fails e (bound_at inner mid) → Fails e (bounds_in inner last ws)
    bounds_fail mid stop.Memory g f = tt
    bounds_fail mid (stop.Deep at) g f = bounds_turn mid (Err (deep at)) g f
    bounds_fail mid (stop.Unexpected at) g f = bounds_turn mid (Err wrong) g f
    bounds_fail mid stop.Ended g f = bounds_turn mid (Err wrong) g f

pub bound_else : (inner : TypeReader) (ws : List Word) → lifetime_at ws ≡ Err wrong → bound_at inner ws ≡ (path_at true inner (without (as_sign Question) ws) >>= λ p. Ok (span_of p.0, p.1))
unfolding bound_at path_at
bound_else inner [] e = refl
bound_else inner (w ∷ ws) e = ap (λ o. bound_from inner (w ∷ ws) o w ws) (taken-not (as_lifetime w) ws e)
