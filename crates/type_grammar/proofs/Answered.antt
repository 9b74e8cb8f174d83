-- What the public reader ensures, from what it returned.
use Rattle.std.proofs.Common.{◌≡◌, inl, inr, List, [], refl, ap, sym, subst, ◌∙◌, Ok, Err, Result, IfOk}
use Rattle.texts.specs.declared.span.Span.{Span}
use Rattle.written_types.specs.declared.written.WrittenType.{WrittenType}
use Rattle.written_types.specs.Written.{Written, written_view}
use Rattle.words.specs.declared.stopping.Stop.{Stop}
use Rattle.words.specs.declared.stopping.Stop.TheVariants as stop
use Rattle.words.specs.Words.{Word}
use Rattle.words.specs.Reading.{Read, Fault, deep, wrong, Gives, IsWrong}
use Rattle.type_grammar.specs.declared.starts.Bounds.TheVariants.{Any}
use Rattle.type_grammar.specs.Grammar.{IsType}
use Rattle.type_grammar.specs.Opening.{OpensType}
use Rattle.type_grammar.specs.Reading.{all, type_at}
use Rattle.type_grammar.proofs.Found.{all-is}
use Rattle.type_grammar.proofs.Sound.{type_sound}
use Rattle.type_grammar.proofs.Complete.{Reaches, type_complete}
use Rattle.type_grammar.proofs.Deep.{read_passes, all_deep, type_agrees}

module _ (ws : List Word) where
  pub found : (r : Result WrittenType Stop) → Gives written_view r (all (type_at 64 ws)) → IfOk r (λ t. IsType ws (written_view t) [])
  found (Ok t) e = type_sound 64 Any ws (written_view t) [] (all-is (type_at 64 ws) (written_view t) e)
  found (Err k) e = tt

  pub shallow : (r : Result WrittenType Stop) → Gives written_view r (all (type_at 64 ws)) → IfOk r (λ _. (at : Span) → OpensType 64 ws at → ⊥)
  shallow (Ok t) e = read_passes (type_agrees 64 Any) ws (written_view t, []) (all-is (type_at 64 ws) (written_view t) e)
  shallow (Err k) e = tt

  pub is_deep : (r : Result WrittenType Stop) → Gives written_view r (all (type_at 64 ws)) → (at : Span) → r ≡ Err (stop.Deep at) → OpensType 64 ws at
  is_deep (Ok t) e at h = cc
  is_deep (Err stop.Memory) e at h = cc
  is_deep (Err stop.Ended) e at h = cc
  is_deep (Err (stop.Unexpected s)) e at h = cc
  is_deep (Err (stop.Deep s)) e at h = let same : s ≡ at = cc in (type_agrees 64 Any ws at).0 (all_deep (type_at 64 ws) at (e ∙ ap (λ v. Err (deep v)) same))

  all_reaches : (r : Read Written) (t : Written) → Reaches r (t, []) → all r ≡ Err wrong → ⊥
  all_reaches r t (inl h) e = let same : all r ≡ Ok t = ap all h in cc
  all_reaches r t (inr h) e = let same : all r ≡ Err (deep h.0) = ap all h.1 in let other : ◌≡◌ {A = Result Written Fault} (Err (deep h.0)) (Err wrong) = sym same ∙ e in cc

  no_type : (t : Written) → IsType ws t [] → all (type_at 64 ws) ≡ Err wrong → ⊥
  no_type t s e = all_reaches (type_at 64 ws) t (type_complete s refl 64) e

  pub no_other : (r : Result WrittenType Stop) → Gives written_view r (all (type_at 64 ws)) → (s : Stop) → r ≡ Err s → IsWrong s → (t : Written) → IsType ws t [] → ⊥
  no_other (Ok t) e s h w u k = cc
  no_other (Err stop.Memory) e s h w u k = let same : s ≡ stop.Memory = cc in absurd (subst IsWrong same w)
  no_other (Err (stop.Deep at)) e s h w u k = let same : s ≡ stop.Deep at = cc in absurd (subst IsWrong same w)
  no_other (Err stop.Ended) e s h w u k = no_type u k e
  no_other (Err (stop.Unexpected at)) e s h w u k = no_type u k e
