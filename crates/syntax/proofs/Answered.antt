-- What the public readers ensure, from what was read.
use Rattle.std.proofs.Common.{◌≡◌, ◌∙◌, ℕ, ◌<◌, ◌≤◌, arith, ◌⊎◌, inl, inr, List, length, sym, subst, Result, Ok, Err}
use Rattle.texts.specs.declared.span.Span.{Span}
use Rattle.diag.specs.declared.error.DeriveError.{DeriveError}
use Rattle.diag.specs.declared.error.DeriveError.TheVariants as errors
use Rattle.tokens.specs.Trees.{Trees, depth}
use Rattle.lexing.specs.Cut.{IsCut, OpensTooDeep, IsDepthError, IsSyntaxError, most_open}
use Rattle.written_types.specs.Written.{Written}
use Rattle.words.specs.declared.stopping.Stop.{Stop}
use Rattle.words.specs.declared.stopping.Stop.TheVariants as stop
use Rattle.words.specs.Words.{Word, words_of}
use Rattle.words.specs.Reading.{Fault, deep, wrong, Read, Fails}
use Rattle.type_grammar.specs.Reading.{type_at, type_in, after_bounds}
use Rattle.type_grammar.specs.Source.{IsRefusalOf}
use Rattle.syntax.specs.Items.{DeclaredItem}
use Rattle.syntax.specs.ItemDepth.{within_levels, OpensSource}
use Rattle.syntax.specs.ItemGrammar.{IsSource}
use Rattle.syntax.specs.ItemReading.{source_at}
use Rattle.syntax.specs.Source.{Reads, NestsTooDeep, IsUnreadable, IsTooDeep}
use Rattle.type_grammar.proofs.Laws.{bounds_complete, read_passes}
use Rattle.syntax.specs.GenericReading.{Readers}
use Rattle.syntax.proofs.Types.{type_sound, type_complete, deep_enough, bounds_sound, bounds_deep_enough}
use Rattle.syntax.proofs.SoundGenerics.{AreSound}
use Rattle.syntax.proofs.CompleteGenerics.{AreComplete}
use Rattle.syntax.proofs.Sound.{source_sound}
use Rattle.syntax.proofs.DeepGenerics.{anywhere, sound, found as reads_found}
use Rattle.syntax.proofs.Deep.{source_agrees}
use Rattle.syntax.proofs.Complete as complete

-- a source has at most one list of trees
abbrev OneCut : Type 0
OneCut = (source : List ℕ) (ts us : Trees) → IsCut source ts → IsCut source us → ts ≡ us

-- where a bracket opens too deep, trees nest deeper
abbrev DeepNest : Type 0
DeepNest = (source : List ℕ) (ts : Trees) (at : Span) → IsCut source ts → OpensTooDeep source at → 64 < depth ts

-- ---- one source
-- readers that find nothing too deep
unbounded_type : List Word → Read Written
unbounded_type ws = type_at (deep_enough ws).0 ws

after_unbounded : List Word → Result (List Word) Fault
after_unbounded ws = after_bounds (type_in (bounds_deep_enough ws).0) ws

abbrev unbounded : Readers
unbounded = record { ty = unbounded_type; after_bounds = after_unbounded }

unbounded_sound : AreSound unbounded
unfolding unbounded_type after_unbounded
unbounded_sound = record {
  types = λ ws t rest e. type_sound (deep_enough ws).0 ws t rest e;
  bounds = λ ws rest e. bounds_sound (bounds_deep_enough ws).0 ws rest e;
}

abbrev nowhere : Span → Type 0
nowhere at = ⊥

unbounded_found : AreComplete nowhere unbounded
unfolding unbounded_type after_unbounded
unbounded_found = record {
  types = λ ws rest t r stops. elim (type_complete r stops (deep_enough ws).0) [ inl e ↦ inl e | inr d ↦ absurd ((deep_enough ws).1 d.0 d.1) ];
  bounds = λ ws rest b stops. elim (bounds_complete b stops (bounds_deep_enough ws).0) [ inl e ↦ inl e | inr d ↦ absurd ((bounds_deep_enough ws).1 d.0 d.1) ];
}

read_unbounded : {ws : List Word} {ds : List DeclaredItem} → IsSource ws ds → source_at unbounded ws ≡ Ok ds
read_unbounded r = elim (complete.source_complete unbounded unbounded_sound nowhere unbounded_found r) [
  | inl e ↦ e
  | inr d ↦ absurd d.2
]

one_source : {ws : List Word} {ds es : List DeclaredItem} → IsSource ws ds → IsSource ws es → ds ≡ es
one_source {ds = ds} {es = es} r s = let same : ◌≡◌ {A = Result (List DeclaredItem) Fault} (Ok ds) (Ok es) = sym (read_unbounded r) ∙ read_unbounded s in cc

pub one : OneCut → (source : List ℕ) (ds es : List DeclaredItem) → Reads source ds → Reads source es → ds ≡ es
one unique source ds es r s = one_source (subst (λ v. IsSource (words_of v) ds) (unique source r.0 s.0 r.1 s.1) r.2) s.2

-- ---- what was read
pub found : (source : List ℕ) (ts : Trees) (ds : List DeclaredItem) → IsCut source ts → source_at within_levels (words_of ts) ≡ Ok ds → Reads source ds
found source ts ds cut e = (ts, cut, source_sound within_levels sound (words_of ts) ds e)

pub shallow : OneCut → DeepNest → (source : List ℕ) (ts : Trees) (ds : List DeclaredItem) (at : Span) → IsCut source ts → depth ts ≤ 64 → source_at within_levels (words_of ts) ≡ Ok ds → NestsTooDeep source at → ⊥
shallow unique deeper source ts ds at cut low e (inl o) = let h = deeper source ts at cut o in absurd (omega arith)
shallow unique deeper source ts ds at cut low e (inr h) = read_passes source_agrees (words_of ts) ds e at (subst (λ v. OpensSource (words_of v) at) (unique source h.0 ts h.1 cut) h.3)

-- ---- what was not read
-- where the source has no trees, it has no reading
pub passed_on : (source : List ℕ) (e : DeriveError) → (e ≡ errors.Memory) ⊎ IsDepthError source e ⊎ IsSyntaxError source e → (e ≡ errors.Memory) ⊎ IsTooDeep source e ⊎ IsUnreadable source e
passed_on source e (inl h) = inl h
passed_on source e (inr (inl h)) = inr (inl (h.0, h.1, inl h.2))
passed_on source e (inr (inr h)) = inr (inr (h.0, h.1, h.2.0, λ ds r. h.2.1 r.0 r.1))

no_reading : OneCut → (source : List ℕ) (ts : Trees) → IsCut source ts → source_at within_levels (words_of ts) ≡ Err wrong → (ds : List DeclaredItem) → Reads source ds → ⊥
no_reading unique source ts cut e ds r =
    let read = complete.source_complete within_levels sound anywhere reads_found (subst (λ v. IsSource (words_of v) ds) (unique source r.0 ts r.1 cut) r.2) in
    elim read [
      | inl is ↦ let both : ◌≡◌ {A = Result (List DeclaredItem) Fault} (Ok ds) (Err wrong) = sym is ∙ e in cc
      | inr d ↦ let both : ◌≡◌ {A = Result (List DeclaredItem) Fault} (Err (deep d.0)) (Err wrong) = sym d.1 ∙ e in cc
    ]

pub unread : OneCut → (source : List ℕ) (ts : Trees) (s : Stop) (e : DeriveError) → IsCut source ts → depth ts ≤ most_open → Fails s (source_at within_levels (words_of ts)) → IsRefusalOf s (length source) e → (e ≡ errors.Memory) ⊎ IsTooDeep source e ⊎ IsUnreadable source e
unread unique source ts stop.Memory e cut low f h = inl h
unread unique source ts stop.Ended e cut low f (inl h) = inl h
unread unique source ts stop.Ended e cut low f (inr h) = inr (inr (h.0, h.1, h.2, no_reading unique source ts cut f))
unread unique source ts (stop.Unexpected at) e cut low f (inl h) = inl h
unread unique source ts (stop.Unexpected at) e cut low f (inr h) = inr (inr (h.0, h.1, h.2, no_reading unique source ts cut f))
unread unique source ts (stop.Deep at) e cut low f (inl h) = inl h
unread unique source ts (stop.Deep at) e cut low f (inr h) = inr (inl (at, h, inr (ts, cut, low, (source_agrees (words_of ts) at).0 f)))
