-- A sample is sound.
use Rattle.std.proofs.Common.{◌≡◌, ◌∙◌, ℕ, ◌<◌, ◌≤◌, List, inl, inr, refl, sym, subst, arith, IsSome, Ok, false}
use Rattle.std.proofs.lemmas.List.FromFn.{length-map-range_with_len}
use Rattle.std.proofs.lemmas.Option.{same_Some}
use Rattle.diag.specs.Refusal.{RefusesNone}
use Rattle.texts.specs.declared.span.Span.{Span}
use Rattle.texts.specs.Names.{IsDistinct}
use Rattle.tokens.specs.Trees.{Trees, depth}
use Rattle.lexing.specs.Cut.{IsCut, most_open}
use Rattle.words.specs.Words.{words_of}
use Rattle.written_types.specs.declared.written.Ident.{Ident}
use Rattle.syntax.specs.Items.{DeclaredItem}
use Rattle.syntax.specs.ItemDepth.{within_levels}
use Rattle.syntax.specs.ItemReading.{source_at}
use Rattle.syntax.specs.Named.{ReadFieldsAreNamed}
use Rattle.syntax.specs.Source.{Reads, NestsTooDeep}
use Rattle.configuration.specs.Configuration.{empty_configuration}
use Rattle.scopes.specs.Names.{declared_idents, texts, IsGivenTwice}
use Rattle.derive_decl.specs.Law.{DeclarationsAreExact}
use Rattle.compose.specs.Bounds.{AreBounded}
use Rattle.compose.specs.Faults.{AreFaultyDeclarations}
use Rattle.samples.specs.Spelling.{SpelledAreCut, trees_at}
use Rattle.samples.specs.Rings.{IsOpenRing, instance, instances, numbers, ring}
use Rattle.samples.specs.Samples.{sample_text}
use Rattle.samples.specs.Sound.{IsSoundSample}
use Rattle.samples.proofs.Spelled.{sample_spelling}
use Rattle.samples.proofs.Bytes.{sample_short, sample_utf8}
use Rattle.samples.proofs.Cut.{samples_are_cut}
use Rattle.samples.proofs.Depth.{sample_depth}
use Rattle.samples.proofs.Whole.{sample_read, sample_resolved, sample_derivable, sample_distinct}

-- what is read of trees is what the source reads as, and it nests nowhere too deep
abbrev pub TreesAreRead : Type 0
TreesAreRead = (source : List ℕ) (trees : Trees) (ds : List DeclaredItem) → IsCut source trees → depth trees ≤ most_open → source_at within_levels (words_of trees) ≡ Ok ds → Reads source ds × ((span : Span) → ¬ (NestsTooDeep source span))

-- names that are distinct repeat none
abbrev pub DistinctOnce : Type 0
DistinctOnce = (xs : List Ident) → IsDistinct (texts xs) → RefusesNone (IsGivenTwice xs)

-- an open ring is within the bounds of the empty configuration
ring_bounded : (many : ℕ) → many ≤ 1000 → IsOpenRing many → AreBounded empty_configuration (ring many)
ring_bounded many few rings = record {
  instances = instances many;
  reached = record { instances = rings.reached; few = omega (arith, length-map-range_with_len instance 0 many); small = λ t reach. (let h = rings.small t reach in omega arith) };
  differ = rings.differ;
  shallow = rings.shallow;
  components = instances many;
  shown = rings.components false;
  copied = omega (arith, rings.copied);
}

pub sample_sound : SpelledAreCut → TreesAreRead → ReadFieldsAreNamed → DistinctOnce → DeclarationsAreExact → (many : ℕ) → 0 < many → many ≤ 1000 → IsOpenRing many → IsSoundSample many
sample_sound cut trees_read named once exact many some few rings =
    let found = sample_read many some few in
    let ds = found.0 in
    let read = trees_read (sample_text many) (trees_at 0 (sample_spelling many (numbers many))) ds (samples_are_cut cut many few) (sample_depth many (numbers many) 0) found.1.1 in
    let resolved = sample_resolved many some few ds found.1.0 in
    let faultless : RefusesNone (AreFaultyDeclarations empty_configuration ds) = λ e why. elim why [
      | inl twice ↦ once (declared_idents ds) (sample_distinct many some few ds found.1.0) e twice
      | inr faulty ↦ (exact empty_configuration ds (named (sample_text many) ds read.0)).0 (subst IsSome (sym resolved) refl) e faulty
    ] in
    record {
      utf8 = sample_utf8 many few;
      short = sample_short many few;
      declarations = ds;
      read = read.0;
      shallow = read.1;
      clear = record { derivable = sample_derivable many some few ds found.1.0; faultless = faultless };
      bounded = λ ss is. subst (AreBounded empty_configuration) (same_Some (ring many) ss (sym resolved ∙ is)) (ring_bounded many few rings);
    }
