-- Samples as sources.
use Rattle.std.proofs.Common.{◌≡◌, ◌∙◌, ◌⊎◌, ℕ, List, inl, inr, ap, subst, length}
use Rattle.diag.specs.declared.error.DeriveError.{DeriveError}
use Rattle.diag.specs.declared.error.DeriveError.TheVariants.{Memory}
use Rattle.configuration.specs.Configuration.{Configuration, empty_configuration}
use Rattle.samples.specs.Samples.{sample_text}
use Rattle.samples.specs.Sound.{IsSoundSample}
use Rattle.schema_gen.specs.Derived.{IsDocumentOf}
use Rattle.schema_gen.specs.Refusals.{IsSound, IsRefusedSource}
use Rattle.schema_gen.specs.Sampled.{IsSampleLine, sample_line}
use Rattle.schema_gen.proofs.Told.{SoundIsNotRefused}

-- a sample is a sound source
sound_source : (many : ℕ) → IsSoundSample many → IsSound empty_configuration (sample_text many)
sound_source many sample = record {
  text = record { short = sample.short; utf8 = sample.utf8 };
  declarations = sample.declarations;
  read = sample.read;
  shallow = sample.shallow;
  clear = sample.clear;
  bounded = sample.bounded;
}

module _ (many : ℕ) (config : Configuration) (bytes : List ℕ) (config_is : config ≡ empty_configuration) (bytes_are : bytes ≡ sample_text many) where
  -- so its derivation can only want memory
  pub unrefused : SoundIsNotRefused → IsSoundSample many → (e : DeriveError) → (e ≡ Memory) ⊎ IsRefusedSource config bytes e → e ≡ Memory
  unrefused law sample e (inl memory) = memory
  unrefused law sample e (inr refused) =
      absurd (law empty_configuration (sample_text many) e (sound_source many sample) (subst (λ c. IsRefusedSource c (sample_text many) e) config_is (subst (λ b. IsRefusedSource config b e) bytes_are refused)))

  -- and its line tells of its document
  pub line_of : (document line : List ℕ) (components : ℕ) → (of : IsDocumentOf config bytes document) × (components ≡ length of.components) → line ≡ sample_line many components (length document) → IsSampleLine many line
  line_of document line components of line_is =
      let own = subst (λ b. (of : IsDocumentOf config b document) × (components ≡ length of.components)) bytes_are of in
      let here = subst (λ c. (of : IsDocumentOf c (sample_text many) document) × (components ≡ length of.components)) config_is own in
      record { text = document; derived = here.0; line_is = line_is ∙ ap (λ n. sample_line many n (length document)) here.1 }
