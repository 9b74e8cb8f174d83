-- What words, files and input give, where they tell it.
use Rattle.std.proofs.Common.{◌≡◌, ◌↔◌, arith, ℕ, List, IsTrue, Option, Some, None, IsSome, inl, inr, refl, ap, sym, ◌∙◌, subst}
use Rattle.std.specs.Fmt.{decimal}
use Rattle.std.proofs.lemmas.Fmt.{decimal_injective}
use Rattle.diag.specs.declared.error.DeriveError.{DeriveError}
use Rattle.streams.specs.Told.{IsAll}
use Rattle.schema_core.specs.Document.{document, text_of}
use Rattle.configuration.specs.Configuration.{Configuration}
use Rattle.configuration_json.specs.Form.{IsConfigurationText}
use Rattle.compose.specs.Faults.{ComponentsAreOne}
use Rattle.reporting.specs.Beginning.{Beginning}
use Rattle.reporting.specs.Program.{IsAnswered, IsRefusedRun}
use Rattle.schema_gen.specs.Derived.{IsDocument, IsDocumentOf}
use Rattle.configuration_json.specs.Said.{IsSaidBy}
use Rattle.schema_gen.specs.Given.{Given, IsConfigured, IsMisconfigured, IsGiven, of_sample, of_source}
use Rattle.schema_gen.specs.Owed.{schema_gen, IsTold}
use Rattle.schema_gen.specs.Refusals.{IsSound, IsRefusedSource}
use Rattle.schema_gen.specs.Sampled.{IsSampleLine}
use Rattle.schema_gen.specs.Words.{IsDerive, IsSample}

-- a text says one configuration
abbrev pub OneConfiguration : Type 0
OneConfiguration = (bytes : List ℕ) (c d : Configuration) → IsConfigurationText bytes c → IsConfigurationText bytes d → c ≡ d

-- nothing refuses what is sound
abbrev pub SoundIsNotRefused : Type 0
SoundIsNotRefused = (c : Configuration) (source : List ℕ) (e : DeriveError) → IsSound c source → IsRefusedSource c source e → ⊥

-- words name one path
one_path : (words : List (List ℕ)) (p q : Option (List ℕ)) → IsDerive words p → IsDerive words q → p ≡ q
unfolding IsDerive
one_path words None None d e = cc
one_path words None (Some q) d e = cc
one_path words (Some p) None d e = cc
one_path words (Some p) (Some q) d e = cc

-- words that name a path name it alone, and others none
pub path_alone : (words : List (List ℕ)) (path : List ℕ) → IsDerive words (Some path) → (other : List ℕ) → IsDerive words (Some other) ↔ (other ≡ path)
path_alone words path asked other = (λ named. same_path (one_path words (Some other) (Some path) named asked), λ same. subst (λ p. IsDerive words (Some p)) (sym same) asked)
  where
    same_path : Some other ≡ Some path → other ≡ path
    same_path e = cc

pub no_path : (words : List (List ℕ)) → IsDerive words None → (path : List ℕ) → ¬ (IsDerive words (Some path))
no_path words asked path named = let same : None ≡ Some path = one_path words None (Some path) asked named in cc

-- words that ask for a document ask for no sample
pub one_form : (words : List (List ℕ)) (path : Option (List ℕ)) (many : ℕ) → IsDerive words path → IsSample words many → ⊥
unfolding IsDerive IsSample
one_form words None many derives samples = let same = sym derives ∙ samples.0 in cc
one_form words (Some path) many derives samples = let same = sym derives ∙ samples.0 in cc

-- words ask for a sample of one size
pub one_size : (words : List (List ℕ)) (m n : ℕ) → IsSample words m → IsSample words n → m ≡ n
unfolding IsSample
one_size words m n samples also =
    let same : decimal m ≡ decimal n = (let words_are = sym samples.0 ∙ also.0 in cc) in
    decimal_injective m n (let few = samples.2 in omega arith) (let few = also.2 in omega arith) same

-- what answers words that ask for a document is one, and what answers those for a sample is its line
pub of_derive : (begun : Beginning) (path : Option (List ℕ)) → IsDerive begun.words path → (text : List ℕ) → IsAnswered schema_gen begun text → IsDocument begun text
of_derive begun path derives text (of_source given, is, answers) = (given, is, answers)
of_derive begun path derives text (of_sample many, is, answers) = absurd (one_form begun.words path many derives is)

pub of_number : (begun : Beginning) (many : ℕ) → IsSample begun.words many → (line : List ℕ) → IsAnswered schema_gen begun line → IsSampleLine many line
of_number begun many samples line (of_source given, is, answers) = absurd (one_form begun.words is.config.0 many is.config.1 samples)
of_number begun many samples line (of_sample other, is, answers) = subst (λ n. IsSampleLine n line) (one_size begun.words other many is samples) answers

-- told texts are one
one_text : (left : Option (List ℕ)) (x y : List ℕ) → IsSome left → IsAll left x → IsAll left y → x ≡ y
one_text None x y some p q = cc
one_text (Some z) x y some p q = cc

one_held : (held : Option (List ℕ)) (x y : List ℕ) → held ≡ Some x → held ≡ Some y → x ≡ y
one_held held x y p q = cc

module _ (begun : Beginning) where
  -- what the words name at a path is said there
  said_at : (path : List ℕ) → IsDerive begun.words (Some path) → (c : Configuration) → IsConfigured begun c → IsSaidBy IsConfigurationText begun.tells begun.held (Some path) c
  said_at path derive c (p, form, said) = subst (λ o. IsSaidBy IsConfigurationText begun.tells begun.held o c) (one_path begun.words p (Some path) form derive) said

  -- a file that says no configuration is the one of what is configured
  pub misconfigured : IsTrue begun.tells → IsMisconfigured begun → (c : Configuration) → IsConfigured begun c → ⊥
  misconfigured told (path, bytes, form, at, none) c configured =
      let said = said_at path form c configured in
      none c (subst (λ b. IsConfigurationText b c) (one_held (begun.held path) said.0 bytes (said.1 told) (at told)) said.2)

  one_said : OneConfiguration → (p : Option (List ℕ)) → ((path : List ℕ) → p ≡ Some path → IsTrue begun.tells) → (c d : Configuration) → IsSaidBy IsConfigurationText begun.tells begun.held p c → IsSaidBy IsConfigurationText begun.tells begun.held p d → c ≡ d
  one_said law None told c d of_c of_d = of_c ∙ sym of_d
  one_said law (Some path) told c d (x, x_at, x_says) (y, y_at, y_says) =
      let here : IsTrue begun.tells = told path refl in
      law y c d (subst (λ b. IsConfigurationText b c) (one_held (begun.held path) x y (x_at here) (y_at here)) x_says) y_says

  -- told configurations are one
  one_configuration : OneConfiguration → IsTold begun → (c d : Configuration) → IsConfigured begun c → IsConfigured begun d → c ≡ d
  one_configuration law told c d (p, p_form, p_said) (q, q_form, q_said) =
      let same : q ≡ p = one_path begun.words q p q_form p_form in
      one_said law p (λ path is. told.held path (subst (IsDerive begun.words) is p_form)) c d p_said (subst (λ o. IsSaidBy IsConfigurationText begun.tells begun.held o d) same q_said)

  -- what is told has one text
  pub one_document : OneConfiguration → ComponentsAreOne → (text other : List ℕ) → IsTold begun → IsDocument begun text → IsDocument begun other → text ≡ other
  one_document configurations components text other told (given, is, of) (also, also_is, also_of) =
      let texts : given.text ≡ also.text = one_text begun.left given.text also.text (told.left (given.config, is.config)) is.text also_is.text in
      let configs : given.config ≡ also.config = one_configuration configurations told given.config also.config is.config also_is.config in
      let here = subst (λ c. IsDocumentOf c also.text text) configs (subst (λ s. IsDocumentOf given.config s text) texts of) in
      here.text_is ∙ ap (λ es. text_of (document es)) (components also.config also.text here.components also_of.components here.made also_of.made) ∙ sym also_of.text_is

  -- what is told and sound is not refused
  pub sound_run : SoundIsNotRefused → OneConfiguration → (given : Given) → IsGiven begun given → IsTold begun → IsSound given.config given.text → (e : DeriveError) → IsRefusedRun schema_gen begun e → ⊥
  sound_run law one given is told sound e (inl (path, bytes, form, at, (none, refused))) = misconfigured (told.held path form) (path, bytes, form, at, none) given.config is.config
  sound_run law one given is told sound e (inr (of_sample many, other_is, refused)) = absurd (one_form begun.words is.config.0 many is.config.1 other_is)
  sound_run law one given is told sound e (inr (of_source other, other_is, refused)) =
      let texts : given.text ≡ other.text = one_text begun.left given.text other.text (told.left (given.config, is.config)) is.text other_is.text in
      let configs : given.config ≡ other.config = one_configuration one told given.config other.config is.config other_is.config in
      law other.config other.text e (subst (λ c. IsSound c other.text) configs (subst (IsSound given.config) texts sound)) refused
