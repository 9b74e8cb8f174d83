-- What is told is one thing, so that nothing refuses what is sound.
use Rattle.std.proofs.Common.{◌≡◌, ◌∙◌, ℕ, List, [], ◌∷◌, Bool, true, false, ◌||◌, IsTrue, Option, Some, None, IsSome, bytes_eq, codes, inl, inr, refl, sym, ap, ap₂, subst}
use Rattle.std.proofs.lemmas.Slice.Eq.{bytes_eq-Decides}
use Rattle.std.proofs.lemmas.Bool.{false≢true}
use Rattle.std.proofs.lemmas.Option.{none-some, same_Some}
use Rattle.serde_json.specs.Data.{Data}
use Rattle.streams.specs.Told.{IsAll}
use Rattle.texts.specs.Names.{is_in}
use Rattle.configuration.specs.Configuration.{Configuration}
use Rattle.configuration_json.specs.Form.{IsConfigurationText}
use Rattle.configuration_json.specs.Said.{IsSaidBy}
use Rattle.gathering.specs.Files.{FileOf}
use Rattle.file_derivation.specs.Outcomes.{AreDerivedFrom, AreSound, SoundAreNotTold}
use Rattle.reporting.specs.Beginning.{Beginning}
use Rattle.file_runs.specs.Given.{Given, IsGiven, Named, IsDocumentText, IsDocumentAt, RefusesDocument, RefusesOption, AreFilesAt, HasBytesBy, HasBytes}
use Rattle.file_runs.specs.Owed.{wanted_of, IsMisconfigured, AreRefusedFiles, AreUnwritten, IsTold, IsSound, SoundRunsAreNotRefused}
use Rattle.file_runs.specs.Shown.{IsUnwritten}
use Rattle.file_runs.specs.Words.{is_input, IsOfOption}
use Rattle.file_runs.specs.declared.request.Request.{Request}
use Rattle.file_runs.proofs.Consequences.{one_request}

-- a text says one configuration
abbrev pub OneConfiguration : Type 0
OneConfiguration = (bytes : List ℕ) (c d : Configuration) → IsConfigurationText bytes c → IsConfigurationText bytes d → c ≡ d

-- the path of the input is one
pub input_path : (path : List ℕ) → is_input path ≡ true → path ≡ codes "-"
input_path path is = by (bytes_eq path (codes "-")) refl is
  where
    by : (b : Bool) → bytes_eq path (codes "-") ≡ b → b || false ≡ true → path ≡ codes "-"
    by true e h = (bytes_eq-Decides path (codes "-")).0 e
    by false e h = absurd (false≢true h)

-- which is among paths if it is the first of them, or among the others
first_in : (path : List ℕ) (paths : List (List ℕ)) → is_input path ≡ true → is_in (codes "-") (path ∷ paths) ≡ true
first_in path paths is = subst (λ v. is_in (codes "-") (v ∷ paths) ≡ true) (sym (input_path path is)) refl

pub itself_in : (path : List ℕ) (paths : List (List ℕ)) → is_in path (path ∷ paths) ≡ true
itself_in path paths = subst (λ b. b || is_in path paths ≡ true) (sym ((bytes_eq-Decides path path).1 refl)) refl

pub behind_in : (name path : List ℕ) (paths : List (List ℕ)) → is_in name paths ≡ true → is_in name (path ∷ paths) ≡ true
behind_in name path paths is = by (bytes_eq name path)
  where
    by : (b : Bool) → b || is_in name paths ≡ true
    by true = refl
    by false = is

one_text : (left : Option (List ℕ)) (x y : List ℕ) → IsSome left → IsAll left x → IsAll left y → x ≡ y
one_text None x y some p q = cc
one_text (Some z) x y some p q = cc

one_held : (held : Option (List ℕ)) (x y : List ℕ) → held ≡ Some x → held ≡ Some y → x ≡ y
one_held held x y p q = cc

module _ (begun : Beginning) where
  one_bytes : (input : Bool) (path x y : List ℕ) → (input ≡ true → IsSome begun.left) → (input ≡ false → IsTrue begun.tells) → HasBytesBy input begun path x → HasBytesBy input begun path y → x ≡ y
  one_bytes true path x y left told of_x of_y = one_text begun.left x y (left refl) of_x of_y
  one_bytes false path x y left told of_x of_y = one_held (begun.held path) x y (of_x (told refl)) (of_y (told refl))

  -- files are told where one of the paths is that of a file
  abbrev TellFiles : List (List ℕ) → Type 0
  TellFiles paths = (path : List ℕ) → is_in path paths ≡ true → is_input path ≡ false → IsTrue begun.tells

  one_files : (paths : List (List ℕ)) → (is_in (codes "-") paths ≡ true → IsSome begun.left) → TellFiles paths → (fs gs : List FileOf) → AreFilesAt (HasBytes begun) paths fs → AreFilesAt (HasBytes begun) paths gs → fs ≡ gs
  one_files [] left told [] [] of_f of_g = refl
  one_files [] left told [] (g ∷ gs) of_f of_g = absurd of_g
  one_files [] left told (f ∷ fs) gs of_f of_g = absurd of_f
  one_files (path ∷ paths) left told [] gs of_f of_g = absurd of_f
  one_files (path ∷ paths) left told (f ∷ fs) [] of_f of_g = absurd of_g
  one_files (path ∷ paths) left told (f ∷ fs) (g ∷ gs) (named, has, are) (also, as_well, others) =
      let bytes = one_bytes (is_input path) path f.bytes g.bytes (λ is. left (first_in path paths is)) (λ is. told path (itself_in path paths) is) has as_well in
      let file : f ≡ g = ap₂ (λ (n b : List ℕ). let file : FileOf = record { name = n; bytes = b } in file) (named ∙ sym also) bytes in
      let behind : TellFiles paths = λ other among is. told other (behind_in other path paths among) is in
      ap₂ (λ (h : FileOf) (hs : List FileOf). h ∷ hs) file (one_files paths (λ is. left (behind_in (codes "-") path paths is)) behind fs gs are others)

  one_said : OneConfiguration → (path : Option (List ℕ)) → (IsSome path → IsTrue begun.tells) → (c d : Configuration) → IsSaidBy IsConfigurationText begun.tells begun.held path c → IsSaidBy IsConfigurationText begun.tells begun.held path d → c ≡ d
  one_said law None told c d of_c of_d = of_c ∙ sym of_d
  one_said law (Some path) told c d (x, x_at, x_says) (y, y_at, y_says) =
      law y c d (subst (λ b. IsConfigurationText b c) (one_held (begun.held path) x y (x_at (told refl)) (y_at (told refl))) x_says) y_says

-- the path that is named, where one is
named_path : (path : Option (List ℕ)) → IsSome path → (name : List ℕ) × (path ≡ Some name)
named_path None is = absurd (false≢true is)
named_path (Some name) is = (name, refl)

abbrev of_parts : Request → Configuration → (openapi check : Option Named) → List FileOf → Given
of_parts request config openapi check files = record { request = request; config = config; openapi = openapi; check = check; files = files }

-- what is given is one thing if each part is
all_same : (one other : Given) → one.request ≡ other.request → one.config ≡ other.config → one.openapi ≡ other.openapi → one.check ≡ other.check → one.files ≡ other.files → one ≡ other
all_same one other request config openapi check files =
    ap (λ (v : Request). of_parts v one.config one.openapi one.check one.files) request
    ∙ ap (λ (v : Configuration). of_parts other.request v one.openapi one.check one.files) config
    ∙ ap (λ (v : Option Named). of_parts other.request other.config v one.check one.files) openapi
    ∙ ap (λ (v : Option Named). of_parts other.request other.config other.openapi v one.files) check
    ∙ ap (λ (v : List FileOf). of_parts other.request other.config other.openapi other.check v) files

-- a file is one value in JSON
one_value : (bytes : List ℕ) (value other : Data) → IsDocumentText bytes value → IsDocumentText bytes other → value ≡ other
one_value bytes value other is also = same_Some value other (sym is.1.1 ∙ also.1.1)

-- at a path stands one document
one_document : (begun : Beginning) (path : Option (List ℕ)) → (IsSome path → IsTrue begun.tells) → (one other : Option Named) → IsDocumentAt begun.tells begun.held path one → IsDocumentAt begun.tells begun.held path other → one ≡ other
one_document begun path told None None is also = refl
one_document begun path told None (Some named) is also = absurd (none-some named.0 (sym is ∙ also.0))
one_document begun path told (Some named) None is also = absurd (none-some named.0 (sym also ∙ is.0))
one_document begun path told (Some named) (Some other) (is, x, x_at, x_is) (also, y, y_at, y_is) =
    let tells = told (subst IsSome (sym is) refl) in
    let paths : named.0 ≡ other.0 = same_Some named.0 other.0 (sym is ∙ also) in
    let bytes = one_held (begun.held named.0) x y (x_at tells) (subst (λ p. begun.held p ≡ Some y) (sym paths) (y_at tells)) in
    let values = one_value y named.1 other.1 (subst (λ b. IsDocumentText b named.1) bytes x_is) y_is in
    ap₂ (λ (p : List ℕ) (v : Data). Some (p, v)) paths values

module _ (one : OneConfiguration) (begun : Beginning) (told : IsTold begun) (sound : IsSound begun) where
  -- of what is sound, what a run is given is that
  same_given : (also : Given) → IsGiven begun also → sound.given ≡ also
  same_given also is =
      let given = sound.given in
      let r = given.request in
      let requests = one_request begun.words r also.request sound.is_given.asked is.asked in
      let named : (path : Option (List ℕ)) → ((name : List ℕ) → path ≡ Some name → IsOfOption r name) → IsSome path → IsTrue begun.tells =
      λ path of some. let there = named_path path some in told.held there.0 (r, sound.is_given.asked, inl (of there.0 there.1)) in
      let config = subst (λ (q : Request). IsSaidBy IsConfigurationText begun.tells begun.held q.config also.config) (sym requests) is.config in
      let configs = one_said begun one r.config (named r.config (λ name e. inl e)) given.config also.config sound.is_given.config config in
      let openapi = subst (λ (q : Request). IsDocumentAt begun.tells begun.held q.openapi also.openapi) (sym requests) is.openapi in
      let apis = one_document begun r.openapi (named r.openapi (λ name e. inr (inl e))) given.openapi also.openapi sound.is_given.openapi openapi in
      let check = subst (λ (q : Request). IsDocumentAt begun.tells begun.held q.check also.check) (sym requests) is.check in
      let checks = one_document begun r.check (named r.check (λ name e. inr (inr e))) given.check also.check sound.is_given.check check in
      let at = subst (λ (q : Request). AreFilesAt (HasBytes begun) q.files also.files) (sym requests) is.files in
      let files = one_files begun r.files (λ is. told.left (r, sound.is_given.asked, is)) (λ path among is. told.held path (r, sound.is_given.asked, inr (among, is))) given.files also.files sound.is_given.files at in
      all_same given also requests configs apis checks files

  not_refused : (path report : List ℕ) (named : Option (List ℕ)) → named ≡ Some path → IsOfOption sound.given.request path → (document : Option Named) → IsDocumentAt begun.tells begun.held named document
      → RefusesDocument begun.tells (begun.held path) path report → ⊥
  not_refused path report named at of None is refused = absurd (none-some path (sym is ∙ at))
  not_refused path report named at of (Some found) (is, bytes, held, value) refused =
      let tells = told.held path (sound.given.request, sound.is_given.asked, inl of) in
      let paths : found.0 ≡ path = same_Some found.0 path (sym is ∙ at) in
      let same = one_held (begun.held path) bytes refused.bytes (subst (λ p. begun.held p ≡ Some bytes) paths (held tells)) (refused.is_held tells) in
      refused.none found.1 (subst (λ b. IsDocumentText b found.1) same value)

  not_misconfigured : (report : List ℕ) → IsMisconfigured begun report → ⊥
  not_misconfigured report m = by m.refused
    where
      r : Request
      r = sound.given.request

      same : r ≡ m.request
      same = one_request begun.words r m.request sound.is_given.asked m.asked

      by : RefusesOption begun.tells begun.held m.request report → ⊥
      by (inl (path, named, refused)) =
          let at = ap (λ (q : Request). q.config) same ∙ named in
          let said = subst (λ o. IsSaidBy IsConfigurationText begun.tells begun.held o sound.given.config) at sound.is_given.config in
          let tells = told.held path (r, sound.is_given.asked, inl (inl at)) in
          refused.none sound.given.config (subst (λ b. IsConfigurationText b sound.given.config) (one_held (begun.held path) said.0 refused.bytes (said.1 tells) (refused.is_held tells)) said.2)
      by (inr (path, inl named, refused)) =
          let at = ap (λ (q : Request). q.openapi) same ∙ named in
          not_refused path report r.openapi at (inr (inl at)) sound.given.openapi sound.is_given.openapi refused
      by (inr (path, inr named, refused)) =
          let at = ap (λ (q : Request). q.check) same ∙ named in
          not_refused path report r.check at (inr (inr at)) sound.given.check sound.is_given.check refused

  not_told : SoundAreNotTold → (report : List ℕ) → AreRefusedFiles begun report → ⊥
  not_told law report other =
      let also = other.given in
      let here = subst (λ (g : Given). AreSound g.request.selection g.config g.files) (same_given also other.is_given) sound.sound in
      law also.request.selection also.config also.files other.told here other.are_told

  not_unwritten : (report : List ℕ) → AreUnwritten begun report → ⊥
  not_unwritten report other =
      let same = sym (same_given other.given other.is_given) in
      let derived = subst (λ (g : Given). AreDerivedFrom g.request.selection g.config g.files other.components other.warnings) same other.derived in
      sound.is_written other.components other.warnings derived report (subst (λ (g : Given). IsUnwritten (wanted_of g) other.components other.warnings report) same other.why)

-- where a run is told what it is given, and that is sound, nothing is refused
pub sound_run : OneConfiguration → SoundAreNotTold → SoundRunsAreNotRefused
sound_run one law begun report told sound (inl m) = not_misconfigured one begun told sound report m
sound_run one law begun report told sound (inr (inl other)) = not_told one begun told sound law report other
sound_run one law begun report told sound (inr (inr other)) = not_unwritten one begun told sound report other
