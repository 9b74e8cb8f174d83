-- What a sample is read as and resolved to as a whole.
use Rattle.std.proofs.Common.{◌≡◌, ◌∙◌, ℕ, zero, suc, ◌+◌, ◌<◌, ◌≤◌, List, [], ◌∷◌, ◌++◌, refl, sym, ap, subst, arith, length, map, slice_index, append_assoc, Some, None, Result, Ok}
use Rattle.std.specs.Fmt.{decimal}
use Rattle.std.specs.List.{AllByRecursion, range_with_len}
use Rattle.std.proofs.Math.Nat.{mod-lt}
use Rattle.std.proofs.lemmas.Fmt.{decimal_nonempty}
use Rattle.std.proofs.lemmas.List.{append-nil}
use Rattle.std.proofs.lemmas.List.FromFn.{get_or-map-range_with_len}
use Rattle.words.specs.Words.{words_of, keyword_of, is_reserved}
use Rattle.words.specs.Reading.{Fault}
use Rattle.words.proofs.Laws.{SoFar, many_start, many_done, many_turn}
use Rattle.configuration.specs.Configuration.{empty_configuration}
use Rattle.syntax.specs.Items.{DeclaredItem}
use Rattle.syntax.specs.ItemDepth.{within_levels}
use Rattle.syntax.specs.ItemReading.{kept, item_at, items_at, source_at, after_inner, after_inner_within}
use Rattle.scopes.specs.Names.{declared_names, declared_idents, texts}
use Rattle.scopes.specs.Parameters.{parameter_counts}
use Rattle.texts.specs.Names.{IsDistinct, place_in}
use Rattle.derive_decl.specs.Attributed.{first_other, attributes_among}
use Rattle.derive_decl.specs.Faults.{AreDerivable}
use Rattle.derive_decl.specs.Resolved.{all_of}
use Rattle.derive_decl.specs.Whole.{resolved_among, resolved_declarations}
use Rattle.samples.specs.Spelling.{trees_at}
use Rattle.samples.specs.Rings.{Turn, letter, turn, name, next, parameters, declaration, numbers, ring}
use Rattle.samples.proofs.Spelled.{sample_spelling}
use Rattle.samples.proofs.Names.{IsDigit, decimal_digits}
use Rattle.samples.proofs.Known.{IsKnown, known_by_letter}
use Rattle.samples.proofs.Lookup.{name_placed, names_distinct}
use Rattle.samples.proofs.Fields.{IsPlaced}
use Rattle.samples.proofs.Items.{IsItemOf, item_read}

-- the names of a sample are known
known_digits : (t : Turn) (ds : List ℕ) → 0 < length ds → AllByRecursion IsDigit ds → IsKnown t (letter t ∷ ds)
known_digits t [] some h = absurd (omega arith)
known_digits t (d ∷ ds) some h = known_by_letter t d ds h.0

name_known : (i : ℕ) → i ≤ 1000 → IsKnown (turn i) (name i)
name_known i few = known_digits (turn i) (decimal i) (decimal_nonempty i (omega arith)) (decimal_digits i (omega arith))

-- ---- reading

-- the items are those of the numbers, one by one
pub data AreItems (many : ℕ) : List ℕ → List DeclaredItem → Type 0 where
  no_items : AreItems many [] []
  one_more : {i : ℕ} {is : List ℕ} {d : DeclaredItem} {ds : List DeclaredItem} → IsItemOf (turn i) (turn (next many i)) (name i) (name (next many i)) d → AreItems many is ds → AreItems many (i ∷ is) (d ∷ ds)

-- the numbers and those behind them are small
abbrev pub AreSmall : (many : ℕ) → List ℕ → Type 0
AreSmall many is = AllByRecursion (λ i. (i ≤ 1000) × (next many i < many)) is

module _ (many : ℕ) (few : many ≤ 1000) where
  items_read : (is : List ℕ) → AreSmall many is → (at : ℕ) (front : List DeclaredItem) (whole : Result (List DeclaredItem) Fault)
      → SoFar kept (item_at within_levels) front (words_of (trees_at at (sample_spelling many is))) whole → (ds : List DeclaredItem) × (AreItems many is ds × (whole ≡ Ok (front ++ ds)))
  items_read [] small at front whole so = ([], (no_items, many_done kept (item_at within_levels) front _ whole so refl ∙ ap (λ v. Ok v) (sym (append-nil front))))
  items_read (i ∷ is) small at front whole so =
      let own = name_known i small.0.0 in
      let behind = name_known (next many i) (let less = small.0.1 in omega arith) in
      let here = item_read (turn i) (turn (next many i)) (name i) (name (next many i)) own behind at (sample_spelling many is) in
      let more = many_turn kept (item_at within_levels) front _ whole (Some here.1.item) _ so here.1.shorter here.1.read in
      let others = items_read is small.1 here.0 (front ++ here.1.item ∷ []) whole more in
      (here.1.item ∷ others.0, (one_more here.1.is others.1.0, others.1.1 ∙ ap (λ v. Ok v) (append_assoc front (here.1.item ∷ []) others.0)))

  -- ---- names
  names_of : {is : List ℕ} {ds : List DeclaredItem} → AreItems many is ds → declared_names ds ≡ map name is
  names_of no_items = refl
  names_of (one_more {i = i} {ds = ds} h others) = ap (λ n. n ∷ declared_names ds) h.text ∙ ap (λ ns. name i ∷ ns) (names_of others)

  counts_of : {is : List ℕ} {ds : List DeclaredItem} → AreItems many is ds → parameter_counts ds ≡ map (λ i. parameters (turn i)) is
  counts_of no_items = refl
  counts_of (one_more {i = i} {ds = ds} h others) = ap (λ n. n ∷ parameter_counts ds) h.count ∙ ap (λ ns. parameters (turn i) ∷ ns) (counts_of others)

  placed : (ds : List DeclaredItem) → AreItems many (numbers many) ds → (j : ℕ) → j < many → IsPlaced ds (turn j) (name j) j
  placed ds are j less =
      let here : 0 + j ≡ j = omega arith in record {
        place = ap (place_in (name j)) (names_of are) ∙ subst (λ v. place_in (name v) (map name (numbers many)) ≡ Some j) here (name_placed 0 many j (omega arith) less);
        count = ap (λ cs. slice_index cs j) (counts_of are) ∙ get_or-map-range_with_len (λ i. parameters (turn i)) 0 many j j 0 less here;
      }

  -- ---- what the items are resolved to
  resolved_from : (ds : List DeclaredItem) → AreItems many (numbers many) ds → {is : List ℕ} {items : List DeclaredItem} → AreSmall many is → AreItems many is items
      → all_of (resolved_among empty_configuration ds) items ≡ Some (map (declaration many) is)
  resolved_from ds all small no_items = refl
  resolved_from ds all small (one_more {i = i} h others) =
      let here = h.resolves ds (next many i) (placed ds all (next many i) small.0.1) in
      let behind = resolved_from ds all small.1 others in
      rw (here, behind) refl

  derivable_from : {is : List ℕ} {ds : List DeclaredItem} → AreItems many is ds → first_other (attributes_among ds) ≡ None
  derivable_from no_items = refl
  derivable_from (one_more {ds = ds} h others) = h.derivable (attributes_among ds) ∙ derivable_from others

texts_of : (ds : List DeclaredItem) → texts (declared_idents ds) ≡ declared_names ds
texts_of [] = refl
texts_of (d ∷ ds) = ap (λ ns. d.ident.text ∷ ns) (texts_of ds)

-- ---- the sample of so many declarations
small_from : (many from count : ℕ) → from + count ≤ 1000 → 0 < many → AreSmall many (range_with_len from count)
small_from many from zero few some = tt
small_from many from (suc count) few some = ((omega arith, mod-lt (suc from) some), small_from many (from + 1) count (omega arith) some)

-- nothing stands before its declarations
begins_bare : (m many : ℕ) → 0 < many → after_inner (words_of (trees_at 0 (sample_spelling m (numbers many)))) ≡ words_of (trees_at 0 (sample_spelling m (numbers many)))
unfolding after_inner after_inner_within keyword_of is_reserved
begins_bare m zero some = absurd (omega arith)
begins_bare m (suc many) some = refl

module _ (many : ℕ) (some : 0 < many) (few : many ≤ 1000) where
  small : AreSmall many (numbers many)
  small = small_from many 0 many (omega arith) some

  -- it is read as the items of its numbers
  pub sample_read : (ds : List DeclaredItem) × (AreItems many (numbers many) ds × (source_at within_levels (words_of (trees_at 0 (sample_spelling many (numbers many)))) ≡ Ok ds))
  unfolding source_at
  sample_read =
      let ws = words_of (trees_at 0 (sample_spelling many (numbers many))) in
      let found = items_read many few (numbers many) small 0 [] _ (many_start kept (item_at within_levels) ws) in
      (found.0, (found.1.0, ap (items_at within_levels) (begins_bare many many some) ∙ found.1.1))

  module _ (ds : List DeclaredItem) (are : AreItems many (numbers many) ds) where
    -- which are resolved to the declarations of a ring
    pub sample_resolved : resolved_declarations empty_configuration ds ≡ Some (ring many)
    sample_resolved = resolved_from many few ds are small are

    -- from each attribute something is derived, and no name is given twice
    pub sample_derivable : AreDerivable ds
    sample_derivable = derivable_from many few are

    pub sample_distinct : IsDistinct (texts (declared_idents ds))
    sample_distinct = subst IsDistinct (sym (texts_of ds ∙ names_of many few are)) (names_distinct 0 many (omega arith))
