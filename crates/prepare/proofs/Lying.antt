-- What stands of a file begins and ends between two characters.
use Rattle.std.proofs.Common.{◌≡◌, ◌⊎◌, ℕ, zero, suc, List, [], ◌∷◌, ◌++◌, length, take, get_or, max, ◌≤◌, bytes_eq, refl, ap, sym, subst, arith, inl, inr, Bool, true, false, cond, Option, Some, None}
use Rattle.std.specs.Prelude.{codes}
use Rattle.std.specs.List.{AllByRecursion}
use Rattle.std.specs.Str.{IsUtf8, IsCharBoundary}
use Rattle.std.proofs.lemmas.Str.{IsCharBoundary-start}
use Rattle.texts.proofs.Laws.{mapped}
use Rattle.texts.specs.declared.span.Span.{Span}
use Rattle.tokens.specs.Trees.{Tree, token, group, Trees, end, ◌▸◌, trees_of}
use Rattle.lexing.specs.Lying.{LiesIn, AreIn, TreesLie}
use Rattle.tokens.specs.declared.token.Token.{Token}
use Rattle.tokens.specs.declared.token.TokenKind.{TokenKind}
use Rattle.tokens.specs.declared.token.TokenKind.TheVariants as kind
use Rattle.written_types.specs.declared.written.Ident.{Ident}
use Rattle.words.specs.declared.vocabulary.Keyword.{Keyword}
use Rattle.words.specs.Words.{name, underscore, cover, ident_of, keyword_of, keyword_or_name, identifier_word, token_word, word_of, opening, start_of}
use Rattle.prepare.specs.declared.item.Standing.{Standing}
use Rattle.prepare.specs.Trees.{listed, is_word, inside, span_of, extent, before, but_last}
use Rattle.prepare.specs.Attributes.{after_attributes, after_visibility, is_for_tests}
use Rattle.prepare.specs.Forms.{Form, declares, implements, holds, names, imports, passes, ident, form_at}
use Rattle.prepare.specs.Imports.{import_of, import_at, imports_in, imports_of}
use Rattle.prepare.specs.Heads.{outside, Implemented, implemented}
use Rattle.prepare.specs.Items.{Item, stands, passed, written_by, item_of, unless_for_tests, item_from, item_at, stop_at}
use Rattle.prepare.specs.Items as item
use Rattle.prepare.specs.Standing.{AreItems, no_items, more_items, StandIn, itself, nothing, StandInside, for_tests, items, StopAt, here, in_item, StopIn, in_module, StopInside, in_items}
use Rattle.prepare.specs.Standing as standing
use Rattle.prepare.specs.Prepared.{IsFile}
use Rattle.prepare.specs.FileItems.{IsSlice, HasSlices, AreSlices}
use Rattle.prepare.proofs.Behind.{IsBehind, same, later, weakly}
use Rattle.prepare.proofs.Answered.{StopsLie}
use Rattle.prepare.proofs.Passed.{IsIn, further, IsBehindName, form_behind, keyword_behind, item_past, item_held}
use Rattle.prepare.proofs.Passed as passed_trees
use Rattle.prepare.proofs.Repeated.{attributes_behind, inner_behind}

-- ---- where words begin

keyword_start : (o : Option Keyword) (x : Ident) → start_of (keyword_or_name o x) ≡ x.span
keyword_start None x = refl
keyword_start (Some k) x = refl

identifier_by : (a b : Bool) (o : Option Keyword) (x : Ident) → start_of (cond a (underscore x) (cond b (name x) (keyword_or_name o x))) ≡ x.span
identifier_by true b o x = refl
identifier_by false true o x = refl
identifier_by false false o x = keyword_start o x

identifier_start : (x : Ident) → start_of (identifier_word x) ≡ x.span
identifier_start x = identifier_by (bytes_eq x.text (codes "_")) x.raw (keyword_of x.text) x

by_kind : (k : TokenKind) (t : Token) → start_of (token_word k t) ≡ t.span
by_kind kind.Ident t = identifier_start (ident_of t)
by_kind kind.Lifetime t = refl
by_kind kind.Literal t = refl
by_kind kind.Punct t = refl
by_kind kind.Doc t = refl

token_start : (t : Token) → start_of (word_of (token t)) ≡ t.span
token_start t = by_kind t.kind t

opening_within : {n : ℕ} (s : Span) → s.end ≤ n → (opening s).end ≤ n
unfolding opening
opening_within s h = omega (arith, h)

module _ (source : List ℕ) (utf8 : IsUtf8 source) where
  -- ---- trees
  abbrev AllIn : List Tree → Type 0
  AllIn ts = AllByRecursion (LiesIn source) ts

  listed_in : (ts : Trees) → AreIn source ts → AllIn (listed ts)
  listed_in end h = tt
  listed_in (t ▸ ts) h = (h.0, listed_in ts h.1)

  inside_in : (t : Tree) → LiesIn source t → AllIn (inside t)
  inside_in (token t) h = tt
  inside_in (group b ts s) h = listed_in ts h.2

  one_in : {t : Tree} {ts : List Tree} → IsIn t ts → AllIn ts → LiesIn source t
  one_in passed_trees.here h = h.0
  one_in (further i) h = one_in i h.1

  behind_in : {rest ts : List Tree} → IsBehind rest ts → AllIn ts → AllIn rest
  behind_in same h = h
  behind_in (later b) h = behind_in b h.1

  front_in : (n : ℕ) (ts : List Tree) → AllIn ts → AllIn (take n ts)
  front_in zero ts h = tt
  front_in (suc n) [] h = tt
  front_in (suc n) (t ∷ ts) h = (h.0, front_in n ts h.1)

  -- ---- spans
  tree_is_slice : (t : Tree) → LiesIn source t → IsSlice source (span_of t)
  tree_is_slice (token t) h = h
  tree_is_slice (group b ts s) h = (h.0, h.1)

  some_in : (ts : List Tree) (n : ℕ) (t : Tree) → AllIn ts → LiesIn source t → LiesIn source (get_or ts n t)
  some_in [] n t h g = g
  some_in (u ∷ us) zero t h g = h.0
  some_in (u ∷ us) (suc n) t h g = some_in us n t h.1 g

  max_is : (a b : ℕ) → (max a b ≡ a) ⊎ (max a b ≡ b)
  max_is zero zero = inl (omega arith)
  max_is zero (suc b) = inr (omega arith)
  max_is (suc a) zero = inl (omega arith)
  max_is (suc a) (suc b) = elim (max_is a b) [ inl e ↦ inl (omega (arith, e)) | inr e ↦ inr (omega (arith, e)) ]

  later_of : (a b : ℕ) → IsCharBoundary source a → IsCharBoundary source b → IsCharBoundary source (max a b)
  later_of a b h g = elim (max_is a b) [ inl e ↦ subst (IsCharBoundary source) (sym e) h | inr e ↦ subst (IsCharBoundary source) (sym e) g ]

  cover_is_slice : (a b : Span) → IsSlice source a → IsSlice source b → IsSlice source (cover a b)
  unfolding cover
  cover_is_slice a b h g = (h.0, later_of a.start b.end h.0 g.1)

  extent_is_slice : (ts : List Tree) → AllIn ts → IsSlice source (extent ts)
  extent_is_slice [] h = (IsCharBoundary-start source utf8, IsCharBoundary-start source utf8)
  extent_is_slice (t ∷ ts) h =
      cover_is_slice (span_of t) (span_of (get_or (t ∷ ts) (length ts) t)) (tree_is_slice t h.0) (tree_is_slice (get_or (t ∷ ts) (length ts) t) (some_in (t ∷ ts) (length ts) t h h.0))

  -- ---- items
  before_in : (ts rest : List Tree) → AllIn ts → AllIn (before ts rest)
  before_in ts rest h = front_in _ ts h

  all_but_last_in : (ts : List Tree) → AllIn ts → AllIn (but_last ts)
  all_but_last_in ts h = front_in _ ts h

  abbrev AreSlicesOf : Item → Type 0
  AreSlicesOf (stands s) = HasSlices source s
  AreSlicesOf (item.all ss) = AreSlices source ss
  AreSlicesOf (item.holds held) = Unit {0}
  AreSlicesOf passed = Unit {0}

  written_slices : (head : List Tree) (x : Option Implemented) → AllIn head → AreSlicesOf (written_by head x)
  written_slices head None h = tt
  written_slices head (Some x) h = (extent_is_slice head h, tt)

  both_slices : (ss us : List Standing) → AreSlices source ss → AreSlices source us → AreSlices source (ss ++ us)
  both_slices [] us h g = g
  both_slices (s ∷ ss) us h g = (h.0, both_slices ss us h.1 g)

  -- ---- imports
  trees_in : (ts : List Tree) → AllIn ts → AreIn source (trees_of ts)
  trees_in [] h = tt
  trees_in (t ∷ ts) h = (h.0, trees_in ts h.1)

  import_by_lies : (b : Bool) (x y : Option Ident) (t v : Tree) → LiesIn source t → LiesIn source v → AreSlices source (cond b (import_of x y t v) [])
  import_by_lies true None y t v h g = tt
  import_by_lies true (Some x) None t v h g = tt
  import_by_lies true (Some x) (Some y) t v h g =
      let whole = cover_is_slice (span_of t) (span_of v) (tree_is_slice t h) (tree_is_slice v g) in ((whole, tree_is_slice t h), tt)
  import_by_lies false x y t v h g = tt

  import_lies : (ts : Trees) → AreIn source ts → AreSlices source (import_at ts)
  import_lies end h = tt
  import_lies (t ▸ end) h = tt
  import_lies (t ▸ (u ▸ end)) h = tt
  import_lies (t ▸ (u ▸ (v ▸ ts))) h = import_by_lies (is_word (codes "as") u) (ident t) (ident v) t v h.0 h.1.1.0

  mutual
    imports_within : (t : Tree) → LiesIn source t → AreSlices source (imports_in t)
    imports_within (token t) h = tt
    imports_within (group b ts s) h = imports_lie ts h.2

    imports_lie : (ts : Trees) → AreIn source ts → AreSlices source (imports_of ts)
    imports_lie end h = tt
    imports_lie (t ▸ ts) h =
        let others = both_slices (imports_in t) (imports_of ts) (imports_within t h.0) (imports_lie ts h.1) in
        both_slices (import_at (t ▸ ts)) (imports_in t ++ imports_of ts) (import_lies (t ▸ ts) h) others

  -- ---- what stands of an item
  form_slices : (ts start keyword : List Tree) (form : Form) (rest : List Tree) → AllIn ts → AllIn keyword → IsBehindName keyword form → AreSlicesOf (item_of ts start keyword form rest)
  form_slices ts start keyword (declares x behind) rest h g b = (extent_is_slice (before ts rest) (before_in ts rest h), tt)
  form_slices ts start keyword implements rest h g b =
      let head = but_last (before keyword rest) in
      written_slices head (implemented (outside head)) (all_but_last_in (before keyword rest) (before_in keyword rest g))
  form_slices ts start keyword (holds inner) rest h g b = tt
  form_slices ts start keyword (names x behind) rest h g b =
      let of = before_in behind rest (behind_in b g) in (
        extent_is_slice (but_last (before keyword rest)) (all_but_last_in (before keyword rest) (before_in keyword rest g)),
        extent_is_slice (but_last (before behind rest)) (all_but_last_in (before behind rest) of),
      )
  form_slices ts start keyword imports rest h g b = imports_lie (trees_of (before keyword rest)) (trees_in (before keyword rest) (before_in keyword rest g))
  form_slices ts start keyword passes rest h g b = tt

  unless_slices : (b : Bool) (i : Item) → AreSlicesOf i → AreSlicesOf (cond b passed i)
  unless_slices true i h = tt
  unless_slices false i h = h

  item_slices : (ts : List Tree) (i : Item) (rest : List Tree) → AllIn ts → item_at ts ≡ Some (i, rest) → AreSlicesOf i
  unfolding item_at
  item_slices ts i rest h e =
      let start = after_attributes ts in
      let keyword = after_visibility start in
      let m = mapped (item_from ts start keyword) (form_at keyword) _ e in
      let is : unless_for_tests (before ts start) (item_of ts start keyword m.0.0 m.0.1) ≡ i = ap (λ p. p.0) m.2 in
      let own = form_slices ts start keyword m.0.0 m.0.1 h (behind_in (keyword_behind ts) h) (form_behind keyword m.0 m.1) in
      subst AreSlicesOf is (unless_slices (is_for_tests (before ts start)) (item_of ts start keyword m.0.0 m.0.1) own)

  mutual
    items_lie : {ts : List Tree} {ss : List Standing} → AllIn ts → AreItems ts ss → AreSlices source ss
    items_lie h no_items = tt
    items_lie {ts = ts} h (more_items {rest = rest} {item = i} {of_item = held} {others = others} e s more) =
        both_slices held others (standing_lies ts rest h e s) (items_lie (behind_in (weakly (item_past ts i rest e)) h) more)

    standing_lies : (ts rest : List Tree) {i : Item} {ss : List Standing} → AllIn ts → item_at ts ≡ Some (i, rest) → StandIn i ss → AreSlices source ss
    standing_lies ts rest h e (itself {s = s}) = (item_slices ts (stands s) rest h e, tt)
    standing_lies ts rest h e (standing.all {ss = ss}) = item_slices ts (item.all ss) rest h e
    standing_lies ts rest h e (standing.inside {ts = held} k) =
        let t = item_held ts held rest e in
        inside_lies (subst AllIn (sym t.2) (inside_in t.0 (one_in t.1 h))) k
    standing_lies ts rest h e nothing = tt

    inside_lies : {ts : List Tree} {ss : List Standing} → AllIn ts → StandInside ts ss → AreSlices source ss
    inside_lies h (for_tests e) = tt
    inside_lies {ts = ts} h (items e k) = items_lie (behind_in (inner_behind ts) h) k

  -- ---- stops

  word_span : (t : Tree) → LiesIn source t → (start_of (word_of t)).end ≤ length source
  word_span (token t) h = subst (λ s. s.end ≤ length source) (sym (token_start t)) h.1.0
  word_span (group b ts s) h = opening_within s h.1.0

  stop_within : (ts start : List Tree) → AllIn ts → AllIn start → (stop_at ts start).end ≤ length source
  stop_within ts (t ∷ start) h g = word_span t g.0
  stop_within (t ∷ ts) [] h g = word_span t h.0
  stop_within [] [] h g = omega arith

  mutual
    at_lies : {ts : List Tree} {span : Span} → AllIn ts → StopAt ts span → span.end ≤ length source
    at_lies {ts = ts} h (here e some) = stop_within ts (after_attributes ts) h (behind_in (attributes_behind ts) h)
    at_lies {ts = ts} h (in_item {rest = rest} {item = i} e stop) = in_lies ts rest h e stop
    at_lies {ts = ts} h (standing.behind {rest = rest} {item = i} e s stop) = at_lies (behind_in (weakly (item_past ts i rest e)) h) stop

    in_lies : (ts rest : List Tree) {i : Item} {span : Span} → AllIn ts → item_at ts ≡ Some (i, rest) → StopIn i span → span.end ≤ length source
    in_lies ts rest h e (in_module {ts = held} stop) =
        let t = item_held ts held rest e in
        stop_lies (subst AllIn (sym t.2) (inside_in t.0 (one_in t.1 h))) stop

    stop_lies : {ts : List Tree} {span : Span} → AllIn ts → StopInside ts span → span.end ≤ length source
    stop_lies {ts = ts} h (in_items e stop) = at_lies (behind_in (inner_behind ts) h) stop

pub stops_lie : TreesLie → StopsLie
stops_lie lie source trees span utf8 cut stop = stop_lies source utf8 (listed_in source utf8 trees (lie source trees utf8 cut)) stop

-- what stands of a file begins and ends between two of its characters
pub file_slices : TreesLie → (source : List ℕ) (standing : List Standing) → IsUtf8 source → IsFile source standing → AreSlices source standing
file_slices lie source standing utf8 f = inside_lies source utf8 (listed_in source utf8 f.0 (lie source f.0 utf8 f.1)) f.2
