-- Attributes: what is read is the grammar's, and no less.
use Rattle.std.proofs.Common.{◌≡◌, ◌∙◌, ◌<◌, ◌≤◌, ℕ, zero, suc, List, [], ◌∷◌, ◌++◌, length, refl, ap, sym, subst, arith, codes, Bool, true, false, cond, ◌||◌, is_some, Option, Some, None, Result, Ok, Err}
use Rattle.texts.specs.declared.span.Span.{Span}
use Rattle.tokens.specs.declared.token.Bracket.{Bracket}
use Rattle.tokens.specs.declared.token.Bracket.TheVariants.{Square}
use Rattle.tokens.specs.Trees.{Trees}
use Rattle.written_types.specs.Written.{WrittenPath}
use Rattle.words.specs.declared.stopping.Stop.{Stop}
use Rattle.words.specs.declared.vocabulary.Sign.TheVariants.{Equals, Hash}
use Rattle.words.specs.Words.{Word, name, underscore, keyword, sign, lifetime, literal, doc, group, words_of, cover}
use Rattle.words.specs.Reading.{Fault, Read, ◌>>=◌, as_group, as_sign, sign_at, group_at, Fails}
use Rattle.words.proofs.Laws.{bind_ok, ok_is, along, sign-is, as_sign-is, group-is, like_fails}
use Rattle.attributes.specs.declared.serde_item.SerdeItem.{SerdeItem}
use Rattle.attributes.specs.Attributes.{MetaItem, value, items, AttributeItem, is_word}
use Rattle.attributes.specs.Attributes as item
use Rattle.attributes.specs.AttributeWords.{as_outer_doc, path_item, attribute_item, kept}
use Rattle.attributes.specs.AttributeGrammar.{IsMeta, no_meta, valued, listed, IsSerdeList, HasItems, of_serde, of_another, IsAttribute, outer_doc, in_brackets, IsAttributes, no_attributes, more_attributes}
use Rattle.attributes.specs.AttributeReading.{with_before, more_idents_at, path_at, group_meta, value_meta, meta_of, serde_list, items_of, attribute_in, begins_attribute, begin_attributes, attribute_behind, attribute_at, attributes_within, attributes_at}
use Rattle.attributes.proofs.Idents.{before_nothing, before_before, before_fails, first_fails, before_deep, idents_complete, path_given, path_sound, path_shallow}
use Rattle.attributes.proofs.Serde.{items_sound, items_complete, items_shallow, Shallow, then_shallow, ok_shallow, wrong_shallow, cond_shallow, word_shallow}

-- ---- what stands behind a path
like_meta : {ws : List Word} {m n : MetaItem} → IsMeta ws m → ◌≡◌ {A = Result MetaItem Fault} (Ok m) (Ok n) → IsMeta ws n
like_meta {ws = ws} r e = subst (λ v. IsMeta ws v) (ok_is e) r

value_meta_sound : (s : Span) (ws : List Word) (m : MetaItem) → value_meta ws ≡ Ok m → IsMeta (sign Equals s ∷ ws) m
value_meta_sound s [] m e = cc
value_meta_sound s (w ∷ ws) m e = like_meta valued e

other_meta_sound : (ws : List Word) (m : MetaItem) → (sign_at Equals ws >>= λ p. value_meta p.1) ≡ Ok m → IsMeta ws m
other_meta_sound ws m e =
    let p = bind_ok (sign_at Equals ws) e in
    subst (λ us. IsMeta us m) (sym (sign-is Equals ws p.0 p.1)) (value_meta_sound p.0.0 p.0.1 m p.2)

group_meta_sound : (b : Bracket) (inside : Trees) (s : Span) (ws : List Word) (m : MetaItem) → group_meta b inside s ws ≡ Ok m → IsMeta (group b inside s ∷ ws) m
group_meta_sound b inside s [] m e = like_meta listed e
group_meta_sound b inside s (w ∷ ws) m e = cc

meta_sound : (ws : List Word) (m : MetaItem) → meta_of ws ≡ Ok m → IsMeta ws m
unfolding meta_of
meta_sound [] m e = like_meta no_meta e
meta_sound (group b inside s ∷ ws) m e = group_meta_sound b inside s ws m e
meta_sound (name x ∷ ws) m e = other_meta_sound (name x ∷ ws) m e
meta_sound (underscore x ∷ ws) m e = other_meta_sound (underscore x ∷ ws) m e
meta_sound (keyword k x ∷ ws) m e = other_meta_sound (keyword k x ∷ ws) m e
meta_sound (sign k s ∷ ws) m e = other_meta_sound (sign k s ∷ ws) m e
meta_sound (lifetime x ∷ ws) m e = other_meta_sound (lifetime x ∷ ws) m e
meta_sound (literal t ∷ ws) m e = other_meta_sound (literal t ∷ ws) m e
meta_sound (doc t ∷ ws) m e = other_meta_sound (doc t ∷ ws) m e

meta_complete : {ws : List Word} {m : MetaItem} → IsMeta ws m → meta_of ws ≡ Ok m
unfolding meta_of
meta_complete no_meta = refl
meta_complete valued = refl
meta_complete listed = refl

meta_ends : {ws : List Word} {m : MetaItem} → IsMeta ws m → more_idents_at ws ≡ Ok ([], ws)
meta_ends no_meta = refl
meta_ends valued = refl
meta_ends listed = refl

value_meta_shallow : (ws : List Word) → Shallow (value_meta ws)
value_meta_shallow [] = wrong_shallow
value_meta_shallow (w ∷ ws) = ok_shallow (value (w ∷ ws))

group_meta_shallow : (b : Bracket) (inside : Trees) (s : Span) (ws : List Word) → Shallow (group_meta b inside s ws)
group_meta_shallow b inside s [] = ok_shallow (items b inside s)
group_meta_shallow b inside s (w ∷ ws) = wrong_shallow

other_meta_shallow : (ws : List Word) → Shallow (sign_at Equals ws >>= λ p. value_meta p.1)
other_meta_shallow ws = then_shallow (sign_at Equals ws) (λ p. value_meta p.1) (word_shallow (as_sign Equals) ws) (λ p. value_meta_shallow p.1)

meta_shallow : (ws : List Word) → Shallow (meta_of ws)
unfolding meta_of
meta_shallow [] = ok_shallow item.word
meta_shallow (group b inside s ∷ ws) = group_meta_shallow b inside s ws
meta_shallow (name x ∷ ws) = other_meta_shallow (name x ∷ ws)
meta_shallow (underscore x ∷ ws) = other_meta_shallow (underscore x ∷ ws)
meta_shallow (keyword k x ∷ ws) = other_meta_shallow (keyword k x ∷ ws)
meta_shallow (sign k s ∷ ws) = other_meta_shallow (sign k s ∷ ws)
meta_shallow (lifetime x ∷ ws) = other_meta_shallow (lifetime x ∷ ws)
meta_shallow (literal t ∷ ws) = other_meta_shallow (literal t ∷ ws)
meta_shallow (doc t ∷ ws) = other_meta_shallow (doc t ∷ ws)

-- ---- the items of serde's lists
list_sound : (m : MetaItem) (xs : List SerdeItem) → serde_list m ≡ Ok xs → IsSerdeList m xs
list_sound item.word xs e = cc
list_sound (value ws) xs e = cc
list_sound (items b inside s) xs e = items_sound (words_of inside) xs e
list_sound (item.doc text) xs e = cc

pub list_complete : (m : MetaItem) (xs : List SerdeItem) → IsSerdeList m xs → serde_list m ≡ Ok xs
list_complete item.word xs r = absurd r
list_complete (value ws) xs r = absurd r
list_complete (items b inside s) xs r = items_complete r
list_complete (item.doc text) xs r = absurd r

list_shallow : (m : MetaItem) → Shallow (serde_list m)
list_shallow item.word = wrong_shallow
list_shallow (value ws) = wrong_shallow
list_shallow (items b inside s) = items_shallow (words_of inside)
list_shallow (item.doc text) = wrong_shallow

behind_from : (path : WrittenPath) (m : MetaItem) (xs : List SerdeItem) (b : Bool) → is_word (codes "serde") path ≡ b → cond b (serde_list m) (Ok []) ≡ Ok xs → HasItems path m xs
behind_from path m xs false is e = subst (λ v. HasItems path m v) (ok_is e) (of_another is)
behind_from path m xs true is e = of_serde is (list_sound m xs e)

behind_sound : (path : WrittenPath) (m : MetaItem) (xs : List SerdeItem) → items_of path m ≡ Ok xs → HasItems path m xs
unfolding items_of
behind_sound path m xs e = behind_from path m xs (is_word (codes "serde") path) refl e

behind_complete : {path : WrittenPath} {m : MetaItem} {xs : List SerdeItem} → HasItems path m xs → items_of path m ≡ Ok xs
unfolding items_of
behind_complete {m = m} (of_serde {xs = xs} is r) = ap (λ b. cond b (serde_list m) (Ok [])) is ∙ list_complete m xs r
behind_complete {m = m} (of_another is) = ap (λ b. cond b (serde_list m) (Ok [])) is

behind_shallow : (path : WrittenPath) (m : MetaItem) → Shallow (items_of path m)
unfolding items_of
behind_shallow path m = cond_shallow (is_word (codes "serde") path) (serde_list m) (Ok []) (list_shallow m) (ok_shallow [])

-- ---- one attribute
abbrev keeps : WrittenPath → Span → MetaItem → List SerdeItem → Result (List AttributeItem) Fault
keeps path span m xs = Ok (kept (attribute_item path m xs span))

abbrev with_items : WrittenPath → Span → MetaItem → Result (List AttributeItem) Fault
with_items path span m = items_of path m >>= keeps path span m

abbrev behind_path : Span → WrittenPath × List Word → Result (List AttributeItem) Fault
behind_path span p = meta_of p.1 >>= with_items p.0 span

in_sound : (h s : Span) (inside : Trees) (rest : List Word) (xs : List AttributeItem) → attribute_in (cover h s) (words_of inside) ≡ Ok xs → IsAttribute (sign Hash h ∷ group Square inside s ∷ rest) xs rest
unfolding attribute_in
in_sound h s inside rest xs e =
    let p = bind_ok (path_at (words_of inside)) e in
    let m = bind_ok (meta_of p.0.1) p.2 in
    let ys = bind_ok (items_of p.0.0 m.0) m.2 in
    let path = path_sound (words_of inside) p.0.0 p.0.1 p.1 in
    let has = behind_sound p.0.0 m.0 ys.0 ys.1 in
    let is : kept (attribute_item (path_item path.0) m.0 ys.0 (cover h s)) ≡ xs = ap (λ v. kept (attribute_item v m.0 ys.0 (cover h s))) (sym path.1) ∙ ok_is ys.2 in
    subst (λ v. IsAttribute (sign Hash h ∷ group Square inside s ∷ rest) v rest) is (in_brackets path.2 (meta_sound p.0.1 m.0 m.1) (subst (λ v. HasItems v m.0 ys.0) path.1 has))

attribute_from : (w : Word) (ws : List Word) (xs : List AttributeItem) (rest : List Word) (o : Option AttributeItem) (h : Option Span) → as_outer_doc w ≡ o → as_sign Hash w ≡ h → attribute_behind o h ws ≡ Ok (xs, rest) → IsAttribute (w ∷ ws) xs rest
attribute_from w ws xs rest (Some a) h is hash e = along (λ v us. IsAttribute (w ∷ ws) v us) (a ∷ [], ws) (xs, rest) e (outer_doc is)
attribute_from w ws xs rest None None is hash e = cc
attribute_from w ws xs rest None (Some h) is hash e =
    let g = bind_ok (group_at Square ws) e in
    let a = bind_ok (attribute_in (cover h g.0.0.1) (words_of g.0.0.0)) g.2 in
    along (λ v us. IsAttribute (w ∷ ws) v us) (a.0, g.0.1) (xs, rest) a.2
    (subst (λ u. IsAttribute (u ∷ ws) a.0 g.0.1) (sym (as_sign-is Hash w h hash))
    (subst (λ us. IsAttribute (sign Hash h ∷ us) a.0 g.0.1) (sym (group-is Square ws g.0 g.1)) (in_sound h g.0.0.1 g.0.0.0 g.0.1 a.0 a.1)))

attribute_sound : (ws : List Word) (xs : List AttributeItem) (rest : List Word) → attribute_at ws ≡ Ok (xs, rest) → IsAttribute ws xs rest
unfolding attribute_at
attribute_sound [] xs rest e = cc
attribute_sound (w ∷ ws) xs rest e = attribute_from w ws xs rest (as_outer_doc w) (as_sign Hash w) refl refl e

pub attribute_shorter : {ws rest : List Word} {xs : List AttributeItem} → IsAttribute ws xs rest → length rest < length ws
attribute_shorter (outer_doc e) = omega arith
attribute_shorter (in_brackets p m f) = omega arith

attribute_shortens : (ws : List Word) (p : List AttributeItem × List Word) → attribute_at ws ≡ Ok p → length p.1 < length ws
attribute_shortens ws p e = attribute_shorter (attribute_sound ws p.0 p.1 e)

attribute_complete : {ws rest : List Word} {xs : List AttributeItem} → IsAttribute ws xs rest → attribute_at ws ≡ Ok (xs, rest)
unfolding attribute_at attribute_in
attribute_complete (outer_doc {w = w} {a = a} {rest = rest} e) = ap (λ o. attribute_behind o (as_sign Hash w) rest) e
attribute_complete (in_brackets {h = h} {s = s} {inside = inside} {xs = xs} {meta = m} {ys = ys} {ws = ws} {rest = rest} p r f) =
    let path = path_given (words_of inside) xs ws (path_item xs) (idents_complete p (meta_ends r)) refl in
    let whole : (path_at (words_of inside) >>= behind_path (cover h s)) ≡ keeps (path_item xs) (cover h s) m ys =
    ap (λ (q : Read WrittenPath). q >>= behind_path (cover h s)) path
    ∙ ap (λ (q : Result MetaItem Fault). q >>= with_items (path_item xs) (cover h s)) (meta_complete r)
    ∙ ap (λ (q : Result (List SerdeItem) Fault). q >>= keeps (path_item xs) (cover h s) m) (behind_complete f) in
    ap (λ (q : Result (List AttributeItem) Fault). q >>= λ ys. Ok (ys, rest)) whole

in_shallow : (span : Span) (ws : List Word) → Shallow (attribute_in span ws)
unfolding attribute_in
in_shallow span ws =
    then_shallow (path_at ws) (behind_path span) (path_shallow ws)
    (λ p. then_shallow (meta_of p.1) (with_items p.0 span) (meta_shallow p.1) (λ m. then_shallow (items_of p.0 m) (keeps p.0 span m) (behind_shallow p.0 m) (λ xs. ok_shallow (kept (attribute_item p.0 m xs span)))))

abbrev in_group : Span → (Trees × Span) × List Word → Read (List AttributeItem)
in_group h g = attribute_in (cover h g.0.1) (words_of g.0.0) >>= λ xs. Ok (xs, g.1)

from_shallow : (o : Option AttributeItem) (h : Option Span) (ws : List Word) → Shallow (attribute_behind o h ws)
from_shallow (Some a) h ws = ok_shallow (a ∷ [], ws)
from_shallow None None ws = wrong_shallow
from_shallow None (Some h) ws =
    then_shallow (group_at Square ws) (in_group h) (word_shallow (as_group Square) ws)
    (λ g. then_shallow (attribute_in (cover h g.0.1) (words_of g.0.0)) (λ xs. Ok (xs, g.1)) (in_shallow (cover h g.0.1) (words_of g.0.0)) (λ xs. ok_shallow (xs, g.1)))

attribute_shallow : (ws : List Word) → Shallow (attribute_at ws)
unfolding attribute_at
attribute_shallow [] = wrong_shallow
attribute_shallow (w ∷ ws) = from_shallow (as_outer_doc w) (as_sign Hash w) ws

begins_with : {ws rest : List Word} {xs : List AttributeItem} → IsAttribute ws xs rest → begin_attributes ws ≡ true
begins_with (outer_doc {w = w} e) = ap (λ o. is_some o || is_some (as_sign Hash w)) e
begins_with (in_brackets p m f) = refl

-- ---- attributes
abbrev goes_on : (List Word → Read (List AttributeItem)) → List AttributeItem × List Word → Read (List AttributeItem)
goes_on again p = with_before p.0 (again p.1)

same_turn : (again other : List Word → Read (List AttributeItem)) (ws : List Word) (r : Read (List AttributeItem)) → attribute_at ws ≡ r → ((mid : List Word) → length mid < length ws → again mid ≡ other mid)
    → (r >>= goes_on again) ≡ (r >>= goes_on other)
same_turn again other ws (Err f) e h = refl
same_turn again other ws (Ok p) e h = ap (with_before p.0) (h p.1 (attribute_shortens ws p e))

enough : (n m : ℕ) (ws : List Word) → length ws ≤ n → length ws ≤ m → attributes_within n ws ≡ attributes_within m ws
unfolding attributes_within
enough zero zero ws a b = refl
enough zero (suc m) [] a b = refl
enough zero (suc m) (w ∷ ws) a b = absurd (omega arith)
enough (suc n) zero [] a b = refl
enough (suc n) zero (w ∷ ws) a b = absurd (omega arith)
enough (suc n) (suc m) [] a b = refl
enough (suc n) (suc m) (w ∷ ws) a b =
    ap (λ r. cond (begins_attribute w) r (Ok ([], w ∷ ws)))
    (same_turn (attributes_within n) (attributes_within m) (w ∷ ws) (attribute_at (w ∷ ws)) refl (λ mid less. enough n m mid (omega arith) (omega arith)))

turn_is : (w : Word) (ws : List Word) → attributes_at (w ∷ ws) ≡ cond (begins_attribute w) (attribute_at (w ∷ ws) >>= goes_on attributes_at) (Ok ([], w ∷ ws))
unfolding attributes_at attributes_within
turn_is w ws =
    ap (λ r. cond (begins_attribute w) r (Ok ([], w ∷ ws)))
    (same_turn (attributes_within (length ws)) attributes_at (w ∷ ws) (attribute_at (w ∷ ws)) refl (λ mid less. enough (length ws) (length mid) mid (omega arith) (omega arith)))

pub none_begin : (ws : List Word) → begin_attributes ws ≡ false → attributes_at ws ≡ Ok ([], ws)
unfolding attributes_at attributes_within
none_begin [] e = refl
none_begin (w ∷ ws) e = turn_is w ws ∙ ap (λ b. cond b (attribute_at (w ∷ ws) >>= goes_on attributes_at) (Ok ([], w ∷ ws))) e

pub some_begin : (ws : List Word) → begin_attributes ws ≡ true → attributes_at ws ≡ (attribute_at ws >>= goes_on attributes_at)
some_begin [] e = cc
some_begin (w ∷ ws) e = turn_is w ws ∙ ap (λ b. cond b (attribute_at (w ∷ ws) >>= goes_on attributes_at) (Ok ([], w ∷ ws))) e

none_sound : (ws : List Word) (xs : List AttributeItem) (rest : List Word) → ◌≡◌ {A = Read (List AttributeItem)} (Ok ([], ws)) (Ok (xs, rest)) → IsAttributes ws xs rest
none_sound ws xs rest e = along (λ v us. IsAttributes ws v us) ([], ws) (xs, rest) e no_attributes

cond_sound : (n : ℕ) (w : Word) (ws : List Word) (xs : List AttributeItem) (rest : List Word) (b : Bool) → ((us : List Word) (ys : List AttributeItem) (vs : List Word) → attributes_within n us ≡ Ok (ys, vs) → IsAttributes us ys vs)
    → cond b (attribute_at (w ∷ ws) >>= goes_on (attributes_within n)) (Ok ([], w ∷ ws)) ≡ Ok (xs, rest) → IsAttributes (w ∷ ws) xs rest
cond_sound n w ws xs rest false others e = none_sound (w ∷ ws) xs rest e
cond_sound n w ws xs rest true others e =
    let p = bind_ok (attribute_at (w ∷ ws)) e in
    let q = bind_ok (attributes_within n p.0.1) p.2 in
    along (λ v us. IsAttributes (w ∷ ws) v us) (p.0.0 ++ q.0.0, q.0.1) (xs, rest) q.2 (more_attributes (attribute_sound (w ∷ ws) p.0.0 p.0.1 p.1) (others p.0.1 q.0.0 q.0.1 q.1))

within_sound : (n : ℕ) (ws : List Word) (xs : List AttributeItem) (rest : List Word) → attributes_within n ws ≡ Ok (xs, rest) → IsAttributes ws xs rest
unfolding attributes_within
within_sound zero [] xs rest e = none_sound [] xs rest e
within_sound zero (w ∷ ws) xs rest e = none_sound (w ∷ ws) xs rest e
within_sound (suc n) [] xs rest e = none_sound [] xs rest e
within_sound (suc n) (w ∷ ws) xs rest e = cond_sound n w ws xs rest (begins_attribute w) (within_sound n) e

pub attributes_sound : (ws : List Word) (xs : List AttributeItem) (rest : List Word) → attributes_at ws ≡ Ok (xs, rest) → IsAttributes ws xs rest
unfolding attributes_at
attributes_sound ws xs rest e = within_sound (length ws) ws xs rest e

pub attributes_no_longer : {ws rest : List Word} {xs : List AttributeItem} → IsAttributes ws xs rest → length rest ≤ length ws
attributes_no_longer no_attributes = omega arith
attributes_no_longer (more_attributes a r) = omega (arith, attribute_shorter a, attributes_no_longer r)

pub attributes_complete : {ws rest : List Word} {xs : List AttributeItem} → IsAttributes ws xs rest → begin_attributes rest ≡ false → attributes_at ws ≡ Ok (xs, rest)
attributes_complete (no_attributes {rest = rest}) ends = none_begin rest ends
attributes_complete (more_attributes {ws = ws} {mid = mid} {rest = rest} {first = first} {others = others} a r) ends =
    some_begin ws (begins_with a)
    ∙ ap (λ (q : Read (List AttributeItem)). q >>= goes_on attributes_at) (attribute_complete a)
    ∙ ap (with_before first) (attributes_complete r ends)

within_shallow : (n : ℕ) (ws : List Word) → Shallow (attributes_within n ws)
unfolding attributes_within
within_shallow zero [] = ok_shallow ([], [])
within_shallow zero (w ∷ ws) = ok_shallow ([], w ∷ ws)
within_shallow (suc n) [] = ok_shallow ([], [])
within_shallow (suc n) (w ∷ ws) =
    cond_shallow (begins_attribute w) (attribute_at (w ∷ ws) >>= goes_on (attributes_within n)) (Ok ([], w ∷ ws))
    (then_shallow (attribute_at (w ∷ ws)) (goes_on (attributes_within n)) (attribute_shallow (w ∷ ws))
    (λ p. λ at e. within_shallow n p.1 at (before_deep p.0 (attributes_within n p.1) at e)))
    (ok_shallow ([], w ∷ ws))

-- attributes never nest too deep
pub attributes_shallow : (ws : List Word) → Shallow (attributes_at ws)
unfolding attributes_at
attributes_shallow ws = within_shallow (length ws) ws

-- the turns of a loop
module _ (start : List Word) (front : List AttributeItem) (ws : List Word) (so_far : with_before front (attributes_at ws) ≡ attributes_at start) where
  pub attributes_done : begin_attributes ws ≡ false → attributes_at start ≡ Ok (front, ws)
  attributes_done e = sym so_far ∙ before_nothing front (attributes_at ws) ws (none_begin ws e)

  turned : begin_attributes ws ≡ true → attributes_at start ≡ with_before front (attribute_at ws >>= goes_on attributes_at)
  turned e = sym so_far ∙ ap (with_before front) (some_begin ws e)

  pub attributes_fail : (s : Stop) → begin_attributes ws ≡ true → Fails s (attribute_at ws) → Fails s (attributes_at start)
  attributes_fail s e f = like_fails s (turned e) (before_fails front s (attribute_at ws >>= goes_on attributes_at) (first_fails s (attribute_at ws) (goes_on attributes_at) f))

  pub attributes_turn : (xs : List AttributeItem) (us : List Word) → begin_attributes ws ≡ true → attribute_at ws ≡ Ok (xs, us) → with_before (front ++ xs) (attributes_at us) ≡ attributes_at start
  attributes_turn xs us e f =
      before_before front xs (attributes_at us)
      ∙ ap (λ (r : Read (List AttributeItem)). with_before front (r >>= goes_on attributes_at)) (sym f)
      ∙ sym (turned e)
