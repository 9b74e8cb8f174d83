-- What stands before a field's name or type, and before an item's first keyword: attributes and a visibility.
use Rattle.std.proofs.Common.{◌≡◌, ℕ, ◌≤◌, ◌⊎◌, inl, inr, List, [], ◌∷◌, length, refl, ap, sym, subst, arith, codes, take, Bool, true, false, not, ◌&&◌, ◌||◌, cond, Some, None, Ok, Err}
use Rattle.std.proofs.lemmas.Slice.Eq.{bytes_eq-Decides}
use Rattle.std.specs.Option.{option_map}
use Rattle.std.specs.Str.{bytes_eq}
use Rattle.texts.specs.declared.span.Span.{Span}
use Rattle.tokens.specs.declared.token.Bracket.TheVariants.{Round, Square, Curly}
use Rattle.tokens.specs.Trees.{Trees}
use Rattle.written_types.specs.declared.written.Ident.{Ident}
use Rattle.words.specs.declared.vocabulary.Keyword.TheVariants.{Pub}
use Rattle.words.specs.Words.{Word, name, underscore, keyword, sign, lifetime, literal, doc, group, words_of}
use Rattle.words.specs.Reading.{wrong, Read, taken, as_keyword, keyword_at}
use Rattle.attributes.specs.Attributes.{AttributeItem}
use Rattle.attributes.specs.AttributeWords.{begins, is_inner_text, doc_attribute, as_outer_doc}
use Rattle.attributes.specs.AttributeGrammar.{IsAttribute, outer_doc, in_brackets, IsAttributes, no_attributes, more_attributes}
use Rattle.attributes.specs.AttributeReading.{begin_attributes}
use Rattle.words.specs.Visibility.{is_restriction}
use Rattle.syntax.specs.ItemGrammar.{IsVisibility, private, public, restricted}
use Rattle.syntax.specs.ItemReading.{is_scope, ends_item, after_scope, after_pub, after_visibility, inner_at}
use Rattle.words.proofs.Laws.{keyword-is}

-- no attribute stands first
abbrev pub NoAttribute : List Word → Type 0
NoAttribute ws = begin_attributes ws ≡ false

-- ---- visibilities
pub scope-is : (w : Word) → is_scope w ≡ true → (inside : Trees) × (s : Span) × (w ≡ group Round inside s) × (is_restriction (words_of inside) ≡ true)
scope-is (name x) e = cc
scope-is (underscore x) e = cc
scope-is (keyword k x) e = cc
scope-is (sign k s) e = cc
scope-is (lifetime x) e = cc
scope-is (literal t) e = cc
scope-is (doc t) e = cc
scope-is (group Round inside s) e = (inside, s, refl, e)
scope-is (group Square inside s) e = cc
scope-is (group Curly inside s) e = cc

scope_from_sound : (x : Ident) (w : Word) (ws : List Word) (a b : Bool) → is_scope w ≡ a → IsVisibility (keyword Pub x ∷ w ∷ ws) (cond (a && b) ws (w ∷ ws))
scope_from_sound x w ws false b e = public
scope_from_sound x w ws true false e = public
scope_from_sound x w ws true true e = let h = scope-is w e in subst (λ v. IsVisibility (keyword Pub x ∷ v ∷ ws) ws) (sym h.2) (restricted h.3)

scope_sound : (x : Ident) (in_tuple : Bool) (us : List Word) → IsVisibility (keyword Pub x ∷ us) (after_scope in_tuple us)
scope_sound x in_tuple [] = public
scope_sound x in_tuple (w ∷ ws) = scope_from_sound x w ws (is_scope w) (not (in_tuple && ends_item ws)) refl

pub_sound : (in_tuple : Bool) (ws : List Word) (r : Read Span) → keyword_at Pub ws ≡ r → IsVisibility ws (after_pub in_tuple ws r)
pub_sound in_tuple ws (Err e) is = private
pub_sound in_tuple ws (Ok p) is = let h = keyword-is Pub ws p is in subst (λ v. IsVisibility v (after_scope in_tuple p.1)) (sym h.1) (scope_sound h.0 in_tuple p.1)

pub visibility_sound : (in_tuple : Bool) (ws : List Word) → IsVisibility ws (after_visibility in_tuple ws)
unfolding after_visibility
visibility_sound in_tuple ws = pub_sound in_tuple ws (keyword_at Pub ws) refl

pub visibility_no_longer : {ws rest : List Word} → IsVisibility ws rest → length rest ≤ length ws
visibility_no_longer private = omega arith
visibility_no_longer public = omega arith
visibility_no_longer (restricted e) = omega arith

pub visibility_no_attribute : {ws rest : List Word} → IsVisibility ws rest → NoAttribute rest → NoAttribute ws
visibility_no_attribute private n = n
visibility_no_attribute public n = refl
visibility_no_attribute (restricted e) n = refl

-- `pub` does not stand first
pub pub_left : (in_tuple : Bool) (w : Word) (ws : List Word) → as_keyword Pub w ≡ None → after_visibility in_tuple (w ∷ ws) ≡ w ∷ ws
unfolding after_visibility
pub_left in_tuple w ws e = ap (λ o. after_pub in_tuple (w ∷ ws) (taken o ws)) e

-- a group behind `pub` is left, or it is not
pub scope_left : (x : Ident) (in_tuple : Bool) (w : Word) (ws : List Word) → (is_scope w && not (in_tuple && ends_item ws)) ≡ false → after_visibility in_tuple (keyword Pub x ∷ w ∷ ws) ≡ w ∷ ws
unfolding after_visibility
scope_left x in_tuple w ws e = ap (λ b. cond b ws (w ∷ ws)) e

pub scope_passed : (x : Ident) (in_tuple : Bool) (w : Word) (ws : List Word) → (is_scope w && not (in_tuple && ends_item ws)) ≡ true → after_visibility in_tuple (keyword Pub x ∷ w ∷ ws) ≡ ws
unfolding after_visibility
scope_passed x in_tuple w ws e = ap (λ b. cond b ws (w ∷ ws)) e

-- where a word stands that is neither `pub` nor a group, what was passed is the visibility
pub visibility_complete : {us vs : List Word} (w : Word) (ws : List Word) → IsVisibility us vs → vs ≡ w ∷ ws → as_keyword Pub w ≡ None → is_scope w ≡ false → after_visibility false us ≡ vs
visibility_complete w ws (private {rest = rest}) e p g = subst (λ v. after_visibility false v ≡ v) (sym e) (pub_left false w ws p)
visibility_complete w ws (public {x = x} {rest = rest}) e p g = subst (λ v. after_visibility false (keyword Pub x ∷ v) ≡ v) (sym e) (scope_left x false w ws (ap (λ b. b && true) g))
visibility_complete w ws (restricted {x = x} {inside = inside} {s = s} {rest = rest} h) e p g = scope_passed x false (group Round inside s) rest (ap (λ b. b && true) h)

-- ---- inner docs and attributes do not stand first
abbrev pub NoInner : List Word → Type 0
NoInner ws = inner_at ws ≡ Err wrong

not_inner : (mark : List ℕ) → (bytes_eq mark (codes "///") ≡ true) ⊎ (bytes_eq mark (codes "/**") ≡ true) → (bytes_eq mark (codes "//!") || bytes_eq mark (codes "/*!")) ≡ false
not_inner mark (inl e) = subst (λ v. (bytes_eq v (codes "//!") || bytes_eq v (codes "/*!")) ≡ false) (sym ((bytes_eq-Decides mark (codes "///")).0 e)) refl
not_inner mark (inr e) = subst (λ v. (bytes_eq v (codes "//!") || bytes_eq v (codes "/*!")) ≡ false) (sym ((bytes_eq-Decides mark (codes "/**")).0 e)) refl

outer_begins : (a b : Bool) (x y : List ℕ) (s : Span) (z : AttributeItem) → option_map (doc_attribute s) (cond a (Some x) (cond b (Some y) None)) ≡ Some z → (a ≡ true) ⊎ (b ≡ true)
outer_begins true b x y s z e = inl refl
outer_begins false true x y s z e = inr refl
outer_begins false false x y s z e = cc

doc_no_inner : (w : Word) (ws : List Word) (a : AttributeItem) → as_outer_doc w ≡ Some a → NoInner (w ∷ ws)
doc_no_inner (name x) ws a e = cc
doc_no_inner (underscore x) ws a e = cc
doc_no_inner (keyword k x) ws a e = cc
doc_no_inner (sign k s) ws a e = cc
doc_no_inner (lifetime x) ws a e = cc
doc_no_inner (literal t) ws a e = cc
doc_no_inner (doc t) ws a e =
    let which = outer_begins (begins (codes "///") t.text) (begins (codes "/**") t.text) _ _ t.span a e in
    let is : is_inner_text t.text ≡ false = not_inner (take 3 t.text) which in
    ap (λ b. cond b (Ok ws) (Err wrong)) is
doc_no_inner (group b ts s) ws a e = cc

attribute_no_inner : {ws rest : List Word} {xs : List AttributeItem} → IsAttribute ws xs rest → NoInner ws
attribute_no_inner (outer_doc {w = w} {a = a} {rest = rest} e) = doc_no_inner w rest a e
attribute_no_inner (in_brackets p m f) = refl

pub attributes_no_inner : {ws us : List Word} {xs : List AttributeItem} → IsAttributes ws xs us → NoInner us → NoInner ws
attributes_no_inner no_attributes n = n
attributes_no_inner (more_attributes a r) n = attribute_no_inner a

pub visibility_no_inner : {us vs : List Word} → IsVisibility us vs → NoInner vs → NoInner us
visibility_no_inner private n = n
visibility_no_inner public n = refl
visibility_no_inner (restricted e) n = refl
