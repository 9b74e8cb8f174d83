-- The items of what is read are those of its lists.
use Rattle.std.proofs.Common.{◌≡◌, ◌∙◌, ◌↔◌, ℕ, List, [], ◌∷◌, refl, sym, subst, codes, Bool, true, false, cond, Option, Some, None, option_map}
use Rattle.std.specs.List.{All}
use Rattle.std.proofs.lemmas.List.Elements.{All-nil, All-cons, All-append}
use Rattle.texts.specs.declared.span.Span.{Span}
use Rattle.written_types.specs.Written.{WrittenPath}
use Rattle.words.specs.Words.{Word, name, underscore, keyword, sign, lifetime, literal, doc, group}
use Rattle.words.proofs.Laws.{ok_is}
use Rattle.attributes.specs.declared.serde_item.SerdeItem.{SerdeItem}
use Rattle.attributes.specs.Attributes.{MetaItem, AttributeItem, is_word}
use Rattle.attributes.specs.AttributeWords.{outer_text, doc_attribute, as_outer_doc}
use Rattle.attributes.specs.AttributeGrammar.{IsSerdeList, HasItems, of_serde, of_another, IsAttribute, outer_doc, in_brackets, IsAttributes, no_attributes, more_attributes}
use Rattle.attributes.proofs.Whole.{list_complete}

-- the attribute has the items of what stands behind its path
abbrev HasOwn : AttributeItem → Type 0
HasOwn a = HasItems a.path a.meta a.items

doc_from : (span : Span) (text : Option (List ℕ)) (a : AttributeItem) → option_map (doc_attribute span) text ≡ Some a → HasOwn a
doc_from span None a e = cc
doc_from span (Some text) a e = let same : doc_attribute span text ≡ a = cc in subst (λ b. HasOwn b) same (of_another refl)

doc_own : (w : Word) (a : AttributeItem) → as_outer_doc w ≡ Some a → HasOwn a
doc_own (name x) a e = cc
doc_own (underscore x) a e = cc
doc_own (keyword k x) a e = cc
doc_own (sign k s) a e = cc
doc_own (lifetime x) a e = cc
doc_own (literal t) a e = cc
doc_own (doc t) a e = doc_from t.span (outer_text t.text) a e
doc_own (group b ts s) a e = cc

kept_own : (b : Bool) (a : AttributeItem) → HasOwn a → All HasOwn (cond b (a ∷ []) [])
kept_own true a h = All-cons HasOwn a [] h (All-nil HasOwn)
kept_own false a h = All-nil HasOwn

attribute_own : {ws rest : List Word} {xs : List AttributeItem} → IsAttribute ws xs rest → All HasOwn xs
attribute_own (outer_doc {w = w} {a = a} e) = All-cons HasOwn a [] (doc_own w a e) (All-nil HasOwn)
attribute_own (in_brackets p m h) = kept_own _ _ h

attributes_own : {ws rest : List Word} {xs : List AttributeItem} → IsAttributes ws xs rest → All HasOwn xs
attributes_own no_attributes = All-nil HasOwn
attributes_own (more_attributes {first = first} {others = others} a r) = All-append HasOwn first others (attribute_own a) (attributes_own r)

one_list : (m : MetaItem) (xs ys : List SerdeItem) → IsSerdeList m xs → IsSerdeList m ys → xs ≡ ys
one_list m xs ys r q = ok_is (sym (list_complete m xs r) ∙ list_complete m ys q)

listed_from : (path : WrittenPath) (m : MetaItem) (ys : List SerdeItem) → HasItems path m ys → is_word (codes "serde") path ≡ true → (xs : List SerdeItem) → (ys ≡ xs) ↔ IsSerdeList m xs
listed_from path m ys (of_serde is r) serde xs = (λ e. subst (λ v. IsSerdeList m v) e r, λ q. one_list m ys xs r q)
listed_from path m ys (of_another is) serde xs = let never : false ≡ true = sym is ∙ serde in cc

none_from : (path : WrittenPath) (m : MetaItem) (ys : List SerdeItem) → HasItems path m ys → is_word (codes "serde") path ≡ false → ys ≡ []
none_from path m ys (of_serde is r) other = let never : true ≡ false = sym is ∙ other in cc
none_from path m ys (of_another is) other = refl

pub are_listed : {ws rest : List Word} {xs : List AttributeItem} → IsAttributes ws xs rest
    → All (λ a. is_word (codes "serde") a.path ≡ true → (items : List SerdeItem) → (a.items ≡ items) ↔ IsSerdeList a.meta items) xs
are_listed {xs = xs} r = λ i d l. listed_from _ _ _ (attributes_own r i d l)

pub have_none : {ws rest : List Word} {xs : List AttributeItem} → IsAttributes ws xs rest → All (λ a. is_word (codes "serde") a.path ≡ false → a.items ≡ []) xs
have_none r = λ i d l. none_from _ _ _ (attributes_own r i d l)
