-- An index keeps the places of first rows while the list grows at its end.
use Rattle.std.proofs.Common.{ℕ, zero, suc, ◌<◌, List, [], ◌∷◌, ◌++◌, Option, Some, None, option_map, Bool, true, false, cond, ◌&&◌, ◌||◌, ◌==◌, bytes_eq, length, get_or, replicate, ◌≡◌, ◌≢◌, refl, ap, sym, ◌∙◌, subst, arith, ◌⊎◌, inl, inr, IfSome, find, codes}
use Rattle.std.specs.Map.{update}
use Rattle.std.proofs.lemmas.Slice.Eq.{bytes_eq-Decides}
use Rattle.std.proofs.lemmas.Bool.{false≢true, cases_eq, cases_Bool, false_from_ne_true, and_parts}
use Rattle.std.proofs.lemmas.List.{get_or-set_same, get_or-set_other, length-set}
use Rattle.texts.proofs.Laws.{or_at, or_at-suc, suc-place, or_at-none}
use Rattle.diag.specs.declared.rename_rule.RenameRule.{RenameRule}
use Rattle.diag.specs.declared.rename_rule.RenameRule.TheVariants.{Lower, Upper, Camel, Snake, ScreamingSnake, Pascal, Kebab, ScreamingKebab}
use Rattle.diag.specs.declared.rename_row.RenamePlace.{RenamePlace}
use Rattle.diag.specs.declared.rename_row.RenamePlace.TheVariants.{Field, Variant}
use Rattle.diag.specs.declared.rename_row.RenameRow.{RenameRow}
use Rattle.diag.specs.RenameRules.{name_of}
use Rattle.diag.specs.RenameRows.{same_rule, same_place, is_for}
use Rattle.diag.specs.RenameIndex.{rule_number, slot_of, place_in, slots_of, in_slot, put_place, IsIndex}

-- ---- what a row is for

rule_named : List ℕ → RenameRule
rule_named name =
    cond (bytes_eq name (codes "lowercase")) Lower (cond (bytes_eq name (codes "UPPERCASE")) Upper (cond (bytes_eq name (codes "camelCase")) Camel
    (cond (bytes_eq name (codes "snake_case")) Snake (cond (bytes_eq name (codes "SCREAMING_SNAKE_CASE")) ScreamingSnake
    (cond (bytes_eq name (codes "PascalCase")) Pascal (cond (bytes_eq name (codes "kebab-case")) Kebab ScreamingKebab))))))

named_rule : (rule : RenameRule) → rule_named (name_of rule) ≡ rule
unfolding rule_named
named_rule Lower = refl
named_rule Upper = refl
named_rule Camel = refl
named_rule Snake = refl
named_rule ScreamingSnake = refl
named_rule Pascal = refl
named_rule Kebab = refl
named_rule ScreamingKebab = refl

place_means : (one other : RenamePlace) → same_place one other ≡ true → one ≡ other
place_means Field Field e = refl
place_means Field Variant e = absurd (false≢true e)
place_means Variant Field e = absurd (false≢true e)
place_means Variant Variant e = refl

place_self : (place : RenamePlace) → same_place place place ≡ true
place_self Field = refl
place_self Variant = refl

pub record IsFor (rule : RenameRule) (place : RenamePlace) (value : List ℕ) (row : RenameRow) : Type 0 where
  pub rules : rule ≡ row.rule
  pub places : place ≡ row.place
  pub values : value ≡ row.from

for_means : (rule : RenameRule) (place : RenamePlace) (value : List ℕ) (row : RenameRow) → is_for rule place value row ≡ true → IsFor rule place value row
for_means rule place value row e =
    let parts = and_parts (same_rule rule row.rule && same_place place row.place) (bytes_eq value row.from) e in
    let inner = and_parts (same_rule rule row.rule) (same_place place row.place) parts.0 in
    record {
      rules = sym (named_rule rule) ∙ ap rule_named ((bytes_eq-Decides (name_of rule) (name_of row.rule)).0 inner.0) ∙ named_rule row.rule;
      places = place_means place row.place inner.1;
      values = (bytes_eq-Decides value row.from).0 parts.1;
    }

both_true : (a b c : Bool) → a ≡ true → b ≡ true → c ≡ true → a && b && c ≡ true
both_true true true true p q r = refl
both_true true true false p q r = r
both_true true false c p q r = absurd (false≢true q)
both_true false b c p q r = absurd (false≢true p)

for_self : (rule : RenameRule) (place : RenamePlace) (value : List ℕ) (row : RenameRow) → IsFor rule place value row → is_for rule place value row ≡ true
for_self rule place value row h =
    both_true (same_rule rule row.rule) (same_place place row.place) (bytes_eq value row.from)
    ((bytes_eq-Decides (name_of rule) (name_of row.rule)).1 (ap name_of h.rules))
    (ap (same_place place) (sym h.places) ∙ place_self place)
    ((bytes_eq-Decides value row.from).1 h.values)

-- ---- slots

rule_in : ℕ → RenameRule
rule_in slot =
    cond (slot == 0 || slot == 8) Lower (cond (slot == 1 || slot == 9) Upper (cond (slot == 2 || slot == 10) Camel
    (cond (slot == 3 || slot == 11) Snake (cond (slot == 4 || slot == 12) ScreamingSnake
    (cond (slot == 5 || slot == 13) Pascal (cond (slot == 6 || slot == 14) Kebab ScreamingKebab))))))

slot-rule : (rule : RenameRule) (place : RenamePlace) → rule_in (slot_of rule place) ≡ rule
unfolding rule_in
slot-rule Lower Field = refl
slot-rule Upper Field = refl
slot-rule Camel Field = refl
slot-rule Snake Field = refl
slot-rule ScreamingSnake Field = refl
slot-rule Pascal Field = refl
slot-rule Kebab Field = refl
slot-rule ScreamingKebab Field = refl
slot-rule Lower Variant = refl
slot-rule Upper Variant = refl
slot-rule Camel Variant = refl
slot-rule Snake Variant = refl
slot-rule ScreamingSnake Variant = refl
slot-rule Pascal Variant = refl
slot-rule Kebab Variant = refl
slot-rule ScreamingKebab Variant = refl

below_eight : (rule : RenameRule) → rule_number rule < 8
below_eight Lower = omega arith
below_eight Upper = omega arith
below_eight Camel = omega arith
below_eight Snake = omega arith
below_eight ScreamingSnake = omega arith
below_eight Pascal = omega arith
below_eight Kebab = omega arith
below_eight ScreamingKebab = omega arith

slot-within : (rule : RenameRule) (place : RenamePlace) → slot_of rule place < 16
slot-within rule Field = omega (arith, below_eight rule)
slot-within rule Variant = omega (arith, below_eight rule)

slot-place : (one other : RenameRule) (place q : RenamePlace) → slot_of one place ≡ slot_of other q → place ≡ q
slot-place one other Field Field e = refl
slot-place one other Field Variant e = absurd (omega (arith, below_eight one))
slot-place one other Variant Field e = absurd (omega (arith, below_eight other))
slot-place one other Variant Variant e = refl

-- ---- first rows

pub found_none : (p : RenameRow → Bool) (rows : List RenameRow) → place_in p rows ≡ None → find p rows ≡ None
found_none p [] e = refl
found_none p (row ∷ rows) e = by (p row) (place_in p rows) (find p rows) e (found_none p rows)
  where
    by : (b : Bool) (place : Option ℕ) (found : Option RenameRow) → cond b (Some 0) (option_map suc place) ≡ None → (place ≡ None → found ≡ None) → cond b (Some row) found ≡ None
    by true place found h later = cc
    by false None found h later = later refl
    by false (Some at) found h later = cc

pub found_within : (p : RenameRow → Bool) (rows : List RenameRow) (at : ℕ) → place_in p rows ≡ Some at → at < length rows
found_within p [] at e = cc
found_within p (row ∷ rows) at e = by (p row) (place_in p rows) e (found_within p rows)
  where
    by : (b : Bool) (place : Option ℕ) → cond b (Some 0) (option_map suc place) ≡ Some at → ((n : ℕ) → place ≡ Some n → n < length rows) → at < suc (length rows)
    by true place h later = let z : 0 ≡ at = cc in omega arith
    by false None h later = cc
    by false (Some n) h later = let z : suc n ≡ at = cc in let l : n < length rows = later n refl in omega arith

pub found_some : (p : RenameRow → Bool) (rows : List RenameRow) (at : ℕ) (d : RenameRow) → place_in p rows ≡ Some at → find p rows ≡ Some (get_or rows at d)
found_some p [] at d e = cc
found_some p (row ∷ rows) at d e = by (p row) (place_in p rows) e (found_some p rows)
  where
    by : (b : Bool) (place : Option ℕ) → cond b (Some 0) (option_map suc place) ≡ Some at → ((n : ℕ) (d : RenameRow) → place ≡ Some n → find p rows ≡ Some (get_or rows n d)) → cond b (Some row) (find p rows) ≡ Some (get_or (row ∷ rows) at d)
    by true place h later = let z : 0 ≡ at = cc in subst (λ n. Some row ≡ Some (get_or (row ∷ rows) n d)) z refl
    by false None h later = cc
    by false (Some n) h later = let z : suc n ≡ at = cc in subst (λ m. find p rows ≡ Some (get_or (row ∷ rows) m d)) z (later n d refl)

-- ---- one row more

place_in-push : (p : RenameRow → Bool) (rows : List RenameRow) (row : RenameRow) → place_in p (rows ++ row ∷ []) ≡ or_at (place_in p rows) (cond (p row) (Some (length rows)) None)
place_in-push p [] row = refl
place_in-push p (first ∷ rows) row =
    by (p first) (place_in-push p rows row)
  where
    by : (b : Bool) → place_in p (rows ++ row ∷ []) ≡ or_at (place_in p rows) (cond (p row) (Some (length rows)) None) →
        cond b (Some 0) (option_map suc (place_in p (rows ++ row ∷ []))) ≡ or_at (cond b (Some 0) (option_map suc (place_in p rows))) (cond (p row) (Some (suc (length rows))) None)
    by true before = refl
    by false before = ap (option_map suc) before ∙ or_at-suc (place_in p rows) (cond (p row) (Some (length rows)) None) ∙ ap (or_at (option_map suc (place_in p rows))) (suc-place (p row) (length rows))

none_free : (n slot : ℕ) → get_or {A = Option ℕ} (replicate n None) slot None ≡ None
none_free zero slot = refl
none_free (suc n) zero = refl
none_free (suc n) (suc slot) = none_free n slot

in_slots : (slot : ℕ) (slots : Option (List (Option ℕ))) → get_or (slots_of slots) slot None ≡ in_slot slot slots
in_slots slot None = none_free 16 slot
in_slots slot (Some slots) = refl

slots-length : (slots : Option (List (Option ℕ))) → IfSome slots (λ s. length s ≡ 16) → length (slots_of slots) ≡ 16
slots-length None h = refl
slots-length (Some slots) h = h

put-length : (o : Option ℕ) (slot at : ℕ) (slots : List (Option ℕ)) → length (put_place o slot at slots) ≡ length slots
put-length None slot at slots = length-set slots slot (Some at)
put-length (Some taken) slot at slots = refl

put-same : (o : Option ℕ) (slot at : ℕ) (slots : List (Option ℕ)) → slot < length slots → get_or slots slot None ≡ o → get_or (put_place o slot at slots) slot None ≡ or_at o (Some at)
put-same None slot at slots l e = get_or-set_same slots slot (Some at) None l
put-same (Some taken) slot at slots l e = e

put-other : (o : Option ℕ) (slot other at : ℕ) (slots : List (Option ℕ)) → other ≢ slot → get_or (put_place o slot at slots) other None ≡ get_or slots other None
put-other None slot other at slots n = get_or-set_other slots slot other (Some at) None n
put-other (Some taken) slot other at slots n = refl

module _ (m n : List ℕ → Option (List (Option ℕ))) (rows : List RenameRow) (row : RenameRow) where
  abbrev own : ℕ
  own = slot_of row.rule row.place

  abbrev before : List (Option ℕ)
  before = slots_of (m row.from)

  abbrev after : List (Option ℕ)
  after = put_place (get_or before own None) own (length rows) before

  pub index_push : IsIndex m rows → ((value : List ℕ) → n value ≡ update bytes_eq m row.from (Some after) value) → IsIndex n (rows ++ row ∷ [])
  index_push is grown = record {
    sizes = λ value. subst (λ slots. IfSome slots (λ s. length s ≡ 16)) (sym (grown value)) (size value (bytes_eq row.from value));
    places = λ rule place value. ap (in_slot (slot_of rule place)) (grown value) ∙ at (slot_of rule place) rule place value refl (cases_Bool (bytes_eq row.from value)) ∙ sym (place_in-push (is_for rule place value) rows row);
  }
    where
      full : length before ≡ 16
      full = slots-length (m row.from) (is.sizes row.from)

      size : (value : List ℕ) (b : Bool) → IfSome (cond b (Some after) (m value)) (λ s. length s ≡ 16)
      size value true = put-length (get_or before own None) own (length rows) before ∙ full
      size value false = is.sizes value

      here : (rule : RenameRule) (place : RenamePlace) (value : List ℕ) → value ≡ row.from → (slot_of rule place ≡ own) ⊎ (slot_of rule place ≡ own → ⊥) →
          get_or after (slot_of rule place) None ≡ or_at (place_in (is_for rule place value) rows) (cond (is_for rule place value row) (Some (length rows)) None)
      here rule place value e (inl s) =
          let rules : rule ≡ row.rule = sym (slot-rule rule place) ∙ ap rule_in s ∙ slot-rule row.rule row.place in
          let places : place ≡ row.place = slot-place rule row.rule place row.place s in
          let for : is_for rule place value row ≡ true = for_self rule place value row (record { rules = rules; places = places; values = e }) in
          let old : get_or before own None ≡ place_in (is_for rule place value) rows =
          in_slots own (m row.from) ∙ ap (λ k. in_slot k (m row.from)) (sym s) ∙ ap (λ v. in_slot (slot_of rule place) (m v)) (sym e) ∙ is.places rule place value in
          ap (λ k. get_or after k None) s
          ∙ put-same (get_or before own None) own (length rows) before (subst (λ k. own < k) (sym full) (slot-within row.rule row.place)) refl
          ∙ ap (λ o. or_at o (Some (length rows))) old
          ∙ ap (λ b. or_at (place_in (is_for rule place value) rows) (cond b (Some (length rows)) None)) (sym for)
      here rule place value e (inr s) =
          let not_for : is_for rule place value row ≡ false = false_from_ne_true (is_for rule place value row) (λ t. let h = for_means rule place value row t in s (ap (λ r. slot_of r place) h.rules ∙ ap (slot_of row.rule) h.places)) in
          put-other (get_or before own None) own (slot_of rule place) (length rows) before s
          ∙ in_slots (slot_of rule place) (m row.from)
          ∙ ap (λ v. in_slot (slot_of rule place) (m v)) (sym e)
          ∙ is.places rule place value
          ∙ sym (or_at-none (place_in (is_for rule place value) rows))
          ∙ ap (λ b. or_at (place_in (is_for rule place value) rows) (cond b (Some (length rows)) None)) (sym not_for)

      at : (slot : ℕ) (rule : RenameRule) (place : RenamePlace) (value : List ℕ) → slot ≡ slot_of rule place → (bytes_eq row.from value ≡ true) ⊎ (bytes_eq row.from value ≡ false) →
          in_slot (slot_of rule place) (update bytes_eq m row.from (Some after) value) ≡ or_at (place_in (is_for rule place value) rows) (cond (is_for rule place value row) (Some (length rows)) None)
      at slot rule place value k (inl t) =
          ap (λ b. in_slot (slot_of rule place) (cond b (Some after) (m value))) t
          ∙ here rule place value (sym ((bytes_eq-Decides row.from value).0 t)) (cases_eq (slot_of rule place) own)
      at slot rule place value k (inr t) =
          let not_for : is_for rule place value row ≡ false = false_from_ne_true (is_for rule place value row) (λ u. false≢true (sym t ∙ (bytes_eq-Decides row.from value).1 (sym (for_means rule place value row u).values))) in
          ap (λ b. in_slot (slot_of rule place) (cond b (Some after) (m value))) t
          ∙ is.places rule place value
          ∙ sym (or_at-none (place_in (is_for rule place value) rows))
          ∙ ap (λ b. or_at (place_in (is_for rule place value) rows) (cond b (Some (length rows)) None)) (sym not_for)
