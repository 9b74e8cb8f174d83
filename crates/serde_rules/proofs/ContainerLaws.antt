-- What items say of a struct or an enum, with one item more.
use Rattle.std.proofs.Common.{◌≡◌, ◌≢◌, ◌<◌, ℕ, suc, IsSomeAnd, option_map, List, [], ◌∷◌, ◌++◌, length, take, drop, get_or, Bool, true, false, ◌||◌, cond, Option, Some, None, IsSome, is_some, MatchOption, Result, Ok, Err, refl, ap, sym, subst, ◌∙◌, ◌&&◌, ◌⊎◌, inl, inr, codes, fold, find, bytes_eq, map, append-nil, append_assoc}
use Rattle.std.proofs.lemmas.Bool.{and_parts, and_from, false_from_ne_true}
use Rattle.std.specs.List.{list_all}
use Rattle.std.specs.Option.{option_or, option_and_then, option_map_or}
use Rattle.std.proofs.Common.{drop-cons}
use Rattle.std.proofs.lemmas.List.{take-append-drop, map-append}
use Rattle.std.proofs.lemmas.List.Folds.{list_all-append}
use Rattle.std.proofs.lemmas.List.Sums.{fold-append}
use Rattle.std.proofs.lemmas.Slice.Eq.{bytes_eq-Decides}
use Rattle.diag.specs.Diagnostics.{diagnostic}
use Rattle.diag.specs.Refusal.{IsErrorFor, IsRefusal}
use Rattle.diag.specs.declared.kind.Kind.{Kind}
use Rattle.diag.specs.declared.kind.Kind.TheVariants.{BadValue, SerdeTag}
use Rattle.diag.specs.declared.error.DeriveError.{DeriveError}
use Rattle.diag.specs.declared.error.DeriveError.TheVariants.{Refused, Memory}
use Rattle.texts.specs.declared.span.Span.{Span}
use Rattle.texts.proofs.Laws.{same_place}
use Rattle.attributes.specs.Attributes.{attribute_view, serde_items}
use Rattle.attributes.specs.declared.attribute.Attribute.{Attribute}
use Rattle.attributes.specs.declared.serde_item.SerdeItem.{SerdeItem}
use Rattle.attributes.specs.declared.serde_item.SerdeText.{SerdeText}
use Rattle.std.specs.Result.{result_ok}
use Rattle.diag.specs.RenameRules.{name_of, IsRuleNamed}
use Rattle.diag.specs.declared.rename_rule.UnknownRule.{UnknownRule}
use Rattle.diag.specs.declared.rename_rule.RenameRule.{RenameRule}
use Rattle.diag.specs.declared.rename_rule.RenameRule.TheVariants.{Lower, Upper, Pascal, Camel, Snake, ScreamingSnake, Kebab, ScreamingKebab}
use Rattle.serde_rules.specs.declared.container.SerdeContainer.{SerdeContainer}
use Rattle.serde_rules.specs.declared.enum_repr.SerdeEnumRepr.{SerdeEnumRepr}
use Rattle.serde_rules.specs.declared.enum_repr.SerdeEnumRepr.TheVariants.{ExternallyTagged, Untagged}
use Rattle.serde_rules.specs.Items.{is_named, literal_for, text_for, last_text}
use Rattle.serde_rules.specs.Container.{TagFault, with_literals, with_item, further, representation, all_rules, rule_named, unknown_rule, names_known_rule, AreContainerRules, IsTagRefusal, IsRuleRefusal, IsItemRefusal, IsContainerRefusal}
use Rattle.serde_rules.proofs.ItemLaws.{any_more, all_more, last_more, items_joined}

-- ---- rename rules

pub found_by_name : (rule : RenameRule) → rule_named (name_of rule) ≡ Some rule
found_by_name Lower = refl
found_by_name Upper = refl
found_by_name Pascal = refl
found_by_name Camel = refl
found_by_name Snake = refl
found_by_name ScreamingSnake = refl
found_by_name Kebab = refl
found_by_name ScreamingKebab = refl

named_is : (rule : RenameRule) (text : List ℕ) → name_of rule ≡ text → rule_named text ≡ Some rule
named_is rule text e = subst (λ t. rule_named t ≡ Some rule) e (found_by_name rule)

found_passes : {A : Type 0} (p : A → Bool) (xs : List A) (x : A) → find p xs ≡ Some x → p x ≡ true
found_passes p [] x e = cc
found_passes p (y ∷ xs) x e = by (p y) refl e (found_passes p xs x)
  where
    by : (b : Bool) → p y ≡ b → cond b (Some y) (find p xs) ≡ Some x → (find p xs ≡ Some x → p x ≡ true) → p x ≡ true
    by true is f later = let same : y ≡ x = cc in subst (λ z. p z ≡ true) same is
    by false is f later = later f

pub found_has_name : (text : List ℕ) (rule : RenameRule) → rule_named text ≡ Some rule → name_of rule ≡ text
found_has_name text rule e = (bytes_eq-Decides (name_of rule) text).0 (found_passes (λ rule. bytes_eq (name_of rule) text) all_rules rule e)

find_none : {A : Type 0} (p : A → Bool) (xs : List A) → ((x : A) → p x ≡ false) → find p xs ≡ None
find_none p [] h = refl
find_none p (x ∷ xs) h = ap (λ b. cond b (Some x) (find p xs)) (h x) ∙ find_none p xs h

named_none : (text : List ℕ) → ((rule : RenameRule) → name_of rule ≢ text) → rule_named text ≡ None
named_none text h = find_none (λ rule. bytes_eq (name_of rule) text) all_rules (λ rule. false_from_ne_true (bytes_eq (name_of rule) text) (λ e. h rule ((bytes_eq-Decides (name_of rule) text).0 e)))

-- reading a name finds its rule
pub named : (text : List ℕ) (read : Result RenameRule UnknownRule) → IsRuleNamed text read → result_ok read ≡ rule_named text
named text (Ok rule) h = sym (named_is rule text h)
named text (Err e) h = sym (named_none text h)

-- ---- one item more

abbrev pub NextRule : Option RenameRule → SerdeItem → Option RenameRule → Type 0
NextRule so_far item rule = MatchOption (text_for (codes "rename_all") item) (rule ≡ so_far) (λ text. (rule_named text ≡ rule) × IsSome rule)

next_rule : (name last : Option (List ℕ)) (so_far rule : Option RenameRule) → so_far ≡ option_and_then rule_named last → MatchOption name (rule ≡ so_far) (λ text. (rule_named text ≡ rule) × IsSome rule)
    → rule ≡ option_and_then rule_named (option_or name last)
next_rule None last so_far rule e h = h ∙ e
next_rule (Some text) last so_far rule e h = sym h.0

next_known : (name : Option (List ℕ)) (so_far rule : Option RenameRule) → MatchOption name (rule ≡ so_far) (λ text. (rule_named text ≡ rule) × IsSome rule)
    → option_map_or (λ text. is_some (rule_named text)) name true ≡ true
next_known None so_far rule h = refl
next_known (Some text) so_far rule h = ap is_some h.0 ∙ h.1

representation_more : (before : List SerdeItem) (item : SerdeItem) → representation (before ++ item ∷ []) ≡ further (representation before) item
representation_more before item = fold-append further (Ok ExternallyTagged) before (item ∷ [])

pub record IsNext (so_far : SerdeContainer) (item : SerdeItem) (rules : SerdeContainer) : Type 0 where
  pub rename_all : NextRule so_far.rename_all item rules.rename_all
  pub enum_repr : with_item item so_far.enum_repr ≡ Ok rules.enum_repr
  pub default : rules.default ≡ (so_far.default || is_named (codes "default") item)
  pub deny_unknown_fields : rules.deny_unknown_fields ≡ (so_far.deny_unknown_fields || is_named (codes "deny_unknown_fields") item)

-- the rules of the items before, and of one item more
pub rules_more : (so_far rules : SerdeContainer) (before : List SerdeItem) (item : SerdeItem) → IsNext so_far item rules → AreContainerRules before so_far → AreContainerRules (before ++ item ∷ []) rules
rules_more so_far rules before item next is = record {
  rename_all = next_rule (text_for (codes "rename_all") item) (last_text (codes "rename_all") before) so_far.rename_all rules.rename_all is.rename_all next.rename_all
      ∙ ap (option_and_then rule_named) (sym (last_more (codes "rename_all") before item));
  known = all_more names_known_rule before item
      ∙ and_from (list_all names_known_rule before) (names_known_rule item) is.known (next_known (text_for (codes "rename_all") item) so_far.rename_all rules.rename_all next.rename_all);
  enum_repr = representation_more before item ∙ ap (λ r. further r item) is.enum_repr ∙ next.enum_repr;
  default = next.default ∙ ap (λ b. b || is_named (codes "default") item) is.default ∙ sym (any_more (is_named (codes "default")) before item);
  deny_unknown_fields = next.deny_unknown_fields ∙ ap (λ b. b || is_named (codes "deny_unknown_fields") item) is.deny_unknown_fields ∙ sym (any_more (is_named (codes "deny_unknown_fields")) before item);
}

-- ---- refusals

-- the first item at fault is that of more items
refused_more : (xs ys : List SerdeItem) (e : DeriveError) → IsContainerRefusal xs e → IsContainerRefusal (xs ++ ys) e
refused_more xs ys e (before, item, behind, whole, so_far, are, why) = (before, item, behind ++ ys, ap (λ zs. zs ++ ys) whole ∙ append_assoc before (item ∷ behind) ys, so_far, are, why)

whole_at : {A : Type 0} (xs : List A) (i : ℕ) (x : A) → i < length xs → x ≡ get_or xs i x → take i xs ++ x ∷ drop (suc i) xs ≡ xs
whole_at xs i x l at = ap (λ ys. take i xs ++ ys) (ap (λ y. y ∷ drop (suc i) xs) at ∙ sym (drop-cons xs i x l)) ∙ take-append-drop i xs

-- what refuses the item at a place, behind items that say rules, refuses these and those before them
pub refuses : (before items : List SerdeItem) (i : ℕ) (item : SerdeItem) (so_far : SerdeContainer) (e : DeriveError) → i < length items → item ≡ get_or items i item
    → AreContainerRules (before ++ take i items) so_far → IsErrorFor (IsItemRefusal so_far item) e → IsErrorFor (IsContainerRefusal (before ++ items)) e
refuses before items i item so_far e l at are (inl memory) = inl memory
refuses before items i item so_far e l at are (inr why) =
    let after = drop (suc i) items in
    inr (before ++ take i items, item, after, sym (append_assoc before (take i items) (item ∷ after) ∙ ap (λ xs. before ++ xs) (whole_at items i item l at)), so_far, are, why)

abbrev items_on : List Attribute → List SerdeItem
items_on attributes = serde_items (map attribute_view attributes)

-- what refuses the items up to an attribute refuses those of all
pub refuses_all : (attributes : List Attribute) (i : ℕ) (a : Attribute) (e : DeriveError) → i < length attributes → a ≡ get_or attributes i a
    → IsContainerRefusal (items_on (take i attributes) ++ a.items) e → IsContainerRefusal (items_on attributes) e
refuses_all attributes i a e l at refused =
    let after = drop (suc i) attributes in
    let joined : items_on (take i attributes ++ a ∷ after) ≡ items_on (take i attributes) ++ items_on (a ∷ after) =
    ap serde_items (map-append attribute_view (take i attributes) (a ∷ after)) ∙ items_joined (map attribute_view (take i attributes)) (map attribute_view (a ∷ after)) in
    subst (λ xs. IsContainerRefusal (items_on xs) e) (whole_at attributes i a l at)
    (subst (λ xs. IsContainerRefusal xs e) (append_assoc (items_on (take i attributes)) a.items (items_on after) ∙ sym joined)
    (refused_more (items_on (take i attributes) ++ a.items) (items_on after) e refused))

-- ---- the rules are one, and are no refusal

ok_is : (one other : SerdeEnumRepr) → ◌≡◌ {A = Result SerdeEnumRepr TagFault} (Ok one) (Ok other) → one ≡ other
ok_is one other e = cc

same_rules : (a s : Option RenameRule) (b t : SerdeEnumRepr) (c u d v : Bool) → a ≡ s → b ≡ t → c ≡ u → d ≡ v
    → ◌≡◌ {A = SerdeContainer} (record { rename_all = a; enum_repr = b; default = c; deny_unknown_fields = d }) (record { rename_all = s; enum_repr = t; default = u; deny_unknown_fields = v })
same_rules a s b t c u d v e f g h = cc

pub rules_are_one : (items : List SerdeItem) (rules others : SerdeContainer) → AreContainerRules items rules → AreContainerRules items others → rules ≡ others
rules_are_one items rules others one other =
    same_rules _ _ _ _ _ _ _ _ (one.rename_all ∙ sym other.rename_all) (ok_is rules.enum_repr others.enum_repr (sym one.enum_repr ∙ other.enum_repr))
    (one.default ∙ sym other.default) (one.deny_unknown_fields ∙ sym other.deny_unknown_fields)

stays : (why : TagFault) (after : List SerdeItem) → fold further (Err why) after ≡ Err why
stays why [] = refl
stays why (item ∷ after) = stays why after

no_tag_refusal : (r : Result SerdeEnumRepr TagFault) (after : List SerdeItem) (repr : SerdeEnumRepr) (e : DeriveError) → fold further r after ≡ Ok repr → ¬ IsTagRefusal r e
no_tag_refusal (Ok other) after repr e is h = h
no_tag_refusal (Err why) after repr e is h = let same : ◌≡◌ {A = Result SerdeEnumRepr TagFault} (Err why) (Ok repr) = sym (stays why after) ∙ is in cc

no_rule_refusal : (literal : Option SerdeText) (e : DeriveError) → option_map_or (λ text. is_some (rule_named text)) (option_map (λ l. l.text) literal) true ≡ true
    → ¬ IsSomeAnd literal (λ l. (rule_named l.text ≡ None) × IsRefusal BadValue l.span unknown_rule e)
no_rule_refusal None e known h = h
no_rule_refusal (Some literal) e known h = let none : false ≡ true = sym (ap is_some h.0) ∙ known in cc

-- items that say rules have none at fault
none_refused : (before behind : List SerdeItem) (item : SerdeItem) (so_far rules : SerdeContainer) (e : DeriveError)
    → AreContainerRules before so_far → AreContainerRules (before ++ item ∷ behind) rules → ¬ IsItemRefusal so_far item e
none_refused before behind item so_far rules e is are (inl tag) =
    no_tag_refusal (with_item item so_far.enum_repr) behind rules.enum_repr e
    (ap (λ r. fold further (further r item) behind) (sym is.enum_repr) ∙ sym (fold-append further (Ok ExternallyTagged) before (item ∷ behind)) ∙ are.enum_repr) tag
none_refused before behind item so_far rules e is are (inr rule) =
    let known : (list_all names_known_rule before && (names_known_rule item && list_all names_known_rule behind)) ≡ true =
    sym (list_all-append names_known_rule before (item ∷ behind)) ∙ are.known in
    no_rule_refusal (literal_for (codes "rename_all") item) e
    (and_parts (names_known_rule item) (list_all names_known_rule behind) (and_parts (list_all names_known_rule before) (names_known_rule item && list_all names_known_rule behind) known).1).0 rule

pub rules_are_not_refused : (items : List SerdeItem) (rules : SerdeContainer) (e : DeriveError) → AreContainerRules items rules → ¬ IsContainerRefusal items e
rules_are_not_refused items rules e are (before, item, behind, whole, so_far, is, why) =
    none_refused before behind item so_far rules e is (subst (λ xs. AreContainerRules xs rules) whole are) why

-- ---- items say rules, or one of them is the first at fault

abbrev refused_for : Kind → Span → List ℕ → DeriveError
refused_for kind span message = Refused (diagnostic kind span message ∷ [])

tag_decided : (r : Result SerdeEnumRepr TagFault) → ((repr : SerdeEnumRepr) × (r ≡ Ok repr)) ⊎ ((e : DeriveError) × IsTagRefusal r e)
tag_decided (Ok repr) = inl (repr, refl)
tag_decided (Err why) = inr (refused_for SerdeTag why.span why.message, refl)

rule_decided : (so_far : Option RenameRule) (literal : Option SerdeText)
    → ((rule : Option RenameRule) × MatchOption (option_map (λ l. l.text) literal) (rule ≡ so_far) (λ text. (rule_named text ≡ rule) × IsSome rule))
    ⊎ ((e : DeriveError) × IsSomeAnd literal (λ l. (rule_named l.text ≡ None) × IsRefusal BadValue l.span unknown_rule e))
rule_decided so_far None = inl (so_far, refl)
rule_decided so_far (Some literal) = by (rule_named literal.text) refl
  where
    by : (o : Option RenameRule) → rule_named literal.text ≡ o → ((rule : Option RenameRule) × ((rule_named literal.text ≡ rule) × IsSome rule))
        ⊎ ((e : DeriveError) × ((rule_named literal.text ≡ None) × IsRefusal BadValue literal.span unknown_rule e))
    by (Some rule) is = inl (Some rule, (is, refl))
    by None is = inr (refused_for BadValue literal.span unknown_rule, (is, refl))

item_decided : (so_far : SerdeContainer) (item : SerdeItem) → ((rules : SerdeContainer) × IsNext so_far item rules) ⊎ ((e : DeriveError) × IsItemRefusal so_far item e)
item_decided so_far item = elim (tag_decided (with_item item so_far.enum_repr)) [
  | inr tag ↦ inr (tag.0, inl tag.1)
  | inl repr ↦ elim (rule_decided so_far.rename_all (literal_for (codes "rename_all") item)) [
    | inr rule ↦ inr (rule.0, inr rule.1)
    | inl rule ↦ inl (
      record {
        rename_all = rule.0;
        enum_repr = repr.0;
        default = so_far.default || is_named (codes "default") item;
        deny_unknown_fields = so_far.deny_unknown_fields || is_named (codes "deny_unknown_fields") item;
      },
      record { rename_all = rule.1; enum_repr = repr.1; default = refl; deny_unknown_fields = refl },
    )
  ]
]

abbrev IsDecided : List SerdeItem → Type 0
IsDecided items = ((rules : SerdeContainer) × AreContainerRules items rules) ⊎ ((e : DeriveError) × IsContainerRefusal items e)

decided_behind : (before behind : List SerdeItem) (so_far : SerdeContainer) → AreContainerRules before so_far → IsDecided (before ++ behind)
decided_behind before [] so_far are = inl (so_far, subst (λ xs. AreContainerRules xs so_far) (sym (append-nil before)) are)
decided_behind before (item ∷ behind) so_far are = elim (item_decided so_far item) [
  | inr refused ↦ inr (refused.0, (before, item, behind, refl, so_far, are, refused.1))
  | inl next ↦ subst IsDecided (append_assoc before (item ∷ []) behind) (decided_behind (before ++ item ∷ []) behind next.0 (rules_more so_far next.0 before item next.1 are))
]

pub decided : (items : List SerdeItem) → IsDecided items
decided items = decided_behind [] items (record { rename_all = None; enum_repr = ExternallyTagged; default = false; deny_unknown_fields = false })
    (record { rename_all = refl; known = refl; enum_repr = refl; default = refl; deny_unknown_fields = refl })

-- ---- the first item at fault is one

same_refusal : (kind : Kind) (span : Span) (message : List ℕ) (e other : DeriveError) → IsRefusal kind span message e → IsRefusal kind span message other → e ≡ other
same_refusal kind span message (Refused d) (Refused other) one two = ap Refused (one ∙ sym two)
same_refusal kind span message (Refused d) Memory one two = absurd two
same_refusal kind span message Memory other one two = absurd one

same_tag : (r : Result SerdeEnumRepr TagFault) (e other : DeriveError) → IsTagRefusal r e → IsTagRefusal r other → e ≡ other
same_tag (Ok repr) e other one two = absurd one
same_tag (Err why) e other one two = same_refusal SerdeTag why.span why.message e other one two

same_rule : (literal : Option SerdeText) (e other : DeriveError) → IsSomeAnd literal (λ l. (rule_named l.text ≡ None) × IsRefusal BadValue l.span unknown_rule e)
    → IsSomeAnd literal (λ l. (rule_named l.text ≡ None) × IsRefusal BadValue l.span unknown_rule other) → e ≡ other
same_rule None e other one two = absurd one
same_rule (Some literal) e other one two = same_refusal BadValue literal.span unknown_rule e other one.1 two.1

-- an item that names a rename rule contradicts nothing
one_cause : (item : SerdeItem) (repr : SerdeEnumRepr) (e other : DeriveError) → IsRuleRefusal item e → ¬ IsTagRefusal (with_item item repr) other
one_cause item repr e other rule tag = by (is_named (codes "rename_all") item) refl rule
  where
    by : (b : Bool) → is_named (codes "rename_all") item ≡ b → IsSomeAnd (cond b item.value None) (λ l. (rule_named l.text ≡ None) × IsRefusal BadValue l.span unknown_rule e) → ⊥
    by false is h = h
    by true is h =
        let same : with_item item repr ≡ Ok repr =
        ap (λ name. cond (bytes_eq name (codes "untagged")) (Ok Untagged) (with_literals (cond (bytes_eq name (codes "tag")) item.value None) (cond (bytes_eq name (codes "content")) item.value None) repr))
        ((bytes_eq-Decides item.name.text (codes "rename_all")).0 is) in
        subst (λ r. IsTagRefusal r other) same tag

same_item : (so_far : SerdeContainer) (item : SerdeItem) (e other : DeriveError) → IsItemRefusal so_far item e → IsItemRefusal so_far item other → e ≡ other
same_item so_far item e other (inl one) (inl two) = same_tag (with_item item so_far.enum_repr) e other one two
same_item so_far item e other (inr one) (inr two) = same_rule (literal_for (codes "rename_all") item) e other one two
same_item so_far item e other (inl one) (inr two) = absurd (one_cause item so_far.enum_repr other e two one)
same_item so_far item e other (inr one) (inl two) = absurd (one_cause item so_far.enum_repr e other one two)

pub refusals_are_one : (items : List SerdeItem) (e other : DeriveError) → IsContainerRefusal items e → IsContainerRefusal items other → e ≡ other
refusals_are_one items e other (xs, x, behind, at, rules, are, why) (ys, y, after, at_other, others, are_other, why_other) =
    let same = same_place x y xs behind ys after (sym at ∙ at_other)
    (λ between is. rules_are_not_refused ys others e are_other (xs, x, between, is, rules, are, why))
    (λ between is. rules_are_not_refused xs rules other are (ys, y, between, is, others, are_other, why_other)) in
    same_item rules x e other why
    (subst (λ r. IsItemRefusal r x other) (rules_are_one xs others rules (subst (λ zs. AreContainerRules zs others) (sym same.0) are_other) are)
    (subst (λ z. IsItemRefusal others z other) (sym same.1) why_other))
