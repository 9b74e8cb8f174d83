-- What says a configuration says one alone.
use Rattle.std.proofs.Common.{◌≡◌, ℕ, List, [], ◌∷◌, Option, Some, None, refl, sym, ap, ◌∙◌, subst}
use Rattle.serde_json.specs.Data.{Data, null, boolean, number, string, array, object, Items, no_items, item, Members, no_members, member}
use Rattle.diag.specs.declared.rename_rule.RenameRule.{RenameRule}
use Rattle.diag.specs.declared.rename_row.RenamePlace.{RenamePlace}
use Rattle.diag.specs.declared.rename_row.RenamePlace.TheVariants.{Field, Variant}
use Rattle.diag.specs.declared.rename_row.RenameRow.{RenameRow}
use Rattle.diag.specs.RenameRules.{name_of}
use Rattle.configuration.specs.declared.collect.SchemaCollect.{SchemaCollect}
use Rattle.configuration.specs.declared.collect.SchemaCollect.TheVariants.{NonInlined, All}
use Rattle.written_types.specs.Written.{Written}
use Rattle.type_grammar.specs.Source.{ReadsType}
use Rattle.configuration.specs.Configuration.{Alias, Configuration, place_name}
use Rattle.configuration_json.specs.Form.{SaysOrDefault, IsWhole, IsCollect, IsRow, AreRows, IsRenames, SaysType, AreMembers, AreAliases, SaysAliases, IsConfiguration, IsConfigurationText, collect_name}

one_given : {A : Type 0} (says : Data → A → Type 0) (default : A) (o : Option Data) (x y : A) → ((value : Data) → says value x → says value y → x ≡ y) → SaysOrDefault says default o x → SaysOrDefault says default o y → x ≡ y
one_given says default None x y one p q = p ∙ sym q
one_given says default (Some value) x y one p q = one value p q

one_whole : (least most : ℕ) (n m : ℕ) (value : Data) → IsWhole least most value n → IsWhole least most value m → n ≡ m
one_whole least most n m value p q = let e : number _ ≡ number _ = sym p.0 ∙ q.0 in cc

same_string : (s t : List ℕ) (o : Data) → o ≡ string s → o ≡ string t → s ≡ t
same_string s t o p q = cc

same_text : (s t : List ℕ) (o : Option Data) → o ≡ Some (string s) → o ≡ Some (string t) → s ≡ t
same_text s t o p q = cc

one_collect_name : (c d : SchemaCollect) → collect_name c ≡ collect_name d → c ≡ d
one_collect_name NonInlined NonInlined e = refl
one_collect_name NonInlined All e = cc
one_collect_name All NonInlined e = cc
one_collect_name All All e = refl

one_place_name : (p q : RenamePlace) → place_name p ≡ place_name q → p ≡ q
one_place_name Field Field e = refl
one_place_name Field Variant e = cc
one_place_name Variant Field e = cc
one_place_name Variant Variant e = refl

row_from : RenameRule → RenamePlace → List ℕ → List ℕ → RenameRow
row_from rule place from to = record { rule = rule; place = place; from = from; to = to }

same_row : (r s : RenameRow) → r.rule ≡ s.rule → r.place ≡ s.place → r.from ≡ s.from → r.to ≡ s.to → r ≡ s
unfolding row_from
same_row r s a b c d =
    ap (λ x. row_from x r.place r.from r.to) a ∙ ap (λ x. row_from s.rule x r.from r.to) b ∙ ap (λ x. row_from s.rule s.place x r.to) c ∙ ap (row_from s.rule s.place s.from) d

alias_from : List ℕ → Written → Alias
alias_from name of = record { name = name; of = of }

same_alias : (a b : Alias) → a.name ≡ b.name → a.of ≡ b.of → a ≡ b
unfolding alias_from
same_alias a b p q = ap (λ x. alias_from x a.of) p ∙ ap (alias_from b.name) q

configuration_from : ℕ → ℕ → SchemaCollect → List RenameRow → List Alias → Configuration
configuration_from limit copies collect renames aliases = record { limit = limit; copies = copies; collect = collect; renames = renames; aliases = aliases }

same_configuration : (c d : Configuration) → c.limit ≡ d.limit → c.copies ≡ d.copies → c.collect ≡ d.collect → c.renames ≡ d.renames → c.aliases ≡ d.aliases → c ≡ d
unfolding configuration_from
same_configuration c d p q r s u =
    ap (λ x. configuration_from x c.copies c.collect c.renames c.aliases) p ∙ ap (λ x. configuration_from d.limit x c.collect c.renames c.aliases) q
    ∙ ap (λ x. configuration_from d.limit d.copies x c.renames c.aliases) r ∙ ap (λ x. configuration_from d.limit d.copies d.collect x c.aliases) s ∙ ap (configuration_from d.limit d.copies d.collect d.renames) u

module _ (one_type : (text : List ℕ) (t u : Written) → ReadsType text t → ReadsType text u → t ≡ u) where
  one_said : (value : Data) (t u : Written) → SaysType value t → SaysType value u → t ≡ u
  one_said null t u p q = absurd p
  one_said (boolean b) t u p q = absurd p
  one_said (number n) t u p q = absurd p
  one_said (string s) t u p q = one_type s t u p.0 q.0
  one_said (array items) t u p q = absurd p
  one_said (object ms) t u p q = absurd p

  one_members : (ms : Members) (xs bs : List Alias) → AreMembers ms xs → AreMembers ms bs → xs ≡ bs
  one_members no_members [] [] p q = refl
  one_members no_members [] (b ∷ bs) p q = absurd q
  one_members no_members (a ∷ xs) bs p q = absurd p
  one_members (member name value ms) [] bs p q = absurd p
  one_members (member name value ms) (a ∷ xs) [] p q = absurd q
  one_members (member name value ms) (a ∷ xs) (b ∷ bs) p q =
      ap (λ x. x ∷ xs) (same_alias a b (p.0 ∙ sym q.0) (one_said value a.of b.of p.1 q.1)) ∙ ap (λ xs. b ∷ xs) (one_members ms xs bs p.2 q.2)

  one_aliases : (xs bs : List Alias) (value : Data) → AreAliases value xs → AreAliases value bs → xs ≡ bs
  one_aliases xs bs null p q = absurd p
  one_aliases xs bs (boolean b) p q = absurd p
  one_aliases xs bs (number n) p q = absurd p
  one_aliases xs bs (string s) p q = absurd p
  one_aliases xs bs (array items) p q = absurd p
  one_aliases xs bs (object ms) p q = one_members ms xs bs p q

  pub one_said_aliases : (value : Data) (xs bs : List Alias) → SaysAliases value xs → SaysAliases value bs → xs ≡ bs
  one_said_aliases value xs bs p q = one_given AreAliases [] _ xs bs (one_aliases xs bs) p q

module _ (own : (r s : RenameRule) → name_of r ≡ name_of s → r ≡ s) (one_type : (text : List ℕ) (t u : Written) → ReadsType text t → ReadsType text u → t ≡ u) where
  one_row : (value : Data) (r s : RenameRow) → IsRow value r → IsRow value s → r ≡ s
  one_row value r s p q =
      same_row r s (own r.rule s.rule (same_text _ _ _ p.rule q.rule)) (one_place_name r.place s.place (same_text _ _ _ p.place q.place))
      (same_text _ _ _ p.from q.from) (same_text _ _ _ p.to q.to)

  one_rows : (items : Items) (rs ss : List RenameRow) → AreRows items rs → AreRows items ss → rs ≡ ss
  one_rows no_items [] [] p q = refl
  one_rows no_items [] (s ∷ ss) p q = absurd q
  one_rows no_items (r ∷ rs) ss p q = absurd p
  one_rows (item value items) [] ss p q = absurd p
  one_rows (item value items) (r ∷ rs) [] p q = absurd q
  one_rows (item value items) (r ∷ rs) (s ∷ ss) p q = ap (λ x. x ∷ rs) (one_row value r s p.0 q.0) ∙ ap (λ xs. s ∷ xs) (one_rows items rs ss p.1 q.1)

  one_renames : (rs ss : List RenameRow) (value : Data) → IsRenames value rs → IsRenames value ss → rs ≡ ss
  one_renames rs ss null p q = absurd p
  one_renames rs ss (boolean b) p q = absurd p
  one_renames rs ss (number n) p q = absurd p
  one_renames rs ss (string s) p q = absurd p
  one_renames rs ss (array items) p q = one_rows items rs ss p q
  one_renames rs ss (object ms) p q = absurd p

  pub one_configuration : (value : Data) (c d : Configuration) → IsConfiguration value c → IsConfiguration value d → c ≡ d
  one_configuration value c d p q =
      same_configuration c d
      (one_given (IsWhole 1 4096) 1000 _ c.limit d.limit (one_whole 1 4096 c.limit d.limit) p.others.limit q.others.limit)
      (one_given (IsWhole 1 100000) 10000 _ c.copies d.copies (one_whole 1 100000 c.copies d.copies) p.others.copies q.others.copies)
      (one_given IsCollect NonInlined _ c.collect d.collect (λ v a b. one_collect_name c.collect d.collect (same_string _ _ v a b)) p.others.collect q.others.collect)
      (one_given IsRenames [] _ c.renames d.renames (one_renames c.renames d.renames) p.others.renames q.others.renames)
      (one_said_aliases one_type value c.aliases d.aliases p.aliases q.aliases)

  pub one_text : (bytes : List ℕ) (c d : Configuration) → IsConfigurationText bytes c → IsConfigurationText bytes d → c ≡ d
  one_text bytes c d p q =
      let same : p.value ≡ q.value = let e : Some p.value ≡ Some q.value = sym p.json.reads ∙ q.json.reads in cc in
      one_configuration q.value c d (subst (λ v. IsConfiguration v c) same p.says) q.says
