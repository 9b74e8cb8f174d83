-- What stands in the members and variants that fields and variants are resolved to.
use Rattle.std.proofs.Common.{ℕ, List, [], ◌∷◌, filter_map, Option, Some, None, option_map, option_and_then, ◌≡◌, ◌∙◌, refl, ap}
use Rattle.std.specs.List.{cons_option}
use Rattle.std.proofs.lemmas.Option.{none-some, same_Some}
use Rattle.diag.specs.declared.rename_rule.RenameRule.{RenameRule}
use Rattle.diag.specs.declared.rename_row.RenameRow.{RenameRow}
use Rattle.written_types.specs.declared.written.Ident.{Ident}
use Rattle.syntax.specs.Items.{FieldItem, VariantItem}
use Rattle.open_types.specs.Open.{Open}
use Rattle.resolving.specs.Resolved.{resolved_type}
use Rattle.scopes.specs.Names.{texts}
use Rattle.shapes.specs.Declarations.{MemberOf, VariantOf, member_names, variant_names, telling}
use Rattle.shapes.specs.declared.tagging.Tagging.{Tagging}
use Rattle.shapes.specs.declared.tagging.Tagging.TheVariants.{External, Internal, Adjacent, Untagged}
use Rattle.texts.proofs.Laws.{mapped, and_then}
use Rattle.serde_names.specs.Names.{named_at}
use Rattle.derive_decl.specs.Fields.{FieldRules, written_name, written_ident, written_idents}
use Rattle.derive_decl.specs.Variants.{variant_name, variant_ident, telling_idents}
use Rattle.derive_decl.specs.Resolved.{Around, all_of, member_from, member_as, member_of, variant_from, tagged_form, variant_of}
use Rattle.derive_decl.proofs.Values.{joined}

-- ---- members

-- the name and the type of a member
pub record IsMember (around : Around) (rules : FieldRules) (f : FieldItem) (m : MemberOf) : Type 0 where
  pub ident : Ident
  pub is : f.ident ≡ Some ident
  pub named : written_name around.rows rules.rule f ident ≡ Some m.name
  pub typed : resolved_type around.known f.ty ≡ Some m.of

pub member_parts : (around : Around) (rules : FieldRules) (f : FieldItem) (m : MemberOf) → member_of around rules f ≡ Some m → IsMember around rules f m
member_parts around rules f m e = by f.ident refl e
  where
    from : (x : Ident) (n : Option (List ℕ)) (t : Option Open) → f.ident ≡ Some x → written_name around.rows rules.rule f x ≡ n → resolved_type around.known f.ty ≡ t →
        option_and_then (λ name. option_map (member_from rules f name) t) n ≡ Some m → IsMember around rules f m
    from x None t i p q h = absurd (none-some m h)
    from x (Some n) None i p q h = absurd (none-some m h)
    from x (Some n) (Some t) i p q h =
        let same = same_Some (member_from rules f n t) m h in
        record { ident = x; is = i; named = p ∙ ap (λ (o : MemberOf). Some o.name) same; typed = q ∙ ap (λ (o : MemberOf). Some o.of) same }

    by : (o : Option Ident) → f.ident ≡ o → member_as around rules f o ≡ Some m → IsMember around rules f m
    by None i h = absurd (none-some m h)
    by (Some x) i h = from x (written_name around.rows rules.rule f x) (resolved_type around.known f.ty) i refl refl h

-- the names of members are the texts of the identifiers that stand for them
pub member_texts : (around : Around) (rules : FieldRules) (fs : List FieldItem) (ms : List MemberOf) → all_of (member_of around rules) fs ≡ Some ms → texts (written_idents around.rows rules.rule fs) ≡ member_names ms
member_texts around rules [] ms e = ap member_names (same_Some [] ms e)
member_texts around rules (f ∷ fs) ms e =
    let j = joined (member_of around rules f) (all_of (member_of around rules) fs) ms e in
    let m = member_parts around rules f j.0 j.2 in
    let first : written_ident around.rows rules.rule f ≡ Some (named_at m.ident j.0.name) =
    ap (option_and_then (λ x. option_map (named_at x) (written_name around.rows rules.rule f x))) m.is ∙ ap (option_map (named_at m.ident)) m.named in
    ap (λ o. texts (cons_option o (written_idents around.rows rules.rule fs))) first
    ∙ ap (λ ns. j.0.name ∷ ns) (member_texts around rules fs j.1 j.3) ∙ ap member_names j.4

-- ---- variants

pub variant_parts : (around : Around) (rule : Option RenameRule) (tagging : Tagging) (v : VariantItem) (x : VariantOf) → variant_of around rule tagging v ≡ Some x →
    (variant_name around.rows rule tagging v ≡ Some x.name) × (tagged_form around tagging v ≡ Some x.form)
variant_parts around rule tagging v x e =
    let named = and_then (λ name. option_map (variant_from v name) (tagged_form around tagging v)) (variant_name around.rows rule tagging v) x e in
    let formed = mapped (variant_from v named.0) (tagged_form around tagging v) x named.2 in
    (named.1 ∙ ap (λ (y : VariantOf). Some y.name) formed.2, formed.1 ∙ ap (λ (y : VariantOf). Some y.form) formed.2)

pub variants_named : (around : Around) (rule : Option RenameRule) (tagging : Tagging) (vs : List VariantItem) (xs : List VariantOf) → all_of (variant_of around rule tagging) vs ≡ Some xs →
    all_of (variant_name around.rows rule tagging) vs ≡ Some (variant_names xs)
variants_named around rule tagging [] xs e = ap (λ ys. Some (variant_names ys)) (same_Some [] xs e)
variants_named around rule tagging (v ∷ vs) xs e =
    let j = joined (variant_of around rule tagging v) (all_of (variant_of around rule tagging) vs) xs e in
    let first = (variant_parts around rule tagging v j.0 j.2).0 in
    let others = variants_named around rule tagging vs j.1 j.3 in
    (λ i. option_and_then (λ y. option_map (λ ys. y ∷ ys) (others i)) (first i)) ∙ ap (λ ys. Some (variant_names ys)) j.4

variant_texts : (rows : List RenameRow) (rule : Option RenameRule) (tagging : Tagging) (vs : List VariantItem) (names : List (List ℕ)) → all_of (variant_name rows rule tagging) vs ≡ Some names → texts (filter_map (variant_ident rows rule tagging) vs) ≡ names
variant_texts rows rule tagging [] names e = same_Some [] names e
variant_texts rows rule tagging (v ∷ vs) names e =
    let j = joined (variant_name rows rule tagging v) (all_of (variant_name rows rule tagging) vs) names e in
    ap (λ o. texts (cons_option (option_map (named_at v.ident) o) (filter_map (variant_ident rows rule tagging) vs))) j.2
    ∙ ap (λ ns. j.0 ∷ ns) (variant_texts rows rule tagging vs j.1 j.3) ∙ j.4

pub telling-texts : (tagging : Tagging) (xs : List Ident) → texts (telling tagging xs) ≡ telling tagging (texts xs)
telling-texts External xs = refl
telling-texts (Internal tag) xs = refl
telling-texts (Adjacent tag content) xs = refl
telling-texts Untagged xs = refl

-- what tells variants apart are the texts of the identifiers that stand for it
pub telling_texts : (rows : List RenameRow) (rule : Option RenameRule) (tagging : Tagging) (vs : List VariantItem) (names : List (List ℕ)) → all_of (variant_name rows rule tagging) vs ≡ Some names →
    texts (telling_idents rows rule tagging vs) ≡ telling tagging names
telling_texts rows rule tagging vs names e = telling-texts tagging (filter_map (variant_ident rows rule tagging) vs) ∙ ap (telling tagging) (variant_texts rows rule tagging vs names e)
