-- What the resolved declarations of all declarations say: their names, and that their types fit.
use Rattle.std.proofs.Common.{ℕ, zero, suc, ◌<◌, List, [], ◌∷◌, ◌++◌, map, filter, filter_map, Option, Some, None, option_and_then, option_map, Bool, true, false, not, cond, length, ◌≡◌, refl, ap, sym, subst, ◌∙◌, arith, slice_index}
use Rattle.std.specs.List.{cons_option, last_or}
use Rattle.std.proofs.lemmas.Option.{none-some, same_Some}
use Rattle.texts.specs.Names.{place_in}
use Rattle.texts.proofs.Laws.{mapped, and_then, place-found}
use Rattle.diag.specs.declared.rename_rule.RenameRule.{RenameRule}
use Rattle.configuration.specs.Configuration.{Configuration}
use Rattle.attributes.specs.Attributes.{serde_items}
use Rattle.attributes.specs.declared.serde_item.SerdeItem.{SerdeItem}
use Rattle.serde_rules.specs.Container.{rename_rule}
use Rattle.syntax.specs.Items.{FieldItem, FieldItems, named, unnamed, unit, VariantItem, BodyItem, struct_body, enum_body, DeclaredItem}
use Rattle.open_types.specs.Open.{Open}
use Rattle.open_types.specs.Open as types
use Rattle.open_types.specs.Within.{IsOver, AreAllOver}
use Rattle.resolving.specs.Resolved.{resolved_type, ResolvedAreOver}
use Rattle.scopes.specs.Names.{declared_names, texts, place_among}
use Rattle.shapes.specs.Declarations.{MemberOf, FormOf, FlattenedMapOf, unnamed_fields, no_fields, VariantOf, BodyOf, fields, units, variants, DeclarationOf, member_types, flattened_types, map_types, form_types, variant_types, body_types, declaration_names, declaration_at, parameters_in, AreFitting}
use Rattle.shapes.specs.declared.tagging.Tagging.{Tagging}
use Rattle.derive_decl.specs.Attributed.{attributes_with, are_derivable}
use Rattle.serde_names.specs.Kept.{own, flattened, kept_variants}
use Rattle.derive_decl.specs.Fields.{FieldRules, field_rules, are_allowed}
use Rattle.derive_decl.specs.Lifetimes.{parameters_are_distinct}
use Rattle.derive_decl.specs.Tags.{tag_stands}
use Rattle.derive_decl.specs.Variants.{tagging_in, are_units, are_told, variant_name}
use Rattle.derive_decl.specs.Resolved.{Around, around_of, all_of, passing, member_of, members_are_distinct, TypedOf, typed_of, is_map, has_one_map, field_from, map_parts, map_at, map_from, named_form, form_of, variant_of, variants_are_told, units_of, mixed_of, enum_of, body_of, derived_body, declaration_from, declaration_of, resolved_of}
use Rattle.derive_decl.specs.Whole.{resolved_declarations, resolved_among}
use Rattle.derive_decl.proofs.NamedForms.{named_parts}
use Rattle.derive_decl.proofs.Parts.{member_parts, variant_parts}
use Rattle.derive_decl.proofs.Values.{joined, chosen, passed}
use Rattle.scopes.specs.Parameters.{type_parameters, parameter_counts}
use Rattle.scopes.proofs.Laws.{place_below}
use Rattle.std.proofs.Math.Path.{fun_ext}

-- ---- names

many_names : (ss : List DeclarationOf) → length (declaration_names ss) ≡ length ss
many_names [] = refl
many_names (s ∷ ss) = ap suc (many_names ss)

-- ---- declarations

-- the declaration of a declaration
declaration_parts : (around : Around) (d : DeclaredItem) (s : DeclarationOf) → resolved_of around d ≡ Some s → (s.name ≡ d.ident.text) × (body_of around (serde_items d.attrs) d.body ≡ Some s.body) × (s.parameters ≡ around.known.parameters)
declaration_parts around d s e =
    let m = mapped (declaration_from around d.attrs d.ident) (derived_body around d.attrs d.body) s (chosen (parameters_are_distinct d.generics) (declaration_of around d.attrs d.ident d.body) s e).1 in
    let derived = chosen (are_derivable (attributes_with d.attrs d.body)) (body_of around (serde_items d.attrs) d.body) m.0 m.1 in
    (sym (ap (λ (r : DeclarationOf). r.name) m.2), derived.1 ∙ ap (λ (r : DeclarationOf). Some r.body) m.2, sym (ap (λ (r : DeclarationOf). r.parameters) m.2))

module _ (c : Configuration) (all : List DeclaredItem) where
  -- the declarations have the names of the declarations
  declaration_names-are : (ds : List DeclaredItem) (ss : List DeclarationOf) → all_of (resolved_among c all) ds ≡ Some ss → declaration_names ss ≡ declared_names ds
  declaration_names-are [] ss e = ap declaration_names (sym (same_Some [] ss e))
  declaration_names-are (d ∷ ds) ss e =
      let j = joined (resolved_among c all d) (all_of (resolved_among c all) ds) ss e in
      sym (ap declaration_names j.4) ∙ ap (λ n. n ∷ declaration_names j.1) (declaration_parts (around_of c all d.ident.text d.generics) d j.0 j.2).0 ∙ ap (λ ns. d.ident.text ∷ ns) (declaration_names-are ds j.1 j.3)

  -- and as many parameters
  parameters-are : (ds : List DeclaredItem) (ss : List DeclarationOf) → all_of (resolved_among c all) ds ≡ Some ss → (d : ℕ) → slice_index (parameter_counts ds) d ≡ parameters_in ss d
  parameters-are [] ss e d = subst (λ xs. 0 ≡ parameters_in xs d) (same_Some [] ss e) refl
  parameters-are (x ∷ ds) ss e d =
      let j = joined (resolved_among c all x) (all_of (resolved_among c all) ds) ss e in
      subst (λ xs. slice_index (parameter_counts (x ∷ ds)) d ≡ parameters_in xs d) j.4 (by j.0 j.1 d (declaration_parts (around_of c all x.ident.text x.generics) x j.0 j.2).2 (parameters-are ds j.1 j.3))
    where
      by : (s : DeclarationOf) (ss : List DeclarationOf) (d : ℕ) → s.parameters ≡ length (type_parameters x.generics) → ((d : ℕ) → slice_index (parameter_counts ds) d ≡ parameters_in ss d) → slice_index (parameter_counts (x ∷ ds)) d ≡ parameters_in (s ∷ ss) d
      by s ss zero h later = sym h
      by s ss (suc d) h later = later d

-- ---- types are over the declarations

module _ (over : ResolvedAreOver) where
  module _ (around : Around) (n : ℕ) (below : (k : List ℕ) (d : ℕ) → around.known.place_of k ≡ Some d → d < n) (itself : (d : ℕ) → around.known.own ≡ Some d → d < n)
      (within : (k : List ℕ) (i : ℕ) → around.known.parameter_of k ≡ Some i → i < around.known.parameters) where
    abbrev AreTypesOver : List Open → Type 0
    AreTypesOver ts = AreAllOver n around.known.parameters_at around.known.parameters ts

    -- a resolved type is over the declarations
    type_over : (f : FieldItem) (u : Open) → resolved_type around.known f.ty ≡ Some u → IsOver n around.known.parameters_at around.known.parameters u
    type_over f u is = over around.known n below itself within f.ty u is

    members_over : (rules : FieldRules) (fs : List FieldItem) (ms : List MemberOf) → all_of (member_of around rules) fs ≡ Some ms → AreTypesOver (member_types ms)
    members_over rules [] ms e = subst (λ xs. AreTypesOver (member_types xs)) (same_Some [] ms e) tt
    members_over rules (f ∷ fs) ms e =
        let j = joined (member_of around rules f) (all_of (member_of around rules) fs) ms e in
        let m = member_parts around rules f j.0 j.2 in
        subst (λ xs. AreTypesOver (member_types xs)) j.4 (type_over f j.0.of m.typed, members_over rules fs j.1 j.3)

    types_over : (fs : List FieldItem) (ts : List Open) → all_of (λ (f : FieldItem). resolved_type around.known f.ty) fs ≡ Some ts → AreTypesOver ts
    types_over [] ts e = subst AreTypesOver (same_Some [] ts e) tt
    types_over (f ∷ fs) ts e =
        let j = joined (resolved_type around.known f.ty) (all_of (λ (g : FieldItem). resolved_type around.known g.ty) fs) ts e in
        subst AreTypesOver j.4 (type_over f j.0 j.2, types_over fs j.1 j.3)

    both_over : (ts us : List Open) → AreTypesOver ts → AreTypesOver us → AreTypesOver (ts ++ us)
    both_over [] us h g = g
    both_over (t ∷ ts) us h g = (h.0, both_over ts us h.1 g)

    -- ---- what is flattened

    typed_over : (fs : List FieldItem) (ts : List TypedOf) → all_of (typed_of around) fs ≡ Some ts → AreTypesOver (map (λ (t : TypedOf). t.of) ts)
    typed_over [] ts e = subst (λ us. AreTypesOver (map (λ (t : TypedOf). t.of) us)) (same_Some [] ts e) tt
    typed_over (f ∷ fs) ts e =
        let j = joined (typed_of around f) (all_of (typed_of around) fs) ts e in
        let m = mapped (λ u. record { field = f; of = u }) (resolved_type around.known f.ty) j.0 j.2 in
        let own : IsOver n around.known.parameters_at around.known.parameters j.0.of = subst (λ (t : TypedOf). IsOver n around.known.parameters_at around.known.parameters t.of) m.2 (type_over f m.0 m.1) in
        subst (λ us. AreTypesOver (map (λ (t : TypedOf). t.of) us)) j.4 (own, typed_over fs j.1 j.3)

    fields_over : (ts : List TypedOf) → AreTypesOver (map (λ (t : TypedOf). t.of) ts) → AreTypesOver (flattened_types (map field_from (filter (λ f. not (is_map f)) ts)))
    fields_over [] all = tt
    fields_over (t ∷ ts) all = by (not (is_map t)) (fields_over ts all.1)
      where
        by : (b : Bool) → AreTypesOver (flattened_types (map field_from (filter (λ f. not (is_map f)) ts)))
            → AreTypesOver (flattened_types (map field_from (cond b (t ∷ filter (λ f. not (is_map f)) ts) (filter (λ f. not (is_map f)) ts))))
        by true others = (all.0, others)
        by false others = others

    -- a type that is a map
    map_from_over : (t : TypedOf) (of : Open) → IsOver n around.known.parameters_at around.known.parameters of → (m : FlattenedMapOf) → option_map (map_at t) (map_parts of) ≡ Some m → AreTypesOver (map_types (Some m))
    map_from_over t (types.map_of h k u) over m is = subst (λ x. AreTypesOver (map_types (Some x))) (same_Some (map_at t (k, u)) m is) (over.0, (over.1, tt))
    map_from_over t (types.leaf x) over m is = absurd (none-some m is)
    map_from_over t types.any_value over m is = absurd (none-some m is)
    map_from_over t types.free_object over m is = absurd (none-some m is)
    map_from_over t types.unit over m is = absurd (none-some m is)
    map_from_over t (types.tuple us) over m is = absurd (none-some m is)
    map_from_over t (types.items h u) over m is = absurd (none-some m is)
    map_from_over t (types.set h u) over m is = absurd (none-some m is)
    map_from_over t (types.option u) over m is = absurd (none-some m is)
    map_from_over t (types.through h u) over m is = absurd (none-some m is)
    map_from_over t (types.param i) over m is = absurd (none-some m is)
    map_from_over t (types.named d us) over m is = absurd (none-some m is)

    next : (o p : Option FlattenedMapOf) (ts : List TypedOf) → ((m : FlattenedMapOf) → p ≡ Some m → AreTypesOver (map_types (Some m))) → AreTypesOver (map_types o)
        → ((q : Option FlattenedMapOf) → AreTypesOver (map_types q) → AreTypesOver (map_types (last_or q (filter_map map_from ts)))) → AreTypesOver (map_types (last_or o (cons_option p (filter_map map_from ts))))
    next o None ts own so_far later = later o so_far
    next o (Some m) ts own so_far later = later (Some m) (own m refl)

    -- the last map, or one before these
    map_over : (o : Option FlattenedMapOf) (ts : List TypedOf) → AreTypesOver (map_types o) → AreTypesOver (map (λ (t : TypedOf). t.of) ts) → AreTypesOver (map_types (last_or o (filter_map map_from ts)))
    map_over o [] so_far all = so_far
    map_over o (t ∷ ts) so_far all = next o (map_from t) ts (map_from_over t t.of all.0) so_far (λ p so. map_over p ts so all.1)

    form_over : (items : List SerdeItem) (fs : FieldItems) (form : FormOf) → form_of around items fs ≡ Some form → AreTypesOver (form_types form)
    form_over items (named fs) form e =
        let rules = field_rules items in
        let parts = named_parts around rules fs form (chosen (are_allowed items) (named_form around rules fs) form e).1 in
        let ts = parts.beside in
        let all = typed_over (flattened fs) ts (passed has_one_map (all_of (typed_of around) (flattened fs)) ts parts.flattened).0 in
        let own = members_over rules (own fs) parts.members (passed members_are_distinct (all_of (member_of around rules) (own fs)) parts.members parts.own).0 in
        subst (λ f. AreTypesOver (form_types f)) parts.is
        (both_over (flattened_types (map field_from (filter (λ f. not (is_map f)) ts))) _ (fields_over ts all) (both_over (map_types (last_or None (filter_map map_from ts))) _ (map_over None ts tt all) own))
    form_over items (unnamed []) form e = absurd (none-some form e)
    form_over items (unnamed (f ∷ fs)) form e =
        let m = mapped unnamed_fields (all_of (λ (g : FieldItem). resolved_type around.known g.ty) (f ∷ fs)) form e in subst (λ x. AreTypesOver (form_types x)) m.2 (types_over (f ∷ fs) m.0 m.1)
    form_over items unit form e = subst (λ f. AreTypesOver (form_types f)) (same_Some no_fields form e) tt

    -- the form of a variant is that of its fields
    variant_over : (rule : Option RenameRule) (tagging : Tagging) (v : VariantItem) (x : VariantOf) → variant_of around rule tagging v ≡ Some x → AreTypesOver (form_types x.form)
    variant_over rule tagging v x e =
        form_over (serde_items v.attrs) v.fields x.form (passed (tag_stands tagging) (form_of around (serde_items v.attrs) v.fields) x.form (variant_parts around rule tagging v x e).1).0

    variants_over : (rule : Option RenameRule) (tagging : Tagging) (vs : List VariantItem) (xs : List VariantOf) → all_of (variant_of around rule tagging) vs ≡ Some xs → AreTypesOver (variant_types xs)
    variants_over rule tagging [] xs e = subst (λ ys. AreTypesOver (variant_types ys)) (same_Some [] xs e) tt
    variants_over rule tagging (v ∷ vs) xs e =
        let j = joined (variant_of around rule tagging v) (all_of (variant_of around rule tagging) vs) xs e in
        subst (λ ys. AreTypesOver (variant_types ys)) j.4 (both_over (form_types j.0.form) (variant_types j.1) (variant_over rule tagging v j.0 j.2) (variants_over rule tagging vs j.1 j.3))

    mixed_over : (rule : Option RenameRule) (vs : List VariantItem) (tagging : Tagging) (body : BodyOf) → mixed_of around rule vs tagging ≡ Some body → AreTypesOver (body_types body)
    mixed_over rule vs tagging body e =
        let m = mapped (variants tagging) (passing (variants_are_told tagging) (all_of (variant_of around rule tagging) (kept_variants vs))) body e in
        subst (λ x. AreTypesOver (body_types x)) m.2 (variants_over rule tagging (kept_variants vs) m.0 (passed (variants_are_told tagging) (all_of (variant_of around rule tagging) (kept_variants vs)) m.0 m.1).0)

    enum_over : (rule : Option RenameRule) (vs : List VariantItem) (tagging : Tagging) (body : BodyOf) → enum_of around rule vs tagging ≡ Some body → AreTypesOver (body_types body)
    enum_over rule vs tagging body e = by (are_units vs) e
      where
        by : (b : Bool) → cond b (units_of around rule vs tagging) (mixed_of around rule vs tagging) ≡ Some body → AreTypesOver (body_types body)
        by true h = subst (λ x. AreTypesOver (body_types x)) (mapped (units tagging) (passing (are_told tagging) (all_of (variant_name around.rows rule tagging) (kept_variants vs))) body h).2 tt
        by false h = mixed_over rule vs tagging body h

    body_over : (items : List SerdeItem) (b : BodyItem) (body : BodyOf) → body_of around items b ≡ Some body → AreTypesOver (body_types body)
    body_over items (struct_body fs) body e =
        let m = mapped fields (form_of around items fs) body e in subst (λ x. AreTypesOver (body_types x)) m.2 (form_over items fs m.0 m.1)
    body_over items (enum_body vs) body e =
        let said = chosen (are_allowed items) (option_and_then (enum_of around (rename_rule items) vs) (tagging_in items)) body e in
        let told = and_then (enum_of around (rename_rule items) vs) (tagging_in items) body said.1 in
        enum_over (rename_rule items) vs told.0 body told.2

  module _ (c : Configuration) (all : List DeclaredItem) (n : ℕ) (below : (k : List ℕ) (d : ℕ) → place_among all k ≡ Some d → d < n) where
    at_over : (ds : List DeclaredItem) (ss : List DeclarationOf) → all_of (resolved_among c all) ds ≡ Some ss → (d : ℕ) → d < length ss →
        AreAllOver n (slice_index (parameter_counts all)) (parameters_in ss d) (body_types (declaration_at ss d).body)
    at_over [] ss e d l = absurd (subst (λ xs. ¬ (d < length xs)) (same_Some [] ss e) (λ h. omega arith) l)
    at_over (x ∷ ds) ss e d l =
        let around = around_of c all x.ident.text x.generics in
        let j = joined (resolved_among c all x) (all_of (resolved_among c all) ds) ss e in
        let parts = declaration_parts around x j.0 j.2 in
        let within : (k : List ℕ) (i : ℕ) → place_in k (texts (type_parameters x.generics)) ≡ Some i → i < length (type_parameters x.generics) =
        λ k i is. place_below k (type_parameters x.generics) i is in
        subst (λ xs. d < length xs → AreAllOver n (slice_index (parameter_counts all)) (parameters_in xs d) (body_types (declaration_at xs d).body)) j.4
        (by j.0 j.1 d
        (subst (λ m. AreAllOver n (slice_index (parameter_counts all)) m (body_types j.0.body)) (sym parts.2) (body_over around n below (below x.ident.text) within (serde_items x.attrs) x.body j.0.body parts.1))
        (at_over ds j.1 j.3)) l
      where
        by : (s : DeclarationOf) (ss : List DeclarationOf) (d : ℕ) → AreAllOver n (slice_index (parameter_counts all)) s.parameters (body_types s.body) →
            ((d : ℕ) → d < length ss → AreAllOver n (slice_index (parameter_counts all)) (parameters_in ss d) (body_types (declaration_at ss d).body)) →
            d < length (s ∷ ss) → AreAllOver n (slice_index (parameter_counts all)) (parameters_in (s ∷ ss) d) (body_types (declaration_at (s ∷ ss) d).body)
        by s ss zero h later l = h
        by s ss (suc d) h later l = later d (omega arith)

pub names_are : (c : Configuration) (ds : List DeclaredItem) (ss : List DeclarationOf) → resolved_declarations c ds ≡ Some ss → declaration_names ss ≡ declared_names ds
names_are c ds ss e = declaration_names-are c ds ds ss e

pub all_fitting : ResolvedAreOver → (c : Configuration) (ds : List DeclaredItem) (ss : List DeclarationOf) → resolved_declarations c ds ≡ Some ss → AreFitting ss
all_fitting over c ds ss e d l =
    let below : (k : List ℕ) (p : ℕ) → place_among ds k ≡ Some p → p < length ss =
    λ k p h. subst (λ m. p < m) (ap length (sym (names_are c ds ss e)) ∙ many_names ss) (place-found k (declared_names ds) p h).0 in
    subst (λ counts. AreAllOver (length ss) counts (parameters_in ss d) (body_types (declaration_at ss d).body)) (fun_ext (parameters-are c ds ds ss e)) (at_over over c ds (length ss) below ds ss e d l)
