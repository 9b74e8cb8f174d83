-- Refusals of a source have another kind than those of a configuration.
use Rattle.std.proofs.Common.{◌≡◌, ◌∙◌, ◌⊎◌, ℕ, List, [], ◌∷◌, inl, inr, refl, sym, ap, subst, codes, false, IsTrue, Option, Some, None, Result, Ok, Err, IsSomeAnd}
use Rattle.std.proofs.lemmas.Bool.{false≢true}
use Rattle.diag.specs.Diagnostics.{HasFirst}
use Rattle.diag.specs.Refusal.{IsRefusal, IsHelpRefusal}
use Rattle.diag.specs.declared.diagnostics.DiangosticsInner.{DiangosticsInner}
use Rattle.diag.specs.declared.error.DeriveError.TheVariants.{Refused}
use Rattle.diag.specs.declared.kind.Kind.{Kind}
use Rattle.diag.specs.declared.kind.Kind.TheVariants.{TooLong, TooDeep, Syntax, DuplicateName, UnknownType, Arity, BadArgument, TypeSize, TooManyInstances, NameClash, InlineDepth, TooManyCopies, MissingRow, SerdeTag, TaggedTuple, BadValue, FlattenedMaps}
use Rattle.texts.specs.declared.span.Span.{Span}
use Rattle.diag.specs.declared.rename_rule.RenameRule.{RenameRule}
use Rattle.diag.specs.declared.rename_row.RenameRow.{RenameRow}
use Rattle.diag.specs.declared.rename_row.RenamePlace.{RenamePlace}
use Rattle.diag.specs.declared.rename_row.RenamePlace.TheVariants.{Field, Variant}
use Rattle.attributes.specs.Attributes.{serde_items}
use Rattle.attributes.specs.declared.serde_item.SerdeItem.{SerdeItem}
use Rattle.attributes.specs.declared.serde_item.SerdeText.{SerdeText}
use Rattle.serde_rules.specs.declared.enum_repr.SerdeEnumRepr.{SerdeEnumRepr}
use Rattle.serde_rules.specs.declared.value.SerdeValue.{SerdeValue}
use Rattle.serde_rules.specs.Items.{literal_for}
use Rattle.serde_rules.specs.Container.{TagFault, with_item, rename_rule, rule_named, unknown_rule, IsTagRefusal, IsContainerRefusal}
use Rattle.written_types.specs.declared.written.Ident.{Ident}
use Rattle.syntax.specs.Items.{FieldItem, FieldItems, named, unnamed, unit, VariantItem, BodyItem, struct_body, enum_body, DeclaredItem}
use Rattle.scopes.specs.Names.{declared_idents, IsGivenTwice}
use Rattle.resolving.specs.Resolved.{Fault, unknown_type, wrong_arity, too_large, bad_argument, IsRefusedFor}
use Rattle.texts.specs.Lists.{Somewhere}
use Rattle.configuration.specs.Configuration.{Configuration}
use Rattle.shapes.specs.Declarations.{DeclarationOf}
use Rattle.shapes.specs.declared.tagging.Tagging.{Tagging}
use Rattle.shapes.specs.declared.tagging.Tagging.TheVariants.{External, Internal, Adjacent, Untagged}
use Rattle.serde_names.specs.Kept.{value_of, own as own_fields, flattened, value_of_variant, kept_variants}
use Rattle.serde_names.specs.Names.{IsUnwritten}
use Rattle.derive_decl.specs.Fields.{FieldRules, field_rules}
use Rattle.derive_decl.specs.Resolved.{Around, around_of, TypedOf, maps_among}
use Rattle.derive_decl.specs.Faults.{AreFaultyFields, AreSeveralMaps, IsFaultyType, IsFaultyMember, IsUnnamed, IsFaultyVariant, IsFaultyBody, IsFaultyItem}
use Rattle.compose.specs.Bounds.{IsRefusalOf, IsUnbounded}
use Rattle.compose.specs.Faults.{AreFaultyDeclarations, AreAtFault, IsBeyond, IsRefused}
use Rattle.configuration_json.specs.Said.{is_of_configuration}
use Rattle.schema_gen.specs.Refusals.{IsRefusedSource}

module _ (own : Kind) (of_configuration : IsTrue (is_of_configuration own)) (ds : List DiangosticsInner) (first : HasFirst ds (λ d. d.kind ≡ own)) where
  -- another kind is none of a configuration
  apart : (kind : Kind) → is_of_configuration kind ≡ false → kind ≡ own → ⊥
  apart kind differs same = false≢true (sym differs ∙ ap is_of_configuration same ∙ of_configuration)

  other : (kind : Kind) (span : Span) (message : List ℕ) → is_of_configuration kind ≡ false → IsRefusal kind span message (Refused ds) → ⊥
  other kind span message differs is = apart kind differs (subst (λ es. HasFirst es (λ d. d.kind ≡ own)) is first)

  helped : (kind : Kind) (span : Span) (message help : List ℕ) → is_of_configuration kind ≡ false → IsHelpRefusal kind span message help (Refused ds) → ⊥
  helped kind span message help differs is = apart kind differs (subst (λ es. HasFirst es (λ d. d.kind ≡ own)) is first)

  other_of : (kind : Kind) (span : Span) (message : List ℕ) (instances : List (List ℕ)) → is_of_configuration kind ≡ false → IsRefusalOf kind span message instances (Refused ds) → ⊥
  other_of kind span message instances differs is = apart kind differs (subst (λ es. HasFirst es (λ d. d.kind ≡ own)) is first)

  other_for : (fault : Fault) → IsRefusedFor fault (Refused ds) → ⊥
  other_for (unknown_type x) is = other UnknownType _ _ refl is
  other_for (wrong_arity x) is = other Arity _ _ refl is
  other_for (too_large s) is = other TypeSize _ _ refl is
  other_for (bad_argument x) is = other BadArgument _ _ refl is

  nowhere : {A : Type 0} (P : A → Type 0) (xs : List A) → ((x : A) → P x → ⊥) → Somewhere P xs → ⊥
  nowhere P [] none here = here
  nowhere P (x ∷ xs) none (inl here) = none x here
  nowhere P (x ∷ xs) none (inr there) = nowhere P xs none there

  unbounded : (c : Configuration) (items : List Ident) (resolved : List DeclarationOf) → IsUnbounded c items resolved (Refused ds) → ⊥
  unbounded c items resolved (inl (crowded, (t, reachable, (span, at, is)))) = other TooManyInstances _ _ refl is
  unbounded c items resolved (inr (inl (t, reachable, large, (span, at, is)))) = other TypeSize _ _ refl is
  unbounded c items resolved (inr (inr (instances, reached, inl (t, u, r, s, differ, name, order, (span, at, is))))) = other_of NameClash _ _ _ refl is
  unbounded c items resolved (inr (inr (instances, reached, inr (names, inl (t, path, r, p, long, (span, at, is)))))) = other_of InlineDepth _ _ _ refl is
  unbounded c items resolved (inr (inr (instances, reached, inr (names, inr (shallow, (ts, shown, many, is)))))) = other TooManyCopies _ _ refl is

  rowless : (place : RenamePlace) (rows : List RenameRow) (rule : Option RenameRule) (value : SerdeValue) (x : Ident) → IsUnwritten place rows rule value x (Refused ds) → ⊥
  rowless place rows None value x h = h
  rowless place rows (Some rule) value x (none, is) = other MissingRow _ _ refl is

  tagged : (r : Result SerdeEnumRepr TagFault) → IsTagRefusal r (Refused ds) → ⊥
  tagged (Ok repr) h = h
  tagged (Err why) is = other SerdeTag _ _ refl is

  ruled : (o : Option SerdeText) → IsSomeAnd o (λ literal. (rule_named literal.text ≡ None) × IsRefusal BadValue literal.span unknown_rule (Refused ds)) → ⊥
  ruled None h = absurd h
  ruled (Some literal) h = other BadValue _ _ refl h.1

  disallowed : (items : List SerdeItem) → IsContainerRefusal items (Refused ds) → ⊥
  disallowed items (before, item, behind, whole, so_far, are, inl tag) = tagged (with_item item so_far.enum_repr) tag
  disallowed items (before, item, behind, whole, so_far, are, inr rule) = ruled (literal_for (codes "rename_all") item) rule

  typed : (around : Around) (f : FieldItem) → IsFaultyType around f (Refused ds) → ⊥
  typed around f (fault, found, is) = other_for fault is

  member : (around : Around) (rules : FieldRules) (f : FieldItem) → IsFaultyMember around rules f (Refused ds) → ⊥
  member around rules f (inl fault) = typed around f fault
  member around rules f (inr (x, ident, unwritten)) = rowless Field around.rows rules.rule (value_of f) x unwritten

  unnamed_variant : (rows : List RenameRow) (rule : Option RenameRule) (tagging : Tagging) (v : VariantItem) → IsUnnamed rows rule tagging v (Refused ds) → ⊥
  unnamed_variant rows rule Untagged v h = h
  unnamed_variant rows rule External v h = rowless Variant rows rule (value_of_variant v) v.ident h
  unnamed_variant rows rule (Internal tag) v h = rowless Variant rows rule (value_of_variant v) v.ident h
  unnamed_variant rows rule (Adjacent tag content) v h = rowless Variant rows rule (value_of_variant v) v.ident h

  twice : (xs : List Ident) → IsGivenTwice xs (Refused ds) → ⊥
  twice xs (x, repeats, is) = other DuplicateName _ _ refl is

  several : (x : Ident) (ts : List TypedOf) → AreSeveralMaps x ts (Refused ds) → ⊥
  several x [] h = h
  several x (t ∷ []) h = h
  several x (t ∷ u ∷ ts) is = apart FlattenedMaps refl (subst (λ es. HasFirst es (λ d. d.kind ≡ own)) is first)

  form : (around : Around) (items : List SerdeItem) (x : Ident) (fs : FieldItems) → AreFaultyFields around items x fs (Refused ds) → ⊥
  form around items x (named fs) (inl h) = disallowed items h
  form around items x (named fs) (inr (inl (inl h))) = nowhere _ (own_fields fs) (member around (field_rules items)) h
  form around items x (named fs) (inr (inl (inr h))) = twice _ h
  form around items x (named fs) (inr (inr (inl h))) = nowhere _ (flattened fs) (typed around) h
  form around items x (named fs) (inr (inr (inr (ts, is, h)))) = several x (maps_among ts) h
  form around items x (unnamed fs) (inl h) = nowhere _ fs (typed around) h
  form around items x (unnamed fs) (inr (none, is)) = other Arity _ _ refl is
  form around items x unit h = h

  variant : (around : Around) (rule : Option RenameRule) (tagging : Tagging) (v : VariantItem) → IsFaultyVariant around rule tagging v (Refused ds) → ⊥
  variant around rule tagging v (inl h) = unnamed_variant around.rows rule tagging v h
  variant around rule tagging v (inr (inl h)) = form around (serde_items v.attrs) v.ident v.fields h
  variant around rule tagging v (inr (inr (of, is, inl (cannot, refused)))) = helped TaggedTuple _ _ _ refl refused
  variant around rule tagging v (inr (inr (of, is, inr (taken, (tag, told, refused))))) = other DuplicateName _ _ refl refused

  body : (around : Around) (items : List SerdeItem) (x : Ident) (b : BodyItem) → IsFaultyBody around items x b (Refused ds) → ⊥
  body around items x (struct_body fs) h = form around items x fs h
  body around items x (enum_body vs) (inl (inl h)) = disallowed items h
  body around items x (enum_body vs) (inl (inr (content, is, none, refused))) = other SerdeTag _ _ refl refused
  body around items x (enum_body vs) (inr (tagging, told, inl h)) = nowhere _ (kept_variants vs) (variant around (rename_rule items) tagging) h
  body around items x (enum_body vs) (inr (tagging, told, inr h)) = twice _ h

  item : (around : Around) (d : DeclaredItem) → IsFaultyItem around d (Refused ds) → ⊥
  item around d (inl (inl h)) = twice _ h
  item around d (inl (inr h)) = twice _ h
  item around d (inr (inl (span, first, is))) = other Syntax _ _ refl is
  item around d (inr (inr (derivable, h))) = body around (serde_items d.attrs) d.ident d.body h

  faulty : (c : Configuration) (items : List DeclaredItem) → AreFaultyDeclarations c items (Refused ds) → ⊥
  faulty c items (inl h) = twice _ h
  faulty c items (inr h) = nowhere _ items (λ d. item (around_of c items d.ident.text d.generics) d) h

  declared : (c : Configuration) (items : List DeclaredItem) → AreAtFault c items (Refused ds) ⊎ IsBeyond c items (Refused ds) → ⊥
  declared c items (inl (inl (span, attributed, is))) = other Syntax _ _ refl is
  declared c items (inl (inr (derivable, fault))) = faulty c items fault
  declared c items (inr (clear, (resolved, resolves, beyond))) = unbounded c (declared_idents items) resolved beyond

  refused : (c : Configuration) (source : List ℕ) → IsRefused c source (Refused ds) → ⊥
  refused c source (inl (span, is, deep)) = other TooDeep _ _ refl is
  refused c source (inr (inl unreadable)) = other Syntax _ _ refl unreadable.1
  refused c source (inr (inr (items, read, shallow, fault))) = declared c items fault

  pub no_configuration : (c : Configuration) (source : List ℕ) → IsRefusedSource c source (Refused ds) → ⊥
  no_configuration c source (inl (long, is)) = other TooLong _ _ refl is
  no_configuration c source (inr (inl (short, (span, broken, is)))) = other Syntax _ _ refl is
  no_configuration c source (inr (inr (is_text, is))) = refused c source is
