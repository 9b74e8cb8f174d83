-- What is resolved to something is what nothing refuses.
use Rattle.std.proofs.Common.{Option, is_some, ◌≡◌, Some, ap}
use Rattle.diag.specs.Refusal.{RefusesNone}
use Rattle.diag.specs.declared.error.DeriveError.{DeriveError}
use Rattle.resolving.specs.Resolved.{ResolutionIsExact}
use Rattle.derive_decl.specs.Resolved.{form_of, units_of, mixed_of, plain_body, mixed_body, body_of, derived_body, resolved_of}
use Rattle.derive_decl.specs.Whole.{resolved_declarations}
use Rattle.derive_decl.specs.Law.{IsExact, FormsAreExact, UnitsAreExact, VariantsAreExact, PlainAreExact, MixedAreExact, BodiesAreExact, DerivedAreExact, ItemsAreExact, DeclarationsAreExact}
use Rattle.derive_decl.proofs.Clear.{NamesOnce, RulesAllowed, form_clear, units_clear, mixed_clear, plain_clear, mixed_by_clear, body_clear, derived_clear, item_clear, declarations_clear}
use Rattle.derive_decl.proofs.Resolved.{NamesDecided, RulesDecided, form_given, units_given, mixed_given, plain_given, mixed_by_given, body_given, derived_given, item_given, declarations_given}
use Rattle.derive_decl.proofs.Values.{some_is}

both : {A : Type 0} (o : Option A) (refuses : DeriveError → Type 0) → ((x : A) → o ≡ Some x → RefusesNone refuses) → (RefusesNone refuses → (x : A) × (o ≡ Some x)) → IsExact o refuses
both o refuses clear given = ((λ some. let x = some_is o some in clear x.0 x.1), (λ none. ap is_some (given none).1))

module _ (exact : ResolutionIsExact) (once : NamesOnce) (decided : NamesDecided) (allowed : RulesAllowed) (rules_decided : RulesDecided) where
  pub forms_exact : FormsAreExact
  forms_exact around items x fs have = both (form_of around items fs) _ (form_clear exact once allowed around items x fs) (form_given exact decided rules_decided around items x fs have)

  pub units_exact : UnitsAreExact
  units_exact around rule vs tagging = both (units_of around rule vs tagging) _ (units_clear exact once allowed around rule vs tagging) (units_given exact decided rules_decided around rule vs tagging)

  pub variants_exact : VariantsAreExact
  variants_exact around rule vs tagging have = both (mixed_of around rule vs tagging) _ (mixed_clear exact once allowed around rule vs tagging) (mixed_given exact decided rules_decided around rule vs tagging have)

  pub plain_exact : PlainAreExact
  plain_exact around items x vs = both (plain_body around items vs) _ (plain_clear exact once allowed around items x vs) (plain_given exact decided rules_decided around items x vs)

  pub mixed_exact : MixedAreExact
  mixed_exact around items x vs have = both (mixed_body around items vs) _ (mixed_by_clear exact once allowed around items x vs) (mixed_by_given exact decided rules_decided around items x vs have)

  pub bodies_exact : BodiesAreExact
  bodies_exact around items x body have = both (body_of around items body) _ (body_clear exact once allowed around items x body) (body_given exact decided rules_decided around items x body have)

  pub derived_exact : DerivedAreExact
  derived_exact around attributes x body have = both (derived_body around attributes body) _ (derived_clear exact once allowed around attributes x body) (derived_given exact decided rules_decided around attributes x body have)

  pub items_exact : ItemsAreExact
  items_exact around d have = both (resolved_of around d) _ (item_clear exact once allowed around d) (item_given exact decided rules_decided around d have)

  pub declarations_exact : DeclarationsAreExact
  declarations_exact c ds have = both (resolved_declarations c ds) _ (declarations_clear exact once allowed c ds) (declarations_given exact decided rules_decided c ds have)
